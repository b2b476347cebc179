use Rattle.std.proofs.Common.{◌≡◌, ◌*◌, [], ◌∷◌, map, length, take, drop}
use Rattle.tape.specs.Format.{fields_bytes}
use Rattle.tape.specs.Writing.{entry_from}
use Rattle.tape.proofs.writing.write_line.Given as goal

abbrev pub invariant-loop-k : goal.invariant-loop-k
invariant-loop-k l =
    (length l.line ≡ 49)
    × (take (6 * l.k) l.line ≡ fields_bytes (map entry_from (take l.k l.entries)))
    × (drop 48 l.line ≡ 10 ∷ [])
