use Rattle.std.proofs.Common.{◌≡◌, ◌+◌, ◌≤◌, take}
use Rattle.scanning.specs.Text.{start, walk}
use Rattle.grammar.proofs.end_of.Given as goal

abbrev pub invariant-loop-b : goal.invariant-loop-b
invariant-loop-b l =
    record { walked : l.place ≡ walk start (take l.b-index l.text); line : l.place.line ≤ l.b-index + 1; column : l.place.column ≤ l.b-index + 1 }
