use Rattle.std.proofs.Common.{◌≡◌, ◌≤◌, drop}
use Rattle.std.specs.Str.{all_ascii_digits}
use Rattle.std.specs.Str.Parse.{digits_value, digits_value_after}
use Rattle.tape.proofs.fields.digits_value.Given as goal

abbrev pub invariant-loop-byte : goal.invariant-loop-byte
invariant-loop-byte l =
    ((l.value ≤ 65535) × (all_ascii_digits (drop l.byte-index l.digits) ≡ all_ascii_digits l.digits))
    × (digits_value_after 10 l.value (drop l.byte-index l.digits) ≡ digits_value 10 l.digits)
