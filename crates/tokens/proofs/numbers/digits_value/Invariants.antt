use Rattle.std.proofs.Common.{◌≡◌, ◌^◌, ◌<◌, drop}
use Rattle.tokens.specs.Numbers.{value_after}
use Rattle.tokens.proofs.numbers.digits_value.Given as goal

abbrev pub invariant-loop-byte : goal.invariant-loop-byte
invariant-loop-byte l = (l.value < 16 ^ l.byte-index) × (value_after l.radix l.value (drop l.byte-index l.part) ≡ value_after l.radix 0 l.part)
