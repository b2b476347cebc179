use Rattle.std.proofs.Common.{◌≤◌, arith}
use native.Mathlib.Nat.{pow-le-pow_right}
use Rattle.tokens.proofs.Digits.{small}
use Rattle.tokens.proofs.numbers.digits_value.Goals as goal

pub overflow_mul-value : goal.overflow_mul-value
overflow_mul-value c = omega (arith, small _ c.args.radix 0 _ c.loop-byte.invariant.0 (omega arith) c.requires.radix_bound (omega arith))

pub overflow_add-value : goal.overflow_add-value
overflow_add-value c = omega (arith, small _ _ _ _ c.loop-byte.invariant.0 (omega arith) c.requires.radix_bound c.in_ok-value.ensures.small)

pub returns-clause-small : goal.returns-clause-small
returns-clause-small c =
    let h : c.loop-byte.byte-index ≤ c.args.most = omega arith in
    omega (arith, pow-le-pow_right {n = 16} (omega arith) h)
