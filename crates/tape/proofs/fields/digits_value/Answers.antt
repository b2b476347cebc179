use Rattle.std.proofs.Common.{◌≡◌, ◌+◌, ◌-◌, ◌*◌, ◌<◌, ◌≤◌, None, get_or, rules, arith, ◌∙◌}
use Rattle.std.proofs.lemmas.Str.{digit_value_digit}
use Rattle.tape.proofs.Values.{grows, all_read}
use Rattle.tape.proofs.fields.digits_value.Goals as goal

pub returns-in_err-checked_mul : goal.returns-in_err-checked_mul
returns-in_err-checked_mul c =
    let text = c.args.digits.now in
    let none : c.from_residual.result ≡ None = search rules in
    let over : 65535 < c.loop-byte.value * 10 = search rules in
    none ∙ grows text c.loop-byte.value c.loop-byte.byte-index c.loop-byte-test.true c.loop-byte.invariant.1 (omega arith)

pub returns-in_err-value : goal.returns-in_err-value
returns-in_err-value c =
    let text = c.args.digits.now in
    let i = c.loop-byte.byte-index in
    let none : c.from_residual-in_err-value.result ≡ None = c.from_residual-in_err-value.ensures in
    let range : (48 ≤ get_or text i 0) × (get_or text i 0 ≤ 57) = search rules in
    let over : 65535 < c.loop-byte.value * 10 + (get_or text i 0 - 48) = search rules in
    let same = digit_value_digit (get_or text i 0) range in
    none ∙ grows text c.loop-byte.value i c.loop-byte-test.true c.loop-byte.invariant.1 (omega arith)

pub returns : goal.returns
returns c = all_read c.args.digits.now c.loop-byte.value c.loop-byte.byte-index (omega arith) c.loop-byte.invariant.0.0 c.loop-byte.invariant.0.1 c.loop-byte.invariant.1
