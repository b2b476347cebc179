use Rattle.std.proofs.Common.{arith}
use Rattle.tape.proofs.Digits.{field_1, field_2, field_3, field_4, field_5}
use Rattle.tape.proofs.writing.number_field.Goals as goal

pub returns-in-0-to-9 : goal.returns-in-0-to-9
returns-in-0-to-9 c = field_1 c.args.n _ c.last_digit-d.ensures (omega arith)

pub returns-in-10-to-99 : goal.returns-in-10-to-99
returns-in-10-to-99 c = field_2 c.args.n _ _ c.last_digit-c.ensures c.last_digit-d.ensures (omega arith) (omega arith)

pub returns-in-100-to-999 : goal.returns-in-100-to-999
returns-in-100-to-999 c = field_3 c.args.n _ _ _ c.last_digit-b.ensures c.last_digit-c.ensures c.last_digit-d.ensures (omega arith) (omega arith)

pub returns-in-1000-to-9999 : goal.returns-in-1000-to-9999
returns-in-1000-to-9999 c = field_4 c.args.n _ _ _ _ c.last_digit-a.ensures c.last_digit-b.ensures c.last_digit-c.ensures c.last_digit-d.ensures (omega arith) (omega arith)

pub returns-in_default : goal.returns-in_default
returns-in_default c = field_5 c.args.n _ _ _ _ _ c.last_digit.ensures c.last_digit-a.ensures c.last_digit-b.ensures c.last_digit-c.ensures c.last_digit-d.ensures (omega arith) (omega arith)
