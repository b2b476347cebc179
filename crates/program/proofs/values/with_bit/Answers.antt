use Rattle.std.proofs.Common.{ap, ◌∙◌, sym, arith}
use Rattle.program.specs.Cells.{number, with_bit}
use Rattle.program.proofs.Bits.{bit_set, bit_cleared}
use Rattle.program.proofs.values.with_bit.Goals as goal

pub returns-then-on : goal.returns-then-on
returns-then-on c = record { answer = bit_set c.args.byte c.args.r c.requires ∙ ap (λ b. with_bit c.args.byte c.args.r (number b)) (sym c.if-on.true) }

pub returns-else-on : goal.returns-else-on
returns-else-on c = record { answer = bit_cleared c.args.byte c.args.r (omega arith) c.requires ∙ ap (λ b. with_bit c.args.byte c.args.r (number b)) (sym c.if-on.false) }
