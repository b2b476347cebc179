use Rattle.std.proofs.Common.{arith}
use Rattle.grammar.specs.Verdict.{kinds_of}
use Rattle.rules.proofs.Passes.{roots, all_reached}
use Rattle.rules.proofs.level.Goals as goal

pub loop-init : goal.loop-init
loop-init c = rw c.of-set.ensures (roots (kinds_of c.args.tokens.now) c.args.root (omega arith))

pub returns : goal.returns
returns c = all_reached _ _ _ _ _ c.loop.invariant c.spread.ensures c.loop-test.false
