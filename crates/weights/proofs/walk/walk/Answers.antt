use Rattle.std.proofs.Common.{refl, sym, ap, arith}
use Rattle.std.proofs.lemmas.List.{drop_all}
use Rattle.weights.specs.Ahead.{aheads}
use Rattle.weights.proofs.walk.walk.Goals as goal

pub loop-place-init : goal.loop-place-init
loop-place-init g c = let p = c.args.program.now in (refl, sym (ap (aheads g.T.Tally.rule 2048) (drop_all 2048 p.code (omega arith))))
