use Rattle.std.proofs.Common.{sym}
use Rattle.emission.proofs.Turns.{kind_at, found, sought_more, sought_all}
use Rattle.emission.proofs.place_from.Goals as goal

pub returns-then-is_label-clause-place : goal.returns-then-is_label-clause-place
returns-then-is_label-clause-place c =
    found _ _ _ _ _ c.loop-placed.invariant c.loop-placed-test.true _ (sym (kind_at c.args.tokens.now c.loop-placed.placed-index _ c.loop-placed-test.true)) c.if-is_label.ensures.is

pub loop-placed-preserved : goal.loop-placed-preserved
loop-placed-preserved c =
    sought_more _ _ _ _ _ c.loop-placed.invariant c.loop-placed-test.true _ (sym (kind_at c.args.tokens.now c.loop-placed.placed-index _ c.loop-placed-test.true)) c.if-is_label.ensures.is _ c.weight_of-place.ensures

pub returns-clause-place : goal.returns-clause-place
returns-clause-place c = sought_all _ _ _ _ _ c.loop-placed.invariant c.loop-placed-test.false
