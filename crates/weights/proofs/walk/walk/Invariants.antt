use Rattle.std.proofs.Common.{◌≡◌, length, drop}
use Rattle.weights.specs.Ahead.{aheads}
use Rattle.weights.proofs.walk.walk.Given as goal

abbrev pub invariant-loop-place : goal.invariant-loop-place
invariant-loop-place g l =
    (length l.table ≡ 2048)
    × (drop l.place l.table ≡ aheads g.T.Tally.rule l.place (drop l.place l.program.code))
