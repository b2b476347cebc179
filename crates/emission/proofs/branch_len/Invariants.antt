use Rattle.emission.proofs.Turns.{Gone}
use Rattle.emission.proofs.branch_len.Given as goal

abbrev pub invariant-loop-placed : goal.invariant-loop-placed
invariant-loop-placed l = Gone l.tokens l.placed-index l.depth l.n
