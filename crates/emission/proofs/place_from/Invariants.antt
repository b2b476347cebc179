use Rattle.emission.proofs.Turns.{Sought}
use Rattle.emission.proofs.place_from.Given as goal

abbrev pub invariant-loop-placed : goal.invariant-loop-placed
invariant-loop-placed l = Sought l.tokens l.label l.placed-index l.first l.place
