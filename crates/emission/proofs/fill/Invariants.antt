use Rattle.std.proofs.Common.{drop}
use Rattle.grammar.specs.Verdict.{kinds_of}
use Rattle.emission.proofs.Fills.{Filled}
use Rattle.emission.proofs.fill.Given as goal

abbrev pub invariant-loop-i : goal.invariant-loop-i
invariant-loop-i l = Filled (kinds_of l.tokens) (drop l.i (kinds_of l.tokens)) l.initial.code l.code l.pending l.n
