use Rattle.grammar.specs.Verdict.{kinds_of}
use Rattle.rules.specs.Tables.{unmarked}
use Rattle.rules.proofs.Passes.{Reaching}
use Rattle.rules.proofs.level.Given as goal

abbrev pub invariant-loop : goal.invariant-loop
invariant-loop l = Reaching (kinds_of l.tokens) l.root l.set.marks

abbrev pub decreases-loop : goal.decreases-loop
decreases-loop l = unmarked l.set.marks
