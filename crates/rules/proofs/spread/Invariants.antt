use Rattle.std.proofs.Common.{length}
use Rattle.grammar.specs.Verdict.{kinds_of}
use Rattle.rules.proofs.Passes.{Spreading}
use Rattle.rules.proofs.spread.Given as goal

abbrev pub invariant-loop-within : goal.invariant-loop-within
invariant-loop-within l = Spreading (kinds_of l.tokens) l.initial.set.marks l.set.marks (length l.yielded) l.grown
