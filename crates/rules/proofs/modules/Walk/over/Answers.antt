use Rattle.std.proofs.Common.{None, arith}
use Rattle.std.specs.Slice.Iter.{iter_rest}
use Rattle.grammar.specs.Verdict.{kinds_of}
use Rattle.rules.proofs.Seen.{length_kinds}
use Rattle.rules.proofs.Walks.{length-standing}
use Rattle.rules.proofs.modules.Walk.over.Goals as goal

pub returns-clause-fits : goal.returns-clause-fits
returns-clause-fits c = omega (arith, length-standing None (kinds_of (iter_rest c.iter.result)), length_kinds (iter_rest c.iter.result), c.iter.ensures.bound, c.iter.ensures.len)
