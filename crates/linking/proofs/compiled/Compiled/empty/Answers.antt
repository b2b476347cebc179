use Rattle.std.proofs.Common.{rules}
use Rattle.linking.specs.Records.{two_empty}
use Rattle.linking.proofs.Empty.{accepted_empty}
use Rattle.linking.proofs.compiled.Compiled.empty.Goals as goal

pub invariant_of-result : goal.invariant_of-result
invariant_of-result c = record { compiled = ∣ record { text = _; modules = two_empty; accepted = accepted_empty; recorded = search rules } ∣₁ }
