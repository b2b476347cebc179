use Rattle.std.proofs.Common.{refl}
use Rattle.meaning.specs.Example.{two_levels}
use Rattle.linking_samples.proofs.Worked.{empty_refused, worked_accepted}
use Rattle.linking_samples.proofs.samples_stand.Goals as goal

pub returns : goal.returns
returns c = record { empty_text = empty_refused; by_ten = refl; worked_run = (two_levels, worked_accepted) }
