use Rattle.meaning.proofs.Example.{examples_stand}
use Rattle.meaning.proofs.examples_stand.Goals as goal

pub returns : goal.returns
returns c = examples_stand
