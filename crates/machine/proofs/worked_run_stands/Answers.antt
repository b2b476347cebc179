use Rattle.machine.proofs.Example.{worked_run}
use Rattle.machine.proofs.worked_run_stands.Goals as goal

pub returns : goal.returns
returns c = worked_run
