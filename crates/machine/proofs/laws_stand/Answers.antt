use Rattle.machine.proofs.Lawful.{machine_is_lawful, goes_on}
use Rattle.machine.proofs.Turns.{intervals_go}
use Rattle.machine.proofs.laws_stand.Goals as goal

pub returns : goal.returns
returns c = record { lawful = machine_is_lawful; on = goes_on; turns = intervals_go }
