use Rattle.machine.proofs.Lists.{lists_bounded}
use Rattle.machine.proofs.lists_stand.Goals as goal

pub returns : goal.returns
returns c = lists_bounded
