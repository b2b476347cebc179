use Rattle.stack.proofs.Tops.{front_less}
use Rattle.stack.proofs.stacks.Stack.pop.Goals as goal

pub returns-clause-entries : goal.returns-clause-entries
returns-clause-entries g c = let s = c.args.self.now in front_less s.slots.now s.len s.ok
