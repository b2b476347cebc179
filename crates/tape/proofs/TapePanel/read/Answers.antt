use Rattle.tape.specs.Tape.{sized_tape}
use Rattle.tape.proofs.TapePanel.read.Goals as goal

pub returns-in_err-at-clause-sized : goal.returns-in_err-at-clause-sized
returns-in_err-at-clause-sized c = sized_tape c.args.self.now

pub returns-clause-sized : goal.returns-clause-sized
returns-clause-sized c = sized_tape c.args.self.now
