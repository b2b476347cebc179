-- The worked run computes. Assumes nothing.
use Rattle.std.proofs.Common.{refl}
use Rattle.machine.specs.Example.{WorkedRun}

pub worked_run : WorkedRun
worked_run = record { answers = refl }
