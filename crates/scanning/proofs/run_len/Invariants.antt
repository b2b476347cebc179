use Rattle.std.proofs.Common.{◌≡◌, ◌+◌, drop}
use Rattle.scanning.specs.Scan.{run_of}
use Rattle.scanning.proofs.run_len.Given as goal

abbrev pub invariant-loop-n : goal.invariant-loop-n
invariant-loop-n l = run_of (drop l.n l.bytes) + l.n ≡ run_of l.bytes
