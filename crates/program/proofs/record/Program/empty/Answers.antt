use Rattle.std.proofs.Common.{refl, arith}
use Rattle.program.proofs.Soundness.{returns_fine}
use Rattle.program.proofs.record.Program.empty.Goals as goal

pub invariant_of-result : goal.invariant_of-result
invariant_of-result c = record { whole = refl; within = omega arith; quick_inside = omega arith; slow_inside = omega arith; sound = λ n. returns_fine 2048 2 n }
