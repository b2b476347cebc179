use Rattle.std.proofs.Common.{◌≡◌, ℕ, ◌<◌, false}
use Rattle.stack.specs.Entries.{entries, room}
use Rattle.program.specs.Machine.{ticks}
use Rattle.program.specs.View.{seen, view, SameSlots}
use Rattle.program.proofs.cpu.Cpu.run.Given as goal

abbrev pub invariant-loop-made : goal.invariant-loop-made
invariant-loop-made l =
    let most = room l.initial.stack in
    let from = view l.initial.self (entries l.initial.stack) in
    record {
      ran : view l.self (entries l.stack) ≡ ticks (seen l.sight) most l.program.code l.made from;
      live : (k : ℕ) → k < l.made → (ticks (seen l.sight) most l.program.code k from).over ≡ false;
      slots : SameSlots l.initial.stack l.stack;
    }
