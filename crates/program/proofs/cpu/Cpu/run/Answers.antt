use Rattle.std.proofs.Common.{sym, ap, ◌∙◌, below_more}
use Rattle.stack.specs.Entries.{entries, room}
use Rattle.program.specs.Machine.{Config}
use Rattle.program.specs.View.{seen, view}
use Rattle.program.proofs.Steps.{one_more}
use Rattle.program.proofs.cpu.Cpu.run.Goals as goal

pub loop-made-preserved : goal.loop-made-preserved
loop-made-preserved c =
    let inv = c.loop-made.invariant in
    let slots = c.execute.ensures.slots in
    let most = room c.args.stack.now in
    let from = view c.args.self.now (entries c.args.stack.now) in
    let code = c.args.program.now.code in
    let inputs = seen c.args.sight.now in
    let here = view c.loop-made.self (entries c.loop-made.stack) in record {
      ran = one_more inputs most (room c.loop-made.stack) code c.loop-made.made from here (view c.execute.new.self (entries c.execute.new.stack)) inv.ran inv.slots.room c.execute.ensures.view;
      live = below_more _ _ inv.live (sym (ap (λ (x : Config). x.over) inv.ran) ∙ c.execute.ensures.live);
      slots = record { room = slots.room ∙ inv.slots.room; lender = slots.lender ∙ inv.slots.lender };
    }
