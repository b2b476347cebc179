use Rattle.std.proofs.Common.{◌≡◌, ℕ, [], sym, refl, ap, ◌∙◌}
use Rattle.stack.specs.Entries.{entries, room}
use Rattle.program.specs.Machine.{Config, going, ticks}
use Rattle.program.specs.View.{seen, view}
use Rattle.meaning.specs.Passes.{beginning}
use Rattle.meaning.proofs.Bound.{within_figure}
use Rattle.meaning.proofs.Progress.{meant}
use Rattle.meaning.proofs.Shallow.{depth_by_chain, shallow}
use Rattle.meaning.proofs.Sound.{runs_as_meant}
use Rattle.meaning.proofs.passes.run_pass.Goals as goal

pub returns : goal.returns
returns c =
    let i = seen c.args.sight.now in
    let code = c.args.program.now.code in
    let a = c.run-steps.ensures in
    let from : (k : ℕ) → ticks i (room c.new-stack.result) code k (view c.new-cpu.result (entries c.new-stack.result)) ≡ ticks i 16 code k (going c.args.place [] (beginning c.args.bytes c.args.timers)) =
    λ k. λ j. ticks i (c.new-stack.ensures.room j) code k (view (c.new-cpu.ensures.answer j) (c.new-stack.ensures.entries j)) in
    record {
      meant = meant i code c.args.place (beginning c.args.bytes c.args.timers) c.args.allowance _
          (view c.run-steps.new.self (entries c.run-steps.new.stack))
          (record {
            ran = a.ran ∙ from c.run-steps.result;
            allowed = a.allowed;
            live = λ k h. ap (λ (x : Config). x.over) (sym (from k)) ∙ a.live k h;
            ends = refl;
            used = a.used;
          })
          refl;
      trail = runs_as_meant;
      figure = within_figure;
      depth = depth_by_chain;
      shallow = shallow;
    }
