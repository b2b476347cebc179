use Rattle.std.proofs.Common.{◌≡◌, ℕ, ◌-◌, true, List, ◌++◌, length, replicate, ap, ◌∙◌}
use Rattle.program.specs.declared.instruction.Instruction.{Instruction}
use Rattle.program.specs.declared.instruction.Instruction.TheVariants.{Return}
use Rattle.program.specs.Sound.{fine, sound, padded}
use Rattle.program.proofs.Soundness.{parts, padded_fine}
use Rattle.program.proofs.record.Program.load.Goals as goal

pub invariant_of-self : goal.invariant_of-self
invariant_of-self c =
    let code = c.args.code.now in
    let len = length code in
    let whole = c.args.self.now.whole in
    let yes : sound code c.args.quick c.args.slow ≡ true = cc in
    let p = parts code c.args.quick c.args.slow yes in
    let is : c.fill.new.slots ≡ padded code = c.fill.ensures.answer ∙ ap (λ (m : ℕ). code ++ replicate (m - len) Return) whole in record {
      whole = c.fill.auto.slots ∙ whole;
      within = p.short;
      quick_inside = p.quick_inside;
      slow_inside = p.slow_inside;
      sound = λ n. ap (λ (xs : List Instruction). fine xs len n) is ∙ padded_fine code p.each n;
    }
