use Rattle.std.proofs.Common.{ℕ, List, length, get_or, ap, ◌∙◌, arith}
use Rattle.weights.specs.Weights.{steps, held}
use Rattle.weights.proofs.Held.{held_steps, read}
use Rattle.weights.proofs.Rows.{length_aheads}
use Rattle.weights.proofs.figures.Goals as goal

pub returns : goal.returns
returns c =
    let code = c.args.program.now.code in
    record {
      each = λ n h. ap (λ (t : List ℕ). get_or t n 0) c.walk.ensures ∙ read (held 60001 steps) code n 0 (omega arith) ∙ held_steps code n;
      whole = ap length c.walk.ensures ∙ length_aheads (held 60001 steps) 0 code ∙ c.args.program.now.whole;
    }
