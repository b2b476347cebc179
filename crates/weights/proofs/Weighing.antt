-- From the table to the weight of a module. Assumes nothing.
use Rattle.std.proofs.Common.{◌≡◌, ℕ, ◌-◌, ◌<◌, min, List, length, get_or, sym, ap, ◌∙◌, ap₂, inl, inr, arith}
use Rattle.std.proofs.lemmas.List.{get_or_default, get_or_past}
use Rattle.std.proofs.lemmas.Bool.{cases_lt}
use Rattle.program.specs.declared.instruction.Instruction.{Instruction}
use Rattle.meaning.specs.Nesting.{chain}
use Rattle.weights.specs.declared.weight.Weight.{Weight}
use Rattle.weights.specs.Ahead.{Rule, aheads, ahead}
use Rattle.weights.specs.Weights.{steps, modules}
use Rattle.weights.specs.Claims.{Weighed}
use Rattle.weights.proofs.Agree.{figures_agree, chains_agree}
use Rattle.weights.proofs.Rows.{length_aheads}

-- behind the table stands what is ahead of `Return`
pub looked_up : (r : Rule ℕ) (most : ℕ) (code : List Instruction) (table : List ℕ) (n z : ℕ) → length code ≡ 2048 → length table ≡ 2048 → z ≡ min most r.ends → ((k : ℕ) → k < 2048 → get_or table k 0 ≡ min most (ahead r code k)) → get_or table n z ≡ min most (ahead r code n)
looked_up r most code table n z a b e each =
    elim (cases_lt n 2048) [
      | inl lt ↦ get_or_default table n z 0 (omega arith) ∙ each n lt
      | inr le ↦ get_or_past table n z (omega arith) ∙ e ∙ ap (min most) (sym (get_or_past (aheads r 0 code) n r.ends (omega (arith, length_aheads r 0 code))))
    ]

pub weighed : (code : List Instruction) (n : ℕ) (w : Weight) → w.figure ≡ min 60001 (ahead steps code n) → w.chain ≡ min 9 (ahead modules code n) → Weighed code n w
weighed code n w f c ms l h =
    let e = ap₂ (ahead steps) h.begins h.entry ∙ figures_agree ms l h.rest in
    let d : ahead modules code n ≡ chain ms l - 1 = omega (arith, ap₂ (ahead modules) h.begins h.entry, chains_agree ms l h.rest) in
    record { by_figure = f ∙ ap (min 60001) e; by_chain = c ∙ ap (min 9) d }
