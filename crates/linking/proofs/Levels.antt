-- Cause 13. Assumes nothing.
use Rattle.std.proofs.Common.{◌≡◌, ℕ, ◌-◌, List, ◌++◌, length, replicate, sym, refl, ap, ◌∙◌, inl, inr, ⊎_elim, arith}
use native.Mathlib.Decide.{dec_lt}
use Rattle.faults.specs.declared.Place.{Place}
use Rattle.tokens.specs.Tokens.{Kind}
use Rattle.reading.specs.Items.{Item}
use Rattle.grammar.specs.Grammar.{Module, spell}
use Rattle.grammar.specs.Verdict.{kinds}
use Rattle.program.specs.declared.record.Program.{Program}
use Rattle.program.specs.declared.instruction.Instruction.{Instruction}
use Rattle.program.specs.declared.instruction.Instruction.TheVariants.{Return}
use Rattle.meaning.specs.Code.{code, place_of}
use Rattle.meaning.specs.Figure.{figure}
use Rattle.emission.specs.Emission.{emitted, place_in}
use Rattle.emission.proofs.Trees.{code_by_tokens, places_by_tokens}
use Rattle.rules.specs.Findings.{NoneAt}
use Rattle.rules.specs.Labels.{IsLabel, Unlinked}
use Rattle.weights.specs.declared.weight.Weight.{Weight}
use Rattle.weights.specs.Claims.{CodeOf, WeightOf}
use Rattle.linking.specs.declared.LinkFault.TheVariants.{Overweight as TooGreat}
use Rattle.linking.specs.Rules.{Heavy, Overweight}
use Rattle.linking.specs.Judging.{Assembled, LabelPlace, FaultIn}

-- both labels stand in the text
pub there_1 : (ks : List Kind) → NoneAt (Unlinked ks) → NoneAt (IsLabel ks 1) → ⊥
there_1 ks h none = h (length ks) (inr (refl, λ both. none both.1.0 both.1.3))

pub there_0 : (ks : List Kind) → NoneAt (Unlinked ks) → NoneAt (IsLabel ks 0) → ⊥
there_0 ks h none = h (length ks) (inr (refl, λ both. none both.0.0 both.0.3))

module _ (ks : List Kind) (p : Program) (a : Assembled ks p) (ms : List Module) (e : spell ms ≡ ks) where
  emitted_is : emitted ks ≡ code ms
  emitted_is = ap emitted (sym e) ∙ code_by_tokens ms

  place_is : (l : ℕ) → place_in l 0 ks ≡ place_of ms l
  place_is l = ap (place_in l 0) (sym e) ∙ places_by_tokens ms l

  begins_so : p.code ≡ code ms ++ replicate (2048 - length (emitted ks)) Return
  begins_so = a.instructions ∙ ap (λ (c : List Instruction). c ++ replicate (2048 - length (emitted ks)) Return) emitted_is

  pub quick_code : (n : ℕ) → n ≡ p.quick → CodeOf ms 1 p.code n
  quick_code n f = record { rest = replicate (2048 - length (emitted ks)) Return; begins = begins_so; entry = f ∙ a.quick ∙ place_is 1 }

  pub slow_code : (n : ℕ) → n ≡ p.slow → CodeOf ms 0 p.code n
  slow_code n f = record { rest = replicate (2048 - length (emitted ks)) Return; begins = begins_so; entry = f ∙ a.slow ∙ place_is 0 }

module _ (text : List ℕ) (ts : List Item) (ms : List Module) where
  pub quick_fault : (p : Place) → LabelPlace text ts 1 p → Heavy ms 1 → FaultIn (Overweight (kinds ts) ms) text ts (TooGreat p)
  quick_fault p h heavy = record {
    index = h.index;
    broken = (inl (h.first.0, heavy), λ j lt o. ⊎_elim (λ x. h.first.1 j lt x.0) (λ x. x.2 heavy) o);
    fault = ap TooGreat h.place;
  }

  pub slow_fault : (p : Place) → LabelPlace text ts 0 p → (Heavy ms 1 → ⊥) → Heavy ms 0 → FaultIn (Overweight (kinds ts) ms) text ts (TooGreat p)
  slow_fault p h light heavy = record {
    index = h.index;
    broken = (inr (h.first.0, heavy, light), λ j lt o. ⊎_elim (λ x. light x.1) (λ x. h.first.1 j lt x.0) o);
    fault = ap TooGreat h.place;
  }

pub not_overweight : (ks : List Kind) (ms : List Module) → (Heavy ms 1 → ⊥) → (Heavy ms 0 → ⊥) → NoneAt (Overweight ks ms)
not_overweight ks ms q s j o = ⊎_elim (λ x. q x.1) (λ x. s x.1) o

-- a figure that is not held
pub exact : (ms : List Module) (l : ℕ) (w : Weight) → WeightOf ms l w → (Heavy ms l → ⊥) → w.figure ≡ figure ms l
exact ms l w h light = elim (dec_lt 60000 (figure ms l)) [
  | yes lt ↦ absurd (light (inr lt))
  | no ge ↦ omega (arith, h.by_figure)
]
