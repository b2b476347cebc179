-- A search has one answer.
use Rattle.std.proofs.Common.{◌≡◌, ℕ, Some, None, refl, ap, inl, inr}
use Rattle.std.proofs.lemmas.Bool.{cases_order}
use Rattle.rules.specs.Findings.{First, OneFinding}

pub first_once : (P : ℕ → Type 0) (i j : ℕ) → First P i → First P j → i ≡ j
first_once P i j f g = elim (cases_order i j) [ inl e ↦ e | inr o ↦ elim o [ inl lt ↦ absurd (g.1 i lt f.0) | inr gt ↦ absurd (f.1 j gt g.0) ] ]

pub one_finding : (P : ℕ → Type 0) → OneFinding P
one_finding P None None f g = refl
one_finding P None (Some j) f g = absurd (f j g.0)
one_finding P (Some i) None f g = absurd (g i f.0)
one_finding P (Some i) (Some j) f g = ap Some (first_once P i j f g)
