-- One more file of a command. Assumes nothing.
use Rattle.std.proofs.Common.{◌≡◌, ◌+◌, ◌<◌, inl, inr, ℕ, Bool, true, false, ◌&&◌, List, length, Ok, Result, slice_index_or, sym, refl, subst, arith}
use Rattle.std.specs.Prelude.{IfOk}
use Rattle.std.proofs.Math.Nat.{eq-or-lt_of_le}
use Rattle.std.proofs.lemmas.List.{get_or_default}
use Rattle.reporting.specs.declared.files.Source.{Source}
use Rattle.reporting.specs.Files.{IsWell}

pub both : (a b : Bool) → (a && b) ≡ true → (a ≡ true) × (b ≡ true)
both true true e = (refl, refl)
both true false e = (refl, e)
both false b e = (e, absurd (cc))

-- what holds of the first n items, and of the next one, holds of one more
pub one_more : {X : Type 0} (P : X → Type 0) (xs : List X) (n : ℕ) (x : X) → n < length xs → x ≡ slice_index_or xs n x → ((k : ℕ) (d : X) → k < n → P (slice_index_or xs k d)) → P x → (k : ℕ) (d : X) → k < n + 1 → P (slice_index_or xs k d)
one_more P xs n x in-xs is before now k d h = elim (eq-or-lt_of_le {n = k} {m = n} (omega arith)) [
  | inl e ↦ subst (λ i. P (slice_index_or xs i d)) (sym e) (subst P (get_or_default xs n x d in-xs) (subst P is now))
  | inr l ↦ before k d l
]

-- the step said so of a file that it was given
pub told_well : {E : Type 0} (post : Source → Result Bool E → Type 0) (r : Result Bool E) (well : Bool) (name : List ℕ) → r ≡ Ok well → IfOk r (λ w. w ≡ true → (source : Source) × (source.name.now ≡ name) × post source r) → well ≡ true → IsWell post name
told_well post r well name was told e =
    let s = subst (λ x. IfOk x (λ w. w ≡ true → (source : Source) × (source.name.now ≡ name) × post source x)) was told e in
    (s.0, s.1, subst (λ w. post s.0 (Ok w)) e s.2)
