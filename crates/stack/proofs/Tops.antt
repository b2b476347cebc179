-- The first slots, the last of them first: one less of them.
use Rattle.std.proofs.Common.{◌≡◌, ℕ, zero, suc, ◌+◌, ◌-◌, ◌<◌, ◌≤◌, List, [], ◌∷◌, reverse, length, get_or, take, sym, refl, ap, ◌∙◌, arith}
use Rattle.std.proofs.lemmas.List.{take_more, reverse-append}
use Rattle.stack.specs.Entries.{front, without_newest}

front_more : {X : Type 0} (xs : List X) (m n : ℕ) (d : X) → n + 1 ≡ m → n < length xs → front m xs ≡ get_or xs n d ∷ front n xs
front_more xs m n d e h =
    ap (λ (k : ℕ). front k xs) (sym e) ∙ ap reverse (take_more xs n d h) ∙ reverse-append (take n xs) (get_or xs n d ∷ [])

pub front_less : {X : Type 0} (xs : List X) (n : ℕ) → n ≤ length xs → front (n - 1) xs ≡ without_newest (front n xs)
front_less xs zero h = refl
front_less [] (suc n) h = let none : ⊥ = omega arith in elim none [ ]
front_less (x ∷ xs) (suc n) h = sym (ap without_newest (front_more (x ∷ xs) (suc n) (suc n - 1) x (omega arith) (omega arith)))
