-- One byte of what is skipped. Assumes nothing.
use Rattle.std.proofs.Common.{◌≡◌, ℕ, ◌+◌, ◌<◌, List, length, get_or, drop, Some, None, sym, ap, ◌∙◌, subst, add-zero}
use Rattle.std.proofs.lemmas.List.{drop_more, get_or-drop}
use Rattle.faults.specs.declared.Place.{Place}
use Rattle.scanning.specs.declared.Mode.{Mode}
use Rattle.scanning.specs.Text.{past}
use Rattle.scanning.specs.Scan.{mode_after, skip_of, stands}

-- the byte behind, as the definitions read it
ahead : (xs : List ℕ) (i : ℕ) → get_or xs (i + 1) 0 ≡ get_or (drop (i + 1) xs) 0 0
ahead xs i = sym (get_or-drop (i + 1) xs 0 0 ∙ ap (λ k. get_or xs k 0) (add-zero (i + 1)))

module _ (m : Mode) (p : Place) (xs : List ℕ) (i : ℕ) (h : i < length xs) where
  pub skip_more : (n : Mode) → mode_after m p (get_or xs i 0) (get_or xs (i + 1) 0) ≡ Some n → skip_of m p (drop i xs) ≡ skip_of n (past p (get_or xs i 0)) (drop (i + 1) xs)
  skip_more n e =
      let f = subst (λ k. mode_after m p (get_or xs i 0) k ≡ Some n) (ahead xs i) e in
      rw (drop_more xs i 0 h, skip_of, f)

  pub skip_stops : mode_after m p (get_or xs i 0) (get_or xs (i + 1) 0) ≡ None → skip_of m p (drop i xs) ≡ stands p (drop i xs)
  skip_stops e =
      let f = subst (λ k. mode_after m p (get_or xs i 0) k ≡ None) (ahead xs i) e in
      rw (drop_more xs i 0 h, skip_of, f)
