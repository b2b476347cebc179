-- One turn of the search for a word. Assumes nothing.
use Rattle.std.proofs.Common.{◌≡◌, ◌∙◌, Bool, true, false, List, ℕ, Option, Result, Some, None, Ok, Err, sym, subst}
use Rattle.scanning.specs.declared.Cursor.{Cursor}
use Rattle.scanning.specs.declared.Word.{Word}
use Rattle.scanning.specs.declared.ScanFault.{ScanFault}
use Rattle.scanning.specs.Scan.{next_in, told_by}
use Rattle.reporting.specs.Search.{FirstFrom, WordAt, ends, stops, here, later}

module _ (text at_entry at_exit : List ℕ) (c d : Cursor) (r : Result (Option Word) ScanFault) where
  -- what a call told, of the text itself
  pub told_of : at_entry ≡ text → at_exit ≡ at_entry → told_by r d at_exit ≡ next_in at_entry c → told_by r d text ≡ next_in text c
  told_of at same told = subst (λ t. told_by r d t ≡ next_in text c) (same ∙ at) (subst (λ t. told_by r d at_exit ≡ next_in t c) at told)

  -- the word that came is the next one
  pub came_next : (w : Word) → r ≡ Ok (Some w) → told_by r d text ≡ next_in text c → WordAt text c w d
  came_next w came told = sym (subst (λ x. told_by x d text ≡ next_in text c) came told)

module _ {holds : Word → Bool → Type 0} (text : List ℕ) (c d : Cursor) (r : Result (Option Word) ScanFault) where
  -- the text has no further word
  pub none_left : r ≡ Ok None → told_by r d text ≡ next_in text c → FirstFrom holds text c None
  none_left came told = ends (sym (subst (λ x. told_by x d text ≡ next_in text c) came told))

  -- the text cannot be read on
  pub none_read : (e : ScanFault) → r ≡ Err e → told_by r d text ≡ next_in text c → FirstFrom holds text c None
  none_read e came told = stops e (sym (subst (λ x. told_by x d text ≡ next_in text c) came told))

-- a test that says the same of each word finds the same
pub first_by : {P Q : Word → Bool → Type 0} {text : List ℕ} → ((w : Word) (b : Bool) → P w b → Q w b) → {c : Cursor} {r : Option Word} → FirstFrom P text c r → FirstFrom Q text c r
first_by f (ends e) = ends e
first_by f (stops e h) = stops e h
first_by f (here w d n h) = here w d n (f w true h)
first_by f (later w d n h more) = later w d n (f w false h) (first_by f more)
