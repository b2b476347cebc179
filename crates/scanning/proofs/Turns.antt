-- One call of `next_word`, for loops over a scanner. Assumes nothing.
use Rattle.std.proofs.Common.{◌≡◌, ℕ, suc, ◌+◌, ◌-◌, ◌<◌, ◌≤◌, Bool, true, false, cond, leb, List, [], length, drop, Some, Ok, Err, Option, Result, sym, refl, ap, ◌∙◌, subst, arith}
use Rattle.faults.specs.declared.Place.{Place}
use Rattle.scanning.specs.declared.Cursor.{Cursor}
use Rattle.scanning.specs.declared.Word.{Word}
use Rattle.scanning.specs.declared.ScanFault.{ScanFault}
use Rattle.scanning.specs.declared.ScanFault.TheVariants.{TooLong}
use Rattle.scanning.specs.Text.{longest}
use Rattle.scanning.specs.Pieces.{Spot}
use Rattle.scanning.specs.Scan.{before, finished, refused, found, next_of, next_in, words_by, scan_of, origin, told_by, Moves}

-- what is left to scan at c, behind n words
abbrev pub left_of : List ℕ → ℕ → Cursor → Result (List Spot) ScanFault
left_of text n c = cond (leb (length text) longest) (words_by (suc (length text - n)) c.place (drop c.at text)) (Err TooLong)

abbrev pub spot_of : Word → Spot
spot_of w = record { place = w.place; bytes = w.part.now }

by_more : (k n : ℕ) (p q r : Place) (bs w rest : List ℕ) → n < k → next_of p bs ≡ found q w r rest → words_by (suc (k - n)) p bs ≡ before (record { place = q; bytes = w }) (words_by (suc (k - (n + 1))) r rest)
by_more k n p q r bs w rest h e =
    let fuel : k - n ≡ suc (k - (n + 1)) = omega arith in
    let one : words_by (suc (k - n)) p bs ≡ before (record { place = q; bytes = w }) (words_by (k - n) r rest) = rw (words_by, e) in
    one ∙ ap (λ j. before (record { place = q; bytes = w }) (words_by j r rest)) fuel

-- by the outcome t of the test of the text's length
more_if : (t : Bool) (text : List ℕ) (n : ℕ) (c d : Cursor) (q : Place) (w : List ℕ) → n < length text → cond t (next_of c.place (drop c.at text)) (refused TooLong) ≡ found q w d.place (drop d.at text) → cond t (words_by (suc (length text - n)) c.place (drop c.at text)) (Err TooLong) ≡ before (record { place = q; bytes = w }) (cond t (words_by (suc (length text - (n + 1))) d.place (drop d.at text)) (Err TooLong))
more_if true text n c d q w h e = by_more (length text) n c.place q d.place (drop c.at text) w (drop d.at text) h e
more_if false text n c d q w h e = refl

end_if : (t : Bool) (text : List ℕ) (n : ℕ) (c : Cursor) → cond t (next_of c.place (drop c.at text)) (refused TooLong) ≡ finished → cond t (words_by (suc (length text - n)) c.place (drop c.at text)) (Err TooLong) ≡ Ok []
end_if true text n c e = rw (words_by, e)
end_if false text n c e = absurd (cc)

fault_if : (t : Bool) (text : List ℕ) (n : ℕ) (c : Cursor) (f : ScanFault) → cond t (next_of c.place (drop c.at text)) (refused TooLong) ≡ refused f → cond t (words_by (suc (length text - n)) c.place (drop c.at text)) (Err TooLong) ≡ Err f
fault_if true text n c f e = rw (words_by, e)
fault_if false text n c f e = let same : TooLong ≡ f = cc in ap Err same

-- no word is left
pub left_end : (text : List ℕ) (n : ℕ) (c : Cursor) → next_in text c ≡ finished → left_of text n c ≡ Ok []
left_end text n c e = end_if (leb (length text) longest) text n c e

-- what is left is refused
pub left_fault : (text : List ℕ) (n : ℕ) (c : Cursor) (f : ScanFault) → next_in text c ≡ refused f → left_of text n c ≡ Err f
left_fault text n c f e = fault_if (leb (length text) longest) text n c f e

-- at the first byte all is left
pub left_all : (text : List ℕ) → left_of text 0 origin ≡ scan_of text
left_all text = ap (λ k. cond (leb (length text) longest) (words_by (suc k) origin.place text) (Err TooLong)) (omega arith)

-- a word came: the scanner went from old, behind n words, to new
pub record Turn (text : List ℕ) (n : ℕ) (old new : Cursor) (w : Spot) : Type 0 where
  pub goes : old.at < new.at
  pub within : new.at ≤ length text
  pub more : left_of text n old ≡ before w (left_of text (n + 1) new)

module _ (text at_entry at_exit : List ℕ) (n : ℕ) (old new : Cursor) (r : Result (Option Word) ScanFault) where
  pub turned : (w : Word) → r ≡ Ok (Some w) → at_entry ≡ text → at_exit ≡ at_entry → Moves r old new → told_by r new at_exit ≡ next_in at_entry old → new.at ≤ length at_exit → n ≤ old.at → Turn text n old new (spot_of w)
  turned w came here same moves told in-text low =
      let goes : old.at < new.at = subst (λ x. Moves x old new) came moves in
      let within : new.at ≤ length text = omega (arith, ap length same, ap length here) in
      let next : next_in text old ≡ found w.place w.part.now new.place (drop new.at text) =
      ap (λ x. next_in x old) (sym here) ∙ sym told ∙ ap (λ x. told_by x new at_exit) came
      ∙ ap (λ x. found w.place w.part.now new.place (drop new.at x)) (same ∙ here) in
      record {
        goes = goes;
        within = within;
        more = more_if (leb (length text) longest) text n old new w.place w.part.now (omega arith) next;
      }
