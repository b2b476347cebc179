-- What judging a text says of reading it. Assumes nothing.
use Rattle.std.proofs.Common.{◌≡◌, ℕ, ◌≤◌, Bool, true, false, cond, leb, List, length, get_or, Ok, Err, Result, sym, refl, ap, ◌∙◌, arith, leb-true}
use Rattle.std.proofs.lemmas.Bool.{cond-true}
use Rattle.scanning.specs.Scan.{scan_of}
use Rattle.reading.specs.declared.ReadFault.{ReadFault}
use Rattle.reading.specs.declared.ReadFault.TheVariants.{TooMany}
use Rattle.reading.specs.Items.{Item, most, judged_all, blank_item, capped, read_of}
use Rattle.reading.specs.Tally.{fresh, tallied}
use Rattle.reading.proofs.Tallies.{counted, tallied_all}

same_fault : (e : ReadFault) (r : Result (List Item) ReadFault) → Err e ≡ counted r → Err e ≡ r
same_fault e (Ok ts) h = absurd (cc)
same_fault e (Err f) h = let same : e ≡ f = cc in ap Err same

-- a text that is judged to be refused is so when read
pub refused_whole : (text : List ℕ) (e : ReadFault) → Err e ≡ tallied fresh (scan_of text) → Err e ≡ read_of text
refused_whole text e h = same_fault e (read_of text) (h ∙ tallied_all (scan_of text))

-- a text that is accepted with n tokens
pub record Accepted (text : List ℕ) (n : ℕ) : Type 0 where
  pub tokens : List Item
  pub count : n ≡ length tokens
  pub judged : judged_all (scan_of text) ≡ Ok tokens
  pub few : length tokens ≤ most
  pub read : Ok tokens ≡ read_of text

-- by the outcome of the test of how many tokens there are
fits_if : (text : List ℕ) (n : ℕ) (ts : List Item) (e : ReadFault) (b : Bool) → leb (length ts) most ≡ b → judged_all (scan_of text) ≡ Ok ts → Ok n ≡ counted (cond b (Ok ts) (Err e)) → Accepted text n
fits_if text n ts e true t j h =
    let same : Ok n ≡ Ok (length ts) = h in
    record { tokens = ts; count = cc; judged = j; few = omega (arith, leb-true, t); read = sym (cond-true _ _ _ t) ∙ ap capped (sym j) }
fits_if text n ts e false t j h = absurd (cc)

fits : (text : List ℕ) (n : ℕ) (r : Result (List Item) ReadFault) → judged_all (scan_of text) ≡ r → Ok n ≡ counted (capped r) → Accepted text n
fits text n (Ok ts) j h = fits_if text n ts (TooMany (get_or ts most blank_item).place) (leb (length ts) most) refl j h
fits text n (Err f) j h = absurd (cc)

pub accepted_whole : (text : List ℕ) (n : ℕ) → Ok n ≡ tallied fresh (scan_of text) → Accepted text n
accepted_whole text n h = fits text n (judged_all (scan_of text)) refl (h ∙ tallied_all (scan_of text))
