-- What is known of a text while its words are counted and looked up one by one. Assumes nothing.
use Rattle.std.specs.Prelude.{◌≡◌, ℕ, ◌+◌, ◌≤◌, cond, List, [], ◌∷◌, length, Some, None, Ok, Err, Option, Result, ◌==◌}
use Rattle.faults.specs.declared.Place.{Place}
use Rattle.scanning.specs.declared.ScanFault.{ScanFault}
use Rattle.scanning.specs.Pieces.{Spot}
use Rattle.reading.specs.declared.Placed.{Placed}
use Rattle.reading.specs.declared.ReadFault.{ReadFault}
use Rattle.reading.specs.declared.ReadFault.TheVariants.{Scan, TooMany}
use Rattle.reading.specs.declared.Tally.{Tally}
use Rattle.scanning.specs.Scan.{scan_of}
use Rattle.reading.specs.Items.{Item, most, token_at, judged_all, written, Left}

abbrev pub fresh : Tally
fresh = record { count = 0; refused = None; extra = None }

-- the fault of a word that is no token
abbrev pub refusal : Result Item ReadFault → Option ReadFault
refusal (Ok t) = None
refusal (Err e) = Some e

abbrev pub first_of : Option ReadFault → Option ReadFault → Option ReadFault
first_of (Some e) later = Some e
first_of None later = later

-- one word more
abbrev pub noted : Tally → Spot → Tally
noted t w = record {
  count = t.count + 1;
  refused = first_of t.refused (refusal (token_at w));
  extra = cond (t.count == most) (Some w.place) t.extra;
}

abbrev pub overflow : ℕ → Option Place → Result ℕ ReadFault
overflow n None = Ok n
overflow n (Some p) = Err (TooMany p)

abbrev pub unless : Option ReadFault → Result ℕ ReadFault → Result ℕ ReadFault
unless None r = r
unless (Some e) r = Err e

-- what the tally says at the end of a text
abbrev pub outcome : Tally → Result ℕ ReadFault
outcome t = unless t.refused (overflow t.count t.extra)

abbrev pub noted_all : Tally → List Spot → Tally
noted_all t [] = t
noted_all t (w ∷ ws) = noted_all (noted t w) ws

-- what comes of a tally when the rest of the text is scanned so
abbrev pub tallied : Tally → Result (List Spot) ScanFault → Result ℕ ReadFault
tallied t (Ok ws) = outcome (noted_all t ws)
tallied t (Err e) = Err (Scan e)

-- ts stand at the front of the row, and the rest of it is as it was
pub record FilledWith (ts : List Item) (new old : List Placed) (r : Result ℕ ReadFault) : Type 0 where
  pub all : written new r ≡ Ok ts
  pub left : Left new old r

-- where the words of a text are the tokens ts, and the row has room for them
abbrev pub Filled : List ℕ → List Placed → List Placed → Result (Unit {0}) ReadFault → Type 0
Filled text new old r =
    (ts : List Item) → judged_all (scan_of text) ≡ Ok ts → length ts ≤ length old → (r ≡ Ok tt) × FilledWith ts new old (Ok (length ts))
