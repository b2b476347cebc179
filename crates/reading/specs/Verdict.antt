-- Which answer the rules give for a text, in the order of the rules: the text is cut into words, each word is a token,
-- and there are not too many. Nothing here says how a text is read. Assumes nothing.
use Rattle.std.specs.Prelude.{◌≡◌, ℕ, ◌≤◌, List, [], ◌∷◌, ◌++◌, length, Ok, Err, Result}
use Rattle.faults.specs.declared.Place.{Place}
use Rattle.scanning.specs.Pieces.{Spot}
use Rattle.scanning.specs.Pieces.{Verdict as Scanned}
use Rattle.tokens.specs.Listed.{Listed, NotListed, Neighbour}
use Rattle.reading.specs.declared.ReadFault.{ReadFault}
use Rattle.reading.specs.declared.ReadFault.TheVariants.{Scan, Unlisted, OutOfRange, TooMany}
use Rattle.reading.specs.Items.{Item, most}

-- each word is listed, and these are the tokens: part, kind and place
abbrev pub Tokens : List Spot → List Item → Type 0
Tokens [] [] = Unit {0}
Tokens [] (t ∷ ts) = ⊥
Tokens (w ∷ ws) [] = ⊥
Tokens (w ∷ ws) (t ∷ ts) =
    (t.place ≡ w.place) × (t.token.part ≡ w.bytes) × Listed w.bytes t.token.kind × Tokens ws ts

-- the first word that is no token stands at p, and R says why it is none
pub record FirstRefused (R : List ℕ → Type 0) (ws : List Spot) (p : Place) : Type 0 where
  pub front : List Spot
  pub tokens : List Item
  pub word : Spot
  pub behind : List Spot
  pub made_up : ws ≡ front ++ word ∷ behind
  pub front_listed : Tokens front tokens
  pub refused : R word.bytes
  pub place : p ≡ word.place

-- there are more tokens than a text may have, and the first too many stands at p
pub record TooManyTokens (ws : List Spot) (p : Place) : Type 0 where
  pub front : List Spot
  pub tokens : List Item
  pub word : Spot
  pub behind : List Spot
  pub made_up : ws ≡ front ++ word ∷ behind
  pub all_listed : Tokens ws tokens
  pub full : length front ≡ most
  pub place : p ≡ word.place

-- the text is cut into words of which P holds
pub record CutInto (text : List ℕ) (P : List Spot → Type 0) : Type 0 where
  pub words : List Spot
  pub cut : Scanned text (Ok words)
  pub so : P words

abbrev pub Verdict : List ℕ → Result (List Item) ReadFault → Type 0
Verdict text (Ok ts) = CutInto text (λ ws. Tokens ws ts × (length ts ≤ most))
Verdict text (Err (Scan e)) = Scanned text (Err e)
Verdict text (Err (Unlisted p)) = CutInto text (λ ws. FirstRefused (λ w. NotListed w × (Neighbour w → ⊥)) ws p)
Verdict text (Err (OutOfRange p)) = CutInto text (λ ws. FirstRefused (λ w. NotListed w × Neighbour w) ws p)
Verdict text (Err (TooMany p)) = CutInto text (λ ws. TooManyTokens ws p)

-- and it is the only one
abbrev pub OneVerdict : List ℕ → Type 0
OneVerdict text = (a b : Result (List Item) ReadFault) → Verdict text a → Verdict text b → a ≡ b
