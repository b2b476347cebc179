-- Where the tokens of a text that is read stand in it. Assumes nothing.
use Rattle.std.specs.Prelude.{◌≡◌, ℕ, List, [], ◌∷◌, ◌++◌, Ok, Err, Result}
use Rattle.scanning.specs.Text.{start, walk}
use Rattle.reading.specs.declared.ReadFault.{ReadFault}
use Rattle.reading.specs.Items.{Item}

-- the token's part is the text's bytes at the token's place
pub record InPlace (text : List ℕ) (t : Item) : Type 0 where
  pub front : List ℕ
  pub behind : List ℕ
  pub made_up : text ≡ front ++ (t.token.part ++ behind)
  pub place : t.place ≡ walk start front

abbrev pub EachInPlace : List ℕ → List Item → Type 0
EachInPlace text [] = Unit {0}
EachInPlace text (t ∷ ts) = InPlace text t × EachInPlace text ts

abbrev pub AllInPlace : List ℕ → Result (List Item) ReadFault → Type 0
AllInPlace text (Ok ts) = EachInPlace text ts
AllInPlace text (Err e) = Unit {0}
