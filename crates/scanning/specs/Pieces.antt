-- What a text is made of, and where its words stand: the rules as they are stated, with no word on how a text is read. Assumes nothing.
use Rattle.std.specs.Prelude.{◌≡◌, ℕ, ◌<◌, ◌≤◌, true, false, ◌⊎◌, List, [], ◌∷◌, ◌++◌, length, Ok, Err, Result, ◌≢◌, slice_index}
use Rattle.faults.specs.declared.Place.{Place}
use Rattle.scanning.specs.declared.ScanFault.{ScanFault}
use Rattle.scanning.specs.declared.ScanFault.TheVariants.{TooLong, Byte, Unclosed}
use Rattle.scanning.specs.Text.{longest, start, walk, white, allowed, bracket, in_run}

pub data Piece : Type 0 where
  blank : ℕ → Piece  -- one byte that separates
  remark : List ℕ → Piece  -- a comment: `;` and what follows, without the line feed that ends it
  block : List ℕ → Piece  -- a comment: what stands between `/*` and `*/`
  word : List ℕ → Piece  -- a bracket or a run

abbrev pub spelled : Piece → List ℕ
spelled (blank b) = b ∷ []
spelled (remark cs) = 59 ∷ cs
spelled (block cs) = 47 ∷ 42 ∷ (cs ++ 42 ∷ 47 ∷ [])
spelled (word w) = w

-- no line feed among them
abbrev pub OneLine : List ℕ → Type 0
OneLine [] = Unit {0}
OneLine (b ∷ bs) = (b ≢ 10) × OneLine bs

-- no star with a slash behind it
abbrev pub NeverClosed : List ℕ → Type 0
NeverClosed [] = Unit {0}
NeverClosed (b ∷ bs) = ((b ≡ 42) × (slice_index bs 0 ≡ 47) → ⊥) × NeverClosed bs

-- each byte of w, with the one behind it, is one of a run; after stands behind w
abbrev pub Running : List ℕ → List ℕ → Type 0
Running [] after = Unit {0}
Running (b ∷ w) after = (in_run b (slice_index (w ++ after) 0) ≡ true) × Running w after

-- bytes that go on no run: none, or a first that is not one of a run
abbrev pub RunOver : List ℕ → Type 0
RunOver after = (length after ≡ 0) ⊎ (in_run (slice_index after 0) (slice_index after 1) ≡ false)

-- the piece is what it should be where `after` stands behind it:
-- a comment ends at the first end that it has, and a run cannot be made longer
abbrev pub Stands : Piece → List ℕ → Type 0
Stands (blank b) after = white b ≡ true
Stands (remark cs) after = OneLine cs × ((length after ≡ 0) ⊎ (slice_index after 0 ≡ 10))
Stands (block cs) after = NeverClosed (cs ++ 42 ∷ [])
Stands (word w) after = ((length w ≡ 1) × (bracket (slice_index w 0) ≡ true)) ⊎ ((0 < length w) × Running w after × RunOver after)

-- the text is these pieces, and then rest
abbrev pub Cut : List Piece → List ℕ → List ℕ → Type 0
Cut [] text rest = text ≡ rest
Cut (p ∷ ps) text rest = (after : List ℕ) × (text ≡ spelled p ++ after) × Stands p after × Cut ps after rest

-- a word at its place
pub record Spot : Type 0 where
  pub place : Place
  pub bytes : List ℕ

-- the words among pieces that stand from p on, each at its place
abbrev pub words_from : Place → List Piece → List Spot
words_from p [] = []
words_from p (blank b ∷ ps) = words_from (walk p (spelled (blank b))) ps
words_from p (remark cs ∷ ps) = words_from (walk p (spelled (remark cs))) ps
words_from p (block cs ∷ ps) = words_from (walk p (spelled (block cs))) ps
words_from p (word w ∷ ps) = record { place = p; bytes = w } ∷ words_from (walk p w) ps

-- the place behind pieces that stand from p on
abbrev pub place_behind : Place → List Piece → Place
place_behind p [] = p
place_behind p (q ∷ ps) = place_behind (walk p (spelled q)) ps

-- the text is cut so and has these words
abbrev pub Words : List ℕ → List Spot → Type 0
Words text ws = (ps : List Piece) × Cut ps text [] × (ws ≡ words_from start ps)

-- behind what can be cut stands a byte that may stand in no list, at p
abbrev pub BadByte : List ℕ → Place → Type 0
BadByte text p = (ps : List Piece) × (b : ℕ) × (rest : List ℕ) × Cut ps text (b ∷ rest) × (allowed b ≡ false) × (p ≡ place_behind start ps)

-- behind what can be cut a comment is opened, at p, and closed nowhere
abbrev pub OpenComment : List ℕ → Place → Type 0
OpenComment text p = (ps : List Piece) × (rest : List ℕ) × Cut ps text (47 ∷ 42 ∷ rest) × NeverClosed rest × (p ≡ place_behind start ps)

-- which answer the rules give for a text: its words, or the first thing that is wrong with it
abbrev pub Verdict : List ℕ → Result (List Spot) ScanFault → Type 0
Verdict text (Ok ws) = (length text ≤ longest) × Words text ws
Verdict text (Err TooLong) = longest < length text
Verdict text (Err (Byte p)) = (length text ≤ longest) × BadByte text p
Verdict text (Err (Unclosed p)) = (length text ≤ longest) × OpenComment text p

-- and it is the only one
abbrev pub OneVerdict : List ℕ → Type 0
OneVerdict text = (a b : Result (List Spot) ScanFault) → Verdict text a → Verdict text b → a ≡ b
