-- The tokens of a text, each at its place, or its fault. Assumes nothing.
use Rattle.std.specs.Prelude.{◌≡◌, ℕ, cond, List, [], ◌∷◌, ◌++◌, map, length, take, drop, Ok, Err, Result, nat_le, slice_index_or}
use Rattle.faults.specs.declared.Place.{Place}
use Rattle.scanning.specs.declared.ScanFault.{ScanFault}
use Rattle.scanning.specs.declared.Word.{Word}
use Rattle.scanning.specs.Pieces.{Spot}
use Rattle.scanning.specs.Scan.{scan_of}
use Rattle.tokens.specs.declared.WordFault.{WordFault}
use Rattle.tokens.specs.declared.WordFault.TheVariants.{Unlisted as UnlistedWord, OutOfRange as WordOutOfRange}
use Rattle.tokens.specs.Tokens.{Lexeme, bracket_opens, lexeme, named, kind_of}
use Rattle.reading.specs.declared.Placed.{Placed}
use Rattle.reading.specs.declared.ReadFault.{ReadFault}
use Rattle.reading.specs.declared.ReadFault.TheVariants.{Scan, Unlisted, OutOfRange, TooMany}
use Rattle.reading.specs.Faults.{nowhere}

-- the most tokens that a text may have
abbrev pub most : ℕ
most = 2048

-- a token at its place
pub record Item : Type 0 where
  pub token : Lexeme
  pub place : Place

abbrev pub item : Placed → Item
item t = record { token = lexeme t.token; place = t.place }

abbrev pub spot : Word → Spot
spot w = record { place = w.place; bytes = w.part.now }

abbrev pub fault_at : Place → WordFault → ReadFault
fault_at p UnlistedWord = Unlisted p
fault_at p WordOutOfRange = OutOfRange p

abbrev pub placed_at : Place → Result Lexeme WordFault → Result Item ReadFault
placed_at p (Ok l) = Ok (record { token = l; place = p })
placed_at p (Err e) = Err (fault_at p e)

-- the token that a word is, at the word's place
abbrev pub token_at : Spot → Result Item ReadFault
token_at w = placed_at w.place (named w.bytes (kind_of w.bytes))

abbrev pub shown : Result Placed ReadFault → Result Item ReadFault
shown (Ok t) = Ok (item t)
shown (Err e) = Err e

abbrev pub before : List Item → Result (List Item) ReadFault → Result (List Item) ReadFault
before ts (Ok us) = Ok (ts ++ us)
before ts (Err e) = Err e

-- a token and those behind it
abbrev pub joined : Result Item ReadFault → Result (List Item) ReadFault → Result (List Item) ReadFault
joined (Ok t) r = before (t ∷ []) r
joined (Err e) r = Err e

-- words that were cut, each as a token, or the first that is none
abbrev pub judged : List Spot → Result (List Item) ReadFault
judged [] = Ok []
judged (w ∷ ws) = joined (token_at w) (judged ws)

-- a text is cut as a whole before any word of it is looked at
abbrev pub judged_all : Result (List Spot) ScanFault → Result (List Item) ReadFault
judged_all (Ok ws) = judged ws
judged_all (Err e) = Err (Scan e)

abbrev pub blank_item : Item
blank_item = record { token = record { part = []; kind = bracket_opens }; place = nowhere }

-- too many are refused at the first that has no room, once all are tokens
abbrev pub capped : Result (List Item) ReadFault → Result (List Item) ReadFault
capped (Ok ts) = cond (nat_le (length ts) most) (Ok ts) (Err (TooMany (slice_index_or ts most blank_item).place))
capped (Err e) = Err e

-- what reading answers of any text
abbrev pub read_of : List ℕ → Result (List Item) ReadFault
read_of text = capped (judged_all (scan_of text))

-- what a call says that has written its tokens to the front of a row
abbrev pub written : List Placed → Result ℕ ReadFault → Result (List Item) ReadFault
written row (Ok n) = Ok (map item (take n row))
written row (Err e) = Err e

-- what lies behind the tokens is as it was, and at a fault everything is
abbrev pub Left : List Placed → List Placed → Result ℕ ReadFault → Type 0
Left new old (Ok n) = (n ≡ length (take n new)) × (drop n new ≡ drop n old)
Left new old (Err e) = new ≡ old
