-- Which answer the rules give for a text, from its bytes. Nothing here says how a text is parsed. Assumes nothing.
use Rattle.std.specs.Prelude.{◌≡◌, ℕ, ◌+◌, ◌<◌, ◌≤◌, cond, List, map, length, take, drop, Some, None, Ok, Err, Option, Result, nat_le, slice_index_or}
use Rattle.faults.specs.declared.Place.{Place}
use Rattle.scanning.specs.Text.{longest, start, walk}
use Rattle.tokens.specs.Tokens.{Kind}
use Rattle.reading.specs.declared.Placed.{Placed}
use Rattle.reading.specs.declared.ReadFault.{ReadFault}
use Rattle.reading.specs.Items.{Item, item}
use Rattle.reading.specs.Verdict.{Verdict as Read}
use Rattle.grammar.specs.declared.GrammarFault.{GrammarFault}
use Rattle.grammar.specs.declared.GrammarFault.TheVariants.{Reading, Unexpected, TooDeep}
use Rattle.grammar.specs.declared.Shape.{Shape}
use Rattle.grammar.specs.Grammar.{Module, spell, Text, Begins}
use Rattle.grammar.specs.Limits.{Over, Clear, WithinLimits}

-- what the tokens decode to, in their order
abbrev pub item_kind : Item → Kind
item_kind t = t.token.kind

abbrev pub kinds : List Item → List Kind
kinds ts = map item_kind ts

-- those of tokens that are placed
abbrev pub kinds_of : List Placed → List Kind
kinds_of ts = kinds (map item ts)

-- the place behind the last byte of a text that is not too long
abbrev pub end_place : List ℕ → Option Place
end_place text = cond (nat_le (length text) longest) (Some (walk start text)) None

-- the place of token i, or the one behind the text's last byte
abbrev pub place_at : List ℕ → List Item → ℕ → Place
place_at text ts i = slice_index_or (map (λ (t : Item). t.place) ts) i (walk start text)

-- the tokens before i begin some text, and with the one at i they begin none; or the tokens end at i and are no text
pub record Stops (ks : List Kind) (i : ℕ) : Type 0 where
  pub within : i ≤ length ks
  pub clear : Clear ks i
  pub begins : Begins (take i ks)
  pub no_further : i < length ks → Begins (take (i + 1) ks) → ⊥
  pub no_text : i ≡ length ks → Text ks → ⊥

-- the tokens up to and with the one at i begin some text, and that one passes a limit first
pub record Exceeds (ks : List Kind) (i : ℕ) : Type 0 where
  pub within : i < length ks
  pub clear : Clear ks i
  pub begins : Begins (take (i + 1) ks)
  pub over : Over ks i

-- the text is a list of modules within the limits
pub record Accepted (text : List ℕ) (s : Shape) : Type 0 where
  pub tokens : List Item
  pub modules : List Module
  pub read : Read text (Ok tokens)
  pub spelled : spell modules ≡ kinds tokens
  pub within : WithinLimits (kinds tokens)
  pub token_count : s.tokens ≡ length tokens
  pub module_count : s.modules ≡ length modules

-- the text is read, and is at fault at p, as F says
pub record Refused (F : List Kind → ℕ → Type 0) (text : List ℕ) (p : Place) : Type 0 where
  pub tokens : List Item
  pub index : ℕ
  pub read : Read text (Ok tokens)
  pub fault : F (kinds tokens) index
  pub place : p ≡ place_at text tokens index

abbrev pub Verdict : List ℕ → Result Shape GrammarFault → Type 0
Verdict text (Ok s) = Accepted text s
Verdict text (Err (Reading e)) = Read text (Err e)
Verdict text (Err (Unexpected p)) = Refused Stops text p
Verdict text (Err (TooDeep p)) = Refused Exceeds text p

-- and it is the only one
abbrev pub OneVerdict : List ℕ → Type 0
OneVerdict text = (a b : Result Shape GrammarFault) → Verdict text a → Verdict text b → a ≡ b

-- memory that a text was read into: its tokens stand at the front and the rest is as it was, or all is as it was
abbrev pub Holds : List Placed → List Placed → Result (List Item) ReadFault → Type 0
Holds new old (Ok ts) = (map item (take (length ts) new) ≡ ts) × (drop (length ts) new ≡ drop (length ts) old)
Holds new old (Err e) = new ≡ old

-- by what reading says of the text
abbrev pub MemoryAfter : List ℕ → List Placed → List Placed → Type 0
MemoryAfter text new old = (r : Result (List Item) ReadFault) → Read text r → Holds new old r
