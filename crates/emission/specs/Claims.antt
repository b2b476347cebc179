-- What is claimed of the code of tokens. Assumes nothing.
use Rattle.std.specs.Prelude.{◌≡◌, ℕ, ◌≤◌, Bool, true, ◌&&◌, List, [], ◌∷◌, length}
use Rattle.tokens.specs.Tokens.{Kind, bracket_opens, bracket_closes, number, load_number, load_bit, load_word, store_bit, store_word, switch, test, operator, comparison, otherwise, end_of_condition, end_of_level, return, label, call}
use Rattle.grammar.specs.Grammar.{Module, spell}
use Rattle.program.specs.Sound.{known_bit, known_word, stored_area, stored_word, sound}
use Rattle.meaning.specs.Code.{code, place_of}
use Rattle.emission.specs.Emission.{emitted, place_in}

-- what the tokens of modules make is the code of the modules
abbrev pub CodeByTokens : Type 0
CodeByTokens = (ms : List Module) → emitted (spell ms) ≡ code ms

-- and each label has the place that it has in the code
abbrev pub PlacesByTokens : Type 0
PlacesByTokens = (ms : List Module) (l : ℕ) → place_in l 0 (spell ms) ≡ place_of ms l

-- a token names only cells that there are, and stores only where a value can be stored
abbrev pub known_kind : Kind → Bool
known_kind bracket_opens = true
known_kind bracket_closes = true
known_kind (number v) = true
known_kind (load_number v) = true
known_kind (load_bit c n) = known_bit c
known_kind (load_word c n) = known_word c
known_kind (store_bit c n) = known_bit c && stored_area c.area
known_kind (store_word c n) = known_word c && stored_word c
known_kind (switch c on) = known_bit c && stored_area c.area
known_kind (test c n) = known_bit c
known_kind (operator o) = true
known_kind (comparison o) = true
known_kind otherwise = true
known_kind end_of_condition = true
known_kind (end_of_level v) = true
known_kind return = true
known_kind (label n) = true
known_kind (call n) = true

abbrev pub AllKnown : List Kind → Type 0
AllKnown [] = Unit {0}
AllKnown (k ∷ ks) = (known_kind k ≡ true) × AllKnown ks

-- the code of modules is sound: known cells, forward skips inside a module, downward calls, both entries
abbrev pub SoundCode : Type 0
SoundCode = (ms : List Module) → AllKnown (spell ms) → length (code ms) ≤ 2048 → sound (code ms) (place_of ms 1) (place_of ms 0) ≡ true
