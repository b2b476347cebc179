-- The module that a token stands in, what modules call, and the two levels: cause 11. Level 0 is what module 0 reaches by
-- calls, level 1 what module 1 reaches. Assumes nothing.
use Rattle.std.specs.Prelude.{◌≡◌, ℕ, zero, suc, List, Some, None, Option}
use Rattle.tokens.specs.declared.Area.TheVariants.{Change}
use Rattle.tokens.specs.declared.WordCell.TheVariants.{Pair, Timer}
use Rattle.tokens.specs.Tokens.{Kind, bracket_opens, bracket_closes, number, load_number, load_bit, load_word, store_bit, store_word, switch, test, operator, comparison, otherwise, end_of_condition, end_of_level, return, label, call}
use Rattle.rules.specs.Labels.{kind_at}

-- the module behind a token, where m is the one before it
abbrev pub after : Kind → Option ℕ → Option ℕ
after bracket_opens m = m
after bracket_closes m = m
after (number v) m = m
after (load_number v) m = m
after (load_bit c n) m = m
after (load_word c n) m = m
after (store_bit c n) m = m
after (store_word c n) m = m
after (switch c on) m = m
after (test c n) m = m
after (operator o) m = m
after (comparison o) m = m
after otherwise m = m
after end_of_condition m = m
after (end_of_level v) m = m
after return m = m
after (label n) m = Some n
after (call n) m = m

-- the module that the token at i stands in: the last label before it
abbrev pub home : List Kind → ℕ → Option ℕ
home ks zero = None
home ks (suc i) = after (kind_at ks i) (home ks i)

-- a token of module a calls module b
abbrev pub Calls : List Kind → ℕ → ℕ → Type 0
Calls ks a b = (i : ℕ) × (home ks i ≡ Some a) × (kind_at ks i ≡ call b)

-- the modules that `root` reaches by calls, itself included
pub data Reaches (ks : List Kind) (root : ℕ) : ℕ → Type 0 where
  itself : Reaches ks root root
  through : {a b : ℕ} → Reaches ks root a → Calls ks a b → Reaches ks root b

-- the token at i stands in a module that `root` reaches
abbrev pub Level : List Kind → ℕ → ℕ → Type 0
Level ks root i = (m : ℕ) × (home ks i ≡ Some m) × Reaches ks root m

-- the token is for level 1 alone: it refers to V, or stores to a timer
abbrev pub Level1Alone : Kind → Type 0
Level1Alone bracket_opens = ⊥
Level1Alone bracket_closes = ⊥
Level1Alone (number v) = ⊥
Level1Alone (load_number v) = ⊥
Level1Alone (load_bit c n) = c.area ≡ Change
Level1Alone (load_word (Pair a b) n) = a ≡ Change
Level1Alone (load_word (Timer t) n) = ⊥
Level1Alone (store_bit c n) = ⊥
Level1Alone (store_word (Pair a b) n) = ⊥
Level1Alone (store_word (Timer t) n) = Unit {0}
Level1Alone (switch c on) = ⊥
Level1Alone (test c n) = c.area ≡ Change
Level1Alone (operator o) = ⊥
Level1Alone (comparison o) = ⊥
Level1Alone otherwise = ⊥
Level1Alone end_of_condition = ⊥
Level1Alone (end_of_level v) = ⊥
Level1Alone return = ⊥
Level1Alone (label n) = ⊥
Level1Alone (call n) = ⊥

-- cause 11
abbrev pub Misplaced : List Kind → ℕ → Type 0
Misplaced ks i = Level1Alone (kind_at ks i) × Level ks 0 i
