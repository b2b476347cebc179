-- The bytes that tokens store into: cause 12. The 144 bytes are F 0 to 127, then those of Y board by board. Assumes nothing.
use Rattle.std.specs.Prelude.{◌≡◌, ℕ, ◌+◌, ◌≤◌, ◌⊎◌, List}
use Rattle.tokens.specs.declared.Area.{Area}
use Rattle.tokens.specs.declared.Area.TheVariants.{Input, Output, Change, Internal}
use Rattle.tokens.specs.declared.WordCell.TheVariants.{Pair, Timer}
use Rattle.tokens.specs.Tokens.{Kind, bracket_opens, bracket_closes, number, load_number, load_bit, load_word, store_bit, store_word, switch, test, operator, comparison, otherwise, end_of_condition, end_of_level, return, label, call}
use Rattle.rules.specs.Labels.{kind_at}
use Rattle.rules.specs.Levels.{Level}

-- byte e of the area is byte b of the 144
abbrev pub Lies : Area → ℕ → ℕ → Type 0
Lies Input e b = ⊥
Lies Output e b = b ≡ 128 + e
Lies Change e b = ⊥
Lies Internal e b = b ≡ e

-- the token stores into byte b of the 144: a store to a bit into its byte, one to a word into two
abbrev pub Stores : Kind → ℕ → Type 0
Stores bracket_opens b = ⊥
Stores bracket_closes b = ⊥
Stores (number v) b = ⊥
Stores (load_number v) b = ⊥
Stores (load_bit c n) b = ⊥
Stores (load_word c n) b = ⊥
Stores (store_bit c n) b = Lies c.area c.byte b
Stores (store_word (Pair a e) n) b = Lies a e b ⊎ Lies a (e + 1) b
Stores (store_word (Timer t) n) b = ⊥
Stores (switch c on) b = Lies c.area c.byte b
Stores (test c n) b = ⊥
Stores (operator o) b = ⊥
Stores (comparison o) b = ⊥
Stores otherwise b = ⊥
Stores end_of_condition b = ⊥
Stores (end_of_level v) b = ⊥
Stores return b = ⊥
Stores (label n) b = ⊥
Stores (call n) b = ⊥

-- the token at i stores into b on the level of `root`
abbrev pub Stored : List Kind → ℕ → ℕ → ℕ → Type 0
Stored ks root b i = Stores (kind_at ks i) b × Level ks root i

-- one level stores into b at i, and the other no later; a module of both levels does both at once
abbrev pub Against : List Kind → ℕ → ℕ → ℕ → ℕ → Type 0
Against ks one other b i = Stored ks one b i × ((j : ℕ) × (j ≤ i) × Stored ks other b j)

-- cause 12
abbrev pub Clash : List Kind → ℕ → Type 0
Clash ks i = (b : ℕ) × (Against ks 1 0 b i ⊎ Against ks 0 1 b i)
