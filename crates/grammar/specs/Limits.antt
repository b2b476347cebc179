-- The limits, by counting over the tokens before a place: at most 8 brackets and 16 conditions are open, and there are at most 64 modules.
-- Assumes nothing.
use Rattle.std.specs.Prelude.{◌≡◌, ℕ, ◌+◌, ◌-◌, ◌<◌, ◌≤◌, Bool, true, false, List, [], ◌∷◌, length, take, nat_lt, slice_index_or}
use Rattle.tokens.specs.Tokens.{Kind, bracket_opens, bracket_closes, number, load_number, load_bit, load_word, store_bit, store_word, switch, test, operator, comparison, otherwise, end_of_condition, end_of_level, return, label, call}

pub data Role : Type 0 where
  plain opens_bracket closes_bracket opens_condition closes_condition opens_module : Role

abbrev pub role : Kind → Role
role bracket_opens = opens_bracket
role bracket_closes = closes_bracket
role (number v) = plain
role (load_number v) = plain
role (load_bit c n) = plain
role (load_word c n) = plain
role (store_bit c n) = plain
role (store_word c n) = plain
role (switch c on) = plain
role (test c n) = opens_condition
role (operator o) = plain
role (comparison o) = opens_condition
role otherwise = plain
role end_of_condition = closes_condition
role (end_of_level v) = plain
role return = plain
role (label n) = opens_module
role (call n) = plain

-- the brackets that are open behind a token, where n were open before it
abbrev pub brackets_after : Role → ℕ → ℕ
brackets_after plain n = n
brackets_after opens_bracket n = n + 1
brackets_after closes_bracket n = n - 1
brackets_after opens_condition n = n
brackets_after closes_condition n = n
brackets_after opens_module n = n

abbrev pub conditions_after : Role → ℕ → ℕ
conditions_after plain n = n
conditions_after opens_bracket n = n
conditions_after closes_bracket n = n
conditions_after opens_condition n = n + 1
conditions_after closes_condition n = n - 1
conditions_after opens_module n = n

abbrev pub modules_after : Role → ℕ → ℕ
modules_after plain n = n
modules_after opens_bracket n = n
modules_after closes_bracket n = n
modules_after opens_condition n = n
modules_after closes_condition n = n
modules_after opens_module n = n + 1

-- the count behind the tokens, from n before them
abbrev pub counted : (Role → ℕ → ℕ) → ℕ → List Kind → ℕ
counted f n [] = n
counted f n (k ∷ ks) = counted f (f (role k) n) ks

abbrev pub open_brackets : List Kind → ℕ
open_brackets ks = counted brackets_after 0 ks

abbrev pub open_conditions : List Kind → ℕ
open_conditions ks = counted conditions_after 0 ks

abbrev pub begun_modules : List Kind → ℕ
begun_modules ks = counted modules_after 0 ks

-- whether one more is within the limits, where b brackets and c conditions are open and n modules have begun
abbrev pub room_for : Role → ℕ → ℕ → ℕ → Bool
room_for plain b c n = true
room_for opens_bracket b c n = nat_lt b 8
room_for closes_bracket b c n = true
room_for opens_condition b c n = nat_lt c 16
room_for closes_condition b c n = true
room_for opens_module b c n = nat_lt n 64

-- the token at i is one bracket, condition or module too many
abbrev pub Over : List Kind → ℕ → Type 0
Over ks i = room_for (role (slice_index_or ks i bracket_opens)) (open_brackets (take i ks)) (open_conditions (take i ks)) (begun_modules (take i ks)) ≡ false

-- no token before i is
abbrev pub Clear : List Kind → ℕ → Type 0
Clear ks i = (k : ℕ) → k < i → Over ks k → ⊥

-- no token at all is
abbrev pub WithinLimits : List Kind → Type 0
WithinLimits ks = Clear ks (length ks)

-- behind the first i tokens at most 16 conditions are open, and the token at i opens one only where fewer are
pub record SixteenSuffice (ks : List Kind) (i : ℕ) : Type 0 where
  pub most : open_conditions (take i ks) ≤ 16
  pub next : i < length ks → role (slice_index_or ks i bracket_opens) ≡ opens_condition → open_conditions (take i ks) < 16

-- so a stack of 16 never refuses on tokens within the limits
abbrev pub StackSuffices : Type 0
StackSuffices = (ks : List Kind) → WithinLimits ks → (i : ℕ) → i ≤ length ks → SixteenSuffice ks i
