-- The tokens of the language as they are listed: which bytes are which token, and when a word that is none is out of range.
-- Nothing here says how a word is looked up. Assumes nothing.
use Rattle.std.specs.Prelude.{◌≡◌, ℕ, ◌+◌, ◌*◌, ◌≤◌, Bool, true, cond, ◌⊎◌, List, [], ◌∷◌, ◌++◌, length, Some, Ok, Err, Result, ◌≢◌}
use Rattle.tokens.specs.declared.WordFault.{WordFault}
use Rattle.tokens.specs.declared.WordFault.TheVariants.{Unlisted, OutOfRange}
use Rattle.tokens.specs.declared.Area.{Area}
use Rattle.tokens.specs.declared.Area.TheVariants.{Input, Output, Change, Internal}
use Rattle.tokens.specs.declared.BitCell.{BitCell}
use Rattle.tokens.specs.declared.WordCell.{WordCell}
use Rattle.tokens.specs.declared.WordCell.TheVariants.{Pair, Timer}
use Rattle.tokens.specs.declared.Operator.TheVariants.{And, Or, Xor, Add, Subtract}
use Rattle.tokens.specs.declared.Comparison.TheVariants.{Less, Greater, Equal, AtMost, AtLeast}
use Rattle.tokens.specs.Numbers.{between, value_after}
use Rattle.tokens.specs.Cells.{bit_cell_in}
use Rattle.tokens.specs.Tokens.{Kind, bracket_opens, bracket_closes, number, load_number, load_bit, load_word, store_bit, store_word, switch, test, operator, comparison, otherwise, end_of_condition, end_of_level, return, label, call, Lexeme}

-- the byte of a decimal digit
abbrev pub dec : ℕ → ℕ
dec d = 48 + d

-- ds are digits of the radix, and v is their value
abbrev pub Value : ℕ → List ℕ → ℕ → Type 0
Value radix ds v = value_after radix 0 ds ≡ Some v

-- two decimal digits
pub record Two (ds : List ℕ) (n : ℕ) : Type 0 where
  pub tens : ℕ
  pub ones : ℕ
  pub tens_digit : tens ≤ 9
  pub ones_digit : ones ≤ 9
  pub spelled : ds ≡ dec tens ∷ dec ones ∷ []
  pub value : n ≡ 10 * tens + ones

-- three decimal digits
pub record Three (ds : List ℕ) (n : ℕ) : Type 0 where
  pub hundreds : ℕ
  pub tens : ℕ
  pub ones : ℕ
  pub hundreds_digit : hundreds ≤ 9
  pub tens_digit : tens ≤ 9
  pub ones_digit : ones ≤ 9
  pub spelled : ds ≡ dec hundreds ∷ dec tens ∷ dec ones ∷ []
  pub value : n ≡ 100 * hundreds + 10 * tens + ones

-- one to five decimal digits up to 65535, or a point and one to four hexadecimal digits
pub data Number (w : List ℕ) (v : ℕ) : Type 0 where
  decimal : 1 ≤ length w → length w ≤ 5 → Value 10 w v → v ≤ 65535 → Number w v
  hexadecimal : (ds : List ℕ) → w ≡ 46 ∷ ds → 1 ≤ length ds → length ds ≤ 4 → Value 16 ds v → Number w v

-- the digits p q r of a bit of I, Y or V: board, byte and bit
pub record BoardBit (a : Area) (ds : List ℕ) (c : BitCell) : Type 0 where
  pub board : ℕ
  pub byte : ℕ
  pub bit : ℕ
  pub board_within : board ≤ 3
  pub byte_within : byte ≤ 3
  pub bit_within : bit ≤ 7
  pub spelled : ds ≡ dec board ∷ dec byte ∷ dec bit ∷ []
  pub names : c ≡ bit_cell_in a (4 * board + byte) bit

-- the digits of an F bit: a byte 000 to 127 and a bit
pub record InternalBit (ds : List ℕ) (c : BitCell) : Type 0 where
  pub byte : ℕ
  pub digits : List ℕ
  pub bit : ℕ
  pub byte_digits : Three digits byte
  pub byte_within : byte ≤ 127
  pub bit_within : bit ≤ 7
  pub spelled : ds ≡ digits ++ dec bit ∷ []
  pub names : c ≡ bit_cell_in Internal byte bit

-- the digits p q of a word of I, Y or V: board and an even byte
pub record BoardWord (a : Area) (ds : List ℕ) (c : WordCell) : Type 0 where
  pub board : ℕ
  pub half : ℕ
  pub board_within : board ≤ 3
  pub half_within : half ≤ 1
  pub spelled : ds ≡ dec board ∷ dec (2 * half) ∷ []
  pub names : c ≡ Pair a (4 * board + 2 * half)

-- the digits of an F word: an even byte 000 to 126
pub record InternalWord (ds : List ℕ) (c : WordCell) : Type 0 where
  pub half : ℕ
  pub digits : Three ds (2 * half)
  pub within : 2 * half ≤ 127
  pub names : c ≡ Pair Internal (2 * half)

-- the digits of a timer, 00 to 19
pub record TimerNumber (ds : List ℕ) (c : WordCell) : Type 0 where
  pub timer : ℕ
  pub digits : Two ds timer
  pub within : timer ≤ 19
  pub names : c ≡ Timer timer

pub data BitReference (w : List ℕ) (c : BitCell) : Type 0 where
  input_bit : (ds : List ℕ) → w ≡ 73 ∷ ds → BoardBit Input ds c → BitReference w c
  output_bit : (ds : List ℕ) → w ≡ 89 ∷ ds → BoardBit Output ds c → BitReference w c
  change_bit : (ds : List ℕ) → w ≡ 86 ∷ ds → BoardBit Change ds c → BitReference w c
  internal_bit : (ds : List ℕ) → w ≡ 70 ∷ ds → InternalBit ds c → BitReference w c

pub data WordReference (w : List ℕ) (c : WordCell) : Type 0 where
  input_word : (ds : List ℕ) → w ≡ 73 ∷ ds → BoardWord Input ds c → WordReference w c
  output_word : (ds : List ℕ) → w ≡ 89 ∷ ds → BoardWord Output ds c → WordReference w c
  change_word : (ds : List ℕ) → w ≡ 86 ∷ ds → BoardWord Change ds c → WordReference w c
  internal_word : (ds : List ℕ) → w ≡ 70 ∷ ds → InternalWord ds c → WordReference w c
  timer_word : (ds : List ℕ) → w ≡ 84 ∷ ds → TimerNumber ds c → WordReference w c

-- Y, F and T can be stored to
abbrev pub StoredArea : Area → Type 0
StoredArea Input = ⊥
StoredArea Output = Unit {0}
StoredArea Change = ⊥
StoredArea Internal = Unit {0}

abbrev pub StoredWord : WordCell → Type 0
StoredWord (Pair a b) = StoredArea a
StoredWord (Timer t) = Unit {0}

-- signs and letters that are tokens by themselves
pub data Sign (w : List ℕ) (k : Kind) : Type 0 where
  is_and : w ≡ 65 ∷ [] → k ≡ operator And → Sign w k
  is_or : w ≡ 79 ∷ [] → k ≡ operator Or → Sign w k
  is_xor : w ≡ 88 ∷ [] → k ≡ operator Xor → Sign w k
  is_plus : w ≡ 43 ∷ [] → k ≡ operator Add → Sign w k
  is_minus : w ≡ 45 ∷ [] → k ≡ operator Subtract → Sign w k
  is_less : w ≡ 60 ∷ [] → k ≡ comparison Less → Sign w k
  is_greater : w ≡ 62 ∷ [] → k ≡ comparison Greater → Sign w k
  is_equal : w ≡ 61 ∷ [] → k ≡ comparison Equal → Sign w k
  is_at_most : w ≡ 60 ∷ 61 ∷ [] → k ≡ comparison AtMost → Sign w k
  is_at_least : w ≡ 62 ∷ 61 ∷ [] → k ≡ comparison AtLeast → Sign w k
  is_open : w ≡ 91 ∷ [] → k ≡ bracket_opens → Sign w k
  is_close : w ≡ 93 ∷ [] → k ≡ bracket_closes → Sign w k
  is_else : w ≡ 69 ∷ [] → k ≡ otherwise → Sign w k
  is_end_of_condition : w ≡ 90 ∷ [] → k ≡ end_of_condition → Sign w k
  is_return : w ≡ 82 ∷ [] → k ≡ return → Sign w k

-- `N`, or nothing
abbrev pub nots : Bool → List ℕ
nots n = cond n (78 ∷ []) []

-- `U` or `D`
abbrev pub switches : Bool → ℕ
switches on = cond on 85 68

pub data Listed (w : List ℕ) (k : Kind) : Type 0 where
  is_number : (v : ℕ) → Number w v → k ≡ number v → Listed w k
  is_load_number : (ds : List ℕ) (v : ℕ) → w ≡ 76 ∷ ds → Number ds v → k ≡ load_number v → Listed w k
  is_load_bit : (n : Bool) (ds : List ℕ) (c : BitCell) → w ≡ nots n ++ 76 ∷ ds → BitReference ds c → k ≡ load_bit c n → Listed w k
  is_load_word : (n : Bool) (ds : List ℕ) (c : WordCell) → w ≡ nots n ++ 76 ∷ ds → WordReference ds c → k ≡ load_word c n → Listed w k
  is_store_bit : (n : Bool) (ds : List ℕ) (c : BitCell) → w ≡ nots n ++ 83 ∷ ds → BitReference ds c → StoredArea c.area → k ≡ store_bit c n → Listed w k
  is_store_word : (n : Bool) (ds : List ℕ) (c : WordCell) → w ≡ nots n ++ 83 ∷ ds → WordReference ds c → StoredWord c → k ≡ store_word c n → Listed w k
  is_switch_output : (on : Bool) (ds : List ℕ) (c : BitCell) → w ≡ switches on ∷ ds → BoardBit Output ds c → k ≡ switch c on → Listed w k
  is_switch_internal : (on : Bool) (ds : List ℕ) (c : BitCell) → w ≡ switches on ∷ 70 ∷ ds → InternalBit ds c → k ≡ switch c on → Listed w k
  is_test : (n : Bool) (ds : List ℕ) (c : BitCell) → w ≡ nots n ++ ds → BitReference ds c → k ≡ test c n → Listed w k
  is_sign : Sign w k → Listed w k
  is_end_of_level : (d : ℕ) → d ≤ 1 → w ≡ 74 ∷ dec d ∷ [] → k ≡ end_of_level d → Listed w k
  is_label : (ds : List ℕ) (v : ℕ) → w ≡ 58 ∷ ds → Three ds v → v ≤ 199 → (v ≢ 2) → k ≡ label v → Listed w k
  is_call : (ds : List ℕ) (v : ℕ) → w ≡ 71 ∷ ds → Three ds v → 3 ≤ v → v ≤ 199 → k ≡ call v → Listed w k

abbrev pub Decimal : ℕ → Type 0
Decimal b = between 48 57 b ≡ true

-- as long, and at each place the same byte or a decimal digit in both
abbrev pub SameButDigits : List ℕ → List ℕ → Type 0
SameButDigits [] [] = Unit {0}
SameButDigits [] (b ∷ w) = ⊥
SameButDigits (a ∷ v) [] = ⊥
SameButDigits (a ∷ v) (b ∷ w) = ((a ≡ b) ⊎ (Decimal a × Decimal b)) × SameButDigits v w

abbrev pub NotListed : List ℕ → Type 0
NotListed w = (k : Kind) → Listed w k → ⊥

-- some listed word differs from w only in the values of decimal digits
abbrev pub Neighbour : List ℕ → Type 0
Neighbour w = (v : List ℕ) × (k : Kind) × Listed v k × SameButDigits v w

-- which answer the list gives for a word
abbrev pub Verdict : List ℕ → Result Lexeme WordFault → Type 0
Verdict w (Ok l) = (l.part ≡ w) × Listed w l.kind
Verdict w (Err Unlisted) = NotListed w × (Neighbour w → ⊥)
Verdict w (Err OutOfRange) = NotListed w × Neighbour w

-- and it is the only one
abbrev pub OneVerdict : List ℕ → Type 0
OneVerdict w = (a b : Result Lexeme WordFault) → Verdict w a → Verdict w b → a ≡ b
