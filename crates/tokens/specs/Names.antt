-- How a list names cells, as they are printed. Assumes nothing.
use Rattle.std.specs.Prelude.{ℕ, ◌-◌, ◌/◌, ◌%◌, List, ◌∷◌, ◌++◌, length, replicate}
use Rattle.std.specs.Fmt.{decimal}
use Rattle.tokens.specs.declared.Area.{Area}
use Rattle.tokens.specs.declared.Area.TheVariants.{Input, Output, Change, Internal}
use Rattle.tokens.specs.declared.BitCell.{BitCell}
use Rattle.tokens.specs.declared.WordCell.{WordCell}
use Rattle.tokens.specs.declared.WordCell.TheVariants.{Pair, Timer}

abbrev pub letter : Area → ℕ
letter Input = 73
letter Output = 89
letter Change = 86
letter Internal = 70

-- the decimal digits of n, behind zeros up to a width
unfoldable pub zero_padded : ℕ → ℕ → List ℕ
zero_padded width n = replicate (width - length (decimal n)) 48 ++ decimal n

-- the byte n of I, Y or V: the board, and its byte there
abbrev pub board_and_byte : ℕ → List ℕ
board_and_byte n = decimal (n / 4) ++ decimal (n % 4)

abbrev pub byte_name : Area → ℕ → List ℕ
byte_name Input n = letter Input ∷ board_and_byte n
byte_name Output n = letter Output ∷ board_and_byte n
byte_name Change n = letter Change ∷ board_and_byte n
byte_name Internal n = letter Internal ∷ zero_padded 3 n

abbrev pub bit_name : BitCell → List ℕ
bit_name c = byte_name c.area c.byte ++ decimal c.bit

abbrev pub word_name : WordCell → List ℕ
word_name (Pair a n) = byte_name a n
word_name (Timer t) = 84 ∷ zero_padded 2 t
