-- What the bytes of a tape are: fields, lines, and the tape itself, by what is written. Assumes nothing.
use Rattle.std.specs.Prelude.{◌≡◌, ℕ, ◌-◌, ◌<◌, ◌≤◌, Bool, true, false, List, [], ◌∷◌, ◌++◌, length, replicate, codes, decimal}

-- what stands in a field
pub data Entry : Type 0 where
  number : ℕ → Entry
  silent : Entry

-- right-justified with blanks in six columns
abbrev pub justified : List ℕ → List ℕ
justified text = replicate (6 - length text) 32 ++ text

-- a field is a number with no leading zeros, or a dash
abbrev pub field_bytes : Entry → List ℕ
field_bytes (number n) = justified (decimal n)
field_bytes silent = justified (codes "-")

abbrev pub fields_bytes : List Entry → List ℕ
fields_bytes [] = []
fields_bytes (e ∷ es) = field_bytes e ++ fields_bytes es

-- the fields and a line feed
abbrev pub line_bytes : List Entry → List ℕ
line_bytes es = fields_bytes es ++ (10 ∷ [])

abbrev pub tape_bytes : List (List Entry) → List ℕ
tape_bytes [] = []
tape_bytes (l ∷ ls) = line_bytes l ++ tape_bytes ls

-- a number is at most 65,535
abbrev pub Fits : Entry → Type 0
Fits (number n) = n < 65536
Fits silent = Unit {0}

abbrev pub AllFit : List Entry → Type 0
AllFit [] = Unit {0}
AllFit (e ∷ es) = Fits e × AllFit es

-- a line has eight entries
pub record Line (es : List Entry) : Type 0 where
  pub eight : length es ≡ 8
  pub fit : AllFit es

abbrev pub AllLines : List (List Entry) → Type 0
AllLines [] = Unit {0}
AllLines (l ∷ ls) = Line l × AllLines ls

-- the bytes are a tape of these lines
pub record IsTape (bytes : List ℕ) (lines : List (List Entry)) : Type 0 where
  pub short : length bytes ≤ 65536
  pub good : AllLines lines
  pub written : bytes ≡ tape_bytes lines

-- the word of an input: 0 where it is silent
abbrev pub word_in : Entry → ℕ
word_in (number n) = n
word_in silent = 0

abbrev pub answers_in : Entry → Bool
answers_in (number n) = true
answers_in silent = false
