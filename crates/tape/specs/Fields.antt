-- How fields and lines are read. Assumes nothing.
use Rattle.std.specs.Prelude.{ℕ, zero, suc, Bool, false, cond, not, ◌&&◌, ◌||◌, List, [], ◌∷◌, length, take, drop, Some, None, Option, ◌==◌, nat_le, nat_lt, slice_index, is_some, option_map}
use Rattle.std.specs.Option.{unwrap_or}
use Rattle.std.specs.Str.{all_ascii_digits}
use Rattle.std.specs.Str.Parse.{digits_value}
use Rattle.tape.specs.Format.{Entry, number, silent}

-- what stands behind the blanks
abbrev pub text_of : List ℕ → List ℕ
text_of [] = []
text_of (b ∷ bs) = cond (b == 32) (text_of bs) (b ∷ bs)

abbrev pub is_dash : List ℕ → Bool
is_dash [] = false
is_dash (b ∷ []) = b == 45
is_dash (b ∷ (c ∷ bs)) = false

-- digits with no leading zero, of a number of at most 65,535
abbrev pub is_numeral : List ℕ → Bool
is_numeral text =
    nat_lt 0 (length text) && (all_ascii_digits text && ((not (slice_index text 0 == 48) || length text == 1) && nat_le (digits_value 10 text) 65535))

-- the number that digits write, if it is at most 65,535
abbrev pub value_of : List ℕ → Option ℕ
value_of text = cond (all_ascii_digits text && nat_le (digits_value 10 text) 65535) (Some (digits_value 10 text)) None

abbrev pub numeral_of : List ℕ → Option ℕ
numeral_of text = cond (is_numeral text) (Some (digits_value 10 text)) None

-- what columns say, if they are a field: a dash or a number, behind blanks
unfoldable pub field_of : List ℕ → Option Entry
field_of bytes = cond (is_dash (text_of bytes)) (Some silent) (option_map number (numeral_of (text_of bytes)))

-- whether columns are a field
abbrev pub stands : Option Entry → Bool
stands field = is_some field

abbrev pub entry_of : Option Entry → Entry
entry_of field = unwrap_or field silent

-- n fields, each of six columns, and a line feed
abbrev pub line_good : ℕ → List ℕ → Bool
line_good zero bytes = slice_index bytes 0 == 10
line_good (suc n) bytes = cond (stands (field_of (take 6 bytes))) (line_good n (drop 6 bytes)) false

-- what n fields say
abbrev pub entries_of : ℕ → List ℕ → List Entry
entries_of zero bytes = []
entries_of (suc n) bytes = entry_of (field_of (take 6 bytes)) ∷ entries_of n (drop 6 bytes)

-- eight fields and a line feed
unfoldable pub line_holds : List ℕ → Bool
line_holds bytes = line_good 8 bytes

unfoldable pub line_says : List ℕ → List Entry
line_says bytes = entries_of 8 bytes
