-- References to cells, by shape and range. Assumes nothing.
use Rattle.std.specs.Prelude.{ℕ, ◌+◌, ◌*◌, ◌/◌, ◌%◌, Bool, true, cond, ◌&&◌, List, length, drop, Some, None, Err, Option, Result, ◌==◌, nat_le, slice_index}
use Rattle.tokens.specs.declared.WordFault.{WordFault}
use Rattle.tokens.specs.declared.WordFault.TheVariants.{Unlisted}
use Rattle.tokens.specs.declared.Area.{Area}
use Rattle.tokens.specs.declared.Area.TheVariants.{Input, Output, Change, Internal}
use Rattle.tokens.specs.declared.BitCell.{BitCell}
use Rattle.tokens.specs.declared.WordCell.{WordCell}
use Rattle.tokens.specs.declared.WordCell.TheVariants.{Pair, Timer}
use Rattle.tokens.specs.Numbers.{value_of, shaped}

-- bit r of byte b of an area
abbrev pub bit_cell_in : Area → ℕ → ℕ → BitCell
bit_cell_in a b r = record { area = a; byte = b; bit = r }

-- p q r, with p and q up to 3 and r up to 7
abbrev pub area_bit : Area → ℕ → Option BitCell
area_bit a v =
    cond (nat_le (v / 100) 3 && (nat_le (v / 10 % 10) 3 && nat_le (v % 10) 7))
    (Some (bit_cell_in a (v / 100 * 4 + v / 10 % 10) (v % 10))) None

-- p q, with q even
abbrev pub area_pair : Area → ℕ → Option WordCell
area_pair a v =
    cond (nat_le (v / 10) 3 && (nat_le (v % 10) 3 && v % 2 == 0)) (Some (Pair a (v / 10 * 4 + v % 10))) None

-- a byte up to 127 and a bit up to 7
abbrev pub internal_bit_at : ℕ → Option BitCell
internal_bit_at v = cond (nat_le (v / 10) 127 && nat_le (v % 10) 7) (Some (bit_cell_in Internal (v / 10) (v % 10))) None

-- an even byte up to 127
abbrev pub internal_pair : ℕ → Option WordCell
internal_pair v = cond (nat_le v 127 && v % 2 == 0) (Some (Pair Internal v)) None

abbrev pub timer_in : ℕ → Option WordCell
timer_in v = cond (nat_le v 19) (Some (Timer v)) None

abbrev pub area_bit_of : Area → List ℕ → Result BitCell WordFault
area_bit_of a ds = shaped (area_bit a) (value_of 10 3 3 ds)

abbrev pub internal_bit_of : List ℕ → Result BitCell WordFault
internal_bit_of ds = shaped internal_bit_at (value_of 10 4 4 ds)

abbrev pub area_pair_of : Area → List ℕ → Result WordCell WordFault
area_pair_of a ds = shaped (area_pair a) (value_of 10 2 2 ds)

abbrev pub internal_pair_of : List ℕ → Result WordCell WordFault
internal_pair_of ds = shaped internal_pair (value_of 10 3 3 ds)

abbrev pub timer_of : List ℕ → Result WordCell WordFault
timer_of ds = shaped timer_in (value_of 10 2 2 ds)

-- a reference to a bit of I, Y, V or F
unfoldable pub bit_of : List ℕ → Result BitCell WordFault
bit_of bs =
    cond (slice_index bs 0 == 73) (area_bit_of Input (drop 1 bs))
    (cond (slice_index bs 0 == 89) (area_bit_of Output (drop 1 bs))
    (cond (slice_index bs 0 == 86) (area_bit_of Change (drop 1 bs))
    (cond (slice_index bs 0 == 70) (internal_bit_of (drop 1 bs)) (Err Unlisted))))

-- a reference to a word of I, Y, V or F, or to a timer
unfoldable pub word_of : List ℕ → Result WordCell WordFault
word_of bs =
    cond (slice_index bs 0 == 73) (area_pair_of Input (drop 1 bs))
    (cond (slice_index bs 0 == 89) (area_pair_of Output (drop 1 bs))
    (cond (slice_index bs 0 == 86) (area_pair_of Change (drop 1 bs))
    (cond (slice_index bs 0 == 70) (internal_pair_of (drop 1 bs))
    (cond (slice_index bs 0 == 84) (timer_of (drop 1 bs)) (Err Unlisted)))))

-- how long a reference is tells a word from a bit
unfoldable pub word_like : List ℕ → Bool
word_like bs = cond (slice_index bs 0 == 84) true (cond (slice_index bs 0 == 70) (length bs == 4) (length bs == 3))

-- what is switched: an output bit with no letter, or an F bit
unfoldable pub switched_of : List ℕ → Result BitCell WordFault
switched_of bs = cond (slice_index bs 0 == 70) (internal_bit_of (drop 1 bs)) (area_bit_of Output bs)
