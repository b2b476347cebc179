-- Which code is sound: known cells, forward skips inside a module, and downward calls. Assumes nothing.
use Rattle.std.specs.Prelude.{ℕ, zero, suc, ◌+◌, ◌-◌, ◌%◌, Bool, true, false, not, ◌&&◌, List, ◌++◌, length, replicate, ◌==◌, nat_le, nat_lt, slice_index_or}
use Rattle.tokens.specs.declared.Area.{Area}
use Rattle.tokens.specs.declared.Area.TheVariants.{Input, Output, Change, Internal}
use Rattle.tokens.specs.declared.BitCell.{BitCell}
use Rattle.tokens.specs.declared.WordCell.{WordCell}
use Rattle.tokens.specs.declared.WordCell.TheVariants.{Pair, Timer}
use Rattle.program.specs.declared.instruction.Source.{Source}
use Rattle.program.specs.declared.instruction.Source.TheVariants.{Number, Bit, Word}
use Rattle.program.specs.declared.instruction.Check.{Check}
use Rattle.program.specs.declared.instruction.Check.TheVariants.{Bit as BitCheck, Compare}
use Rattle.program.specs.declared.instruction.Instruction.{Instruction}
use Rattle.program.specs.declared.instruction.Instruction.TheVariants.{Return, Load, Apply, Open, Close, StoreBit, StoreWord, Switch, Test, Skip, Call}

-- how many bytes an area has
abbrev pub area_size : Area → ℕ
area_size Input = 16
area_size Output = 16
area_size Change = 16
area_size Internal = 128

abbrev pub known_bit : BitCell → Bool
known_bit c = nat_lt c.byte (area_size c.area) && nat_lt c.bit 8

-- a word starts at an even byte
abbrev pub known_word : WordCell → Bool
known_word (Pair a b) = nat_lt b (area_size a) && b % 2 == 0
known_word (Timer t) = nat_lt t 20

abbrev pub known_source : Source → Bool
known_source (Number v) = true
known_source (Bit c n) = known_bit c
known_source (Word c n) = known_word c

abbrev pub known_check : Check → Bool
known_check (BitCheck c n) = known_bit c
known_check (Compare o x) = known_source x

-- Y and F are stored into
abbrev pub stored_area : Area → Bool
stored_area Input = false
stored_area Output = true
stored_area Change = false
stored_area Internal = true

-- and the timers
abbrev pub stored_word : WordCell → Bool
stored_word (Pair a b) = stored_area a
stored_word (Timer t) = true

-- names only cells that there are, and stores only where a value can be stored
abbrev pub known : Instruction → Bool
known Return = true
known (Load x) = known_source x
known (Apply o x) = known_source x
known (Open j) = true
known Close = true
known (StoreBit c n) = known_bit c && stored_area c.area
known (StoreWord c n) = known_word c && stored_word c
known (Switch c on) = known_bit c && stored_area c.area
known (Test x k) = known_check x
known (Skip k) = true
known (Call m) = true

-- at place n of code that is len long: leads on to places of the code, forward, and a call leads downward
abbrev pub inside : ℕ → ℕ → Instruction → Bool
inside len n Return = true
inside len n (Load x) = nat_lt (n + 1) len
inside len n (Apply o x) = nat_lt (n + 1) len
inside len n (Open j) = nat_lt (n + 1) len
inside len n Close = nat_lt (n + 1) len
inside len n (StoreBit c k) = nat_lt (n + 1) len
inside len n (StoreWord c k) = nat_lt (n + 1) len
inside len n (Switch c on) = nat_lt (n + 1) len
inside len n (Test x k) = nat_lt (n + 1 + k) len
inside len n (Skip k) = nat_lt (n + 1 + k) len
inside len n (Call m) = nat_lt n m && nat_lt m len

-- how many instructions it may pass over
abbrev pub skipped : Instruction → ℕ
skipped Return = 0
skipped (Load x) = 0
skipped (Apply o x) = 0
skipped (Open j) = 0
skipped Close = 0
skipped (StoreBit c k) = 0
skipped (StoreWord c k) = 0
skipped (Switch c on) = 0
skipped (Test x k) = k
skipped (Skip k) = k
skipped (Call m) = 0

abbrev pub ends : Instruction → Bool
ends Return = true
ends (Load x) = false
ends (Apply o x) = false
ends (Open j) = false
ends Close = false
ends (StoreBit c k) = false
ends (StoreWord c k) = false
ends (Switch c on) = false
ends (Test x k) = false
ends (Skip k) = false
ends (Call m) = false

-- no module ends among the k instructions from place n
abbrev pub unbroken : List Instruction → ℕ → ℕ → Bool
unbroken code n zero = true
unbroken code n (suc k) = unbroken code n k && not (ends (slice_index_or code (n + k) Return))

-- the instruction at place n may stand there: what it passes over is of its own module
abbrev pub fine_as : List Instruction → ℕ → ℕ → Instruction → Bool
fine_as code len n i = known i && (inside len n i && unbroken code (n + 1) (skipped i))

abbrev pub fine : List Instruction → ℕ → ℕ → Bool
fine code len n = fine_as code len n (slice_index_or code n Return)

-- each of the first n instructions
abbrev pub all_fine : List Instruction → ℕ → ℕ → Bool
all_fine code len zero = true
all_fine code len (suc n) = all_fine code len n && fine code len n

-- at most 2,048 instructions, both entries among them, and each may stand where it stands
abbrev pub sound : List Instruction → ℕ → ℕ → Bool
sound code quick slow =
    nat_le (length code) 2048
    && (nat_lt quick (length code) && (nat_lt slow (length code) && all_fine code (length code) (length code)))

-- in the record: with `Return` at each place behind it
abbrev pub padded : List Instruction → List Instruction
padded code = code ++ replicate (2048 - length code) Return
