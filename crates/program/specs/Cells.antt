-- The cells of a pass and their values. Assumes nothing.
use Rattle.std.specs.Prelude.{ℕ, ◌+◌, ◌-◌, ◌*◌, ◌/◌, ◌%◌, ◌^◌, Bool, true, cond, List, ◌==◌, bit_and, bit_or, bit_xor, nat_le, nat_lt, slice_index, slice_set}
use Rattle.tokens.specs.declared.Area.{Area}
use Rattle.tokens.specs.declared.Area.TheVariants.{Input, Output, Change, Internal}
use Rattle.tokens.specs.declared.BitCell.{BitCell}
use Rattle.tokens.specs.declared.WordCell.{WordCell}
use Rattle.tokens.specs.declared.WordCell.TheVariants.{Pair, Timer}
use Rattle.tokens.specs.declared.Operator.{Operator}
use Rattle.tokens.specs.declared.Operator.TheVariants.{And, Or, Xor, Add, Subtract}
use Rattle.tokens.specs.declared.Comparison.{Comparison}
use Rattle.tokens.specs.declared.Comparison.TheVariants.{Less, Greater, Equal, AtMost, AtLeast}

-- what a pass sees and does not change: eight words of inputs, and those of the opening before
pub record Sight : Type 0 where
  pub inputs : List ℕ
  pub previous : List ℕ

-- what a pass changes: OP, the 144 bytes (F 0 to 127, then the Y bytes board by board), the timers,
-- and for each byte whether the pass has stored into it
pub record State : Type 0 where
  pub op : ℕ
  pub bytes : List ℕ
  pub timers : List ℕ
  pub stored : List Bool

-- a bit as a number
abbrev pub number : Bool → ℕ
number b = cond b 1 0

-- bit r of a byte or a word
abbrev pub bit_of_byte : ℕ → ℕ → ℕ
bit_of_byte v r = v / 2 ^ r % 2

-- bit r of byte b of the words of inputs: byte 2 k is the low half of word k
abbrev pub bit_among : List ℕ → ℕ → ℕ → ℕ
bit_among words b r = bit_of_byte (slice_index words (b / 2)) (8 * (b % 2) + r)

-- where byte b of F or Y lies among the 144 bytes
abbrev pub byte_at : Area → ℕ → ℕ
byte_at Input b = b
byte_at Output b = 128 + b
byte_at Change b = b
byte_at Internal b = b

abbrev pub bit_in : Area → Sight → State → ℕ → ℕ → ℕ
bit_in Input i s b r = bit_among i.inputs b r
bit_in Output i s b r = bit_of_byte (slice_index s.bytes (128 + b)) r
bit_in Change i s b r = (bit_among i.inputs b r + bit_among i.previous b r) % 2
bit_in Internal i s b r = bit_of_byte (slice_index s.bytes b) r

-- the value of a bit, 0 or 1; that of V is 1 where the input differs from the opening before
abbrev pub bit_value : Sight → State → BitCell → ℕ
bit_value i s c = bit_in c.area i s c.byte c.bit

-- two bytes as a word, the low one first
abbrev pub pair_at : List ℕ → ℕ → ℕ
pair_at bytes n = slice_index bytes n + 256 * slice_index bytes (n + 1)

abbrev pub pair_in : Area → Sight → State → ℕ → ℕ
pair_in Input i s b = slice_index i.inputs (b / 2)
pair_in Output i s b = pair_at s.bytes (128 + b)
pair_in Change i s b = bit_xor (slice_index i.inputs (b / 2)) (slice_index i.previous (b / 2))
pair_in Internal i s b = pair_at s.bytes b

abbrev pub word_value : Sight → State → WordCell → ℕ
word_value i s (Pair a b) = pair_in a i s b
word_value i s (Timer t) = slice_index s.timers t

-- 1 less a bit, 65,535 less a word
abbrev pub turned_bit : Bool → ℕ → ℕ
turned_bit n v = cond n (1 - v) v

abbrev pub turned_word : Bool → ℕ → ℕ
turned_word n v = cond n (65535 - v) v

-- and, or and exclusive or bit by bit; sum and difference modulo 65,536
abbrev pub combined : Operator → ℕ → ℕ → ℕ
combined And a b = bit_and a b
combined Or a b = bit_or a b
combined Xor a b = bit_xor a b
combined Add a b = (a + b) % 65536
combined Subtract a b = (a + 65536 - b) % 65536

-- OP first, unsigned
abbrev pub compares : Comparison → ℕ → ℕ → Bool
compares Less a b = nat_lt a b
compares Greater a b = nat_lt b a
compares Equal a b = a == b
compares AtMost a b = nat_le a b
compares AtLeast a b = nat_le b a

-- a byte with bit r set to v, which is 0 or 1
abbrev pub with_bit : ℕ → ℕ → ℕ → ℕ
with_bit byte r v = byte - bit_of_byte byte r * 2 ^ r + v * 2 ^ r

abbrev pub with_op : State → ℕ → State
with_op s v = record { op = v; bytes = s.bytes; timers = s.timers; stored = s.stored }

-- v into bit r of byte n of the 144
abbrev pub put_bit : State → ℕ → ℕ → ℕ → State
put_bit s n r v = record { op = s.op; bytes = slice_set s.bytes n (with_bit (slice_index s.bytes n) r v); timers = s.timers; stored = slice_set s.stored n true }

-- v into bytes n and n + 1 of the 144
abbrev pub put_pair : State → ℕ → ℕ → State
put_pair s n v = record {
  op = s.op;
  bytes = slice_set (slice_set s.bytes n (v % 256)) (n + 1) (v / 256);
  timers = s.timers;
  stored = slice_set (slice_set s.stored n true) (n + 1) true;
}

abbrev pub put_timer : State → ℕ → ℕ → State
put_timer s t v = record { op = s.op; bytes = s.bytes; timers = slice_set s.timers t v; stored = s.stored }

-- only Y, F and T take a value
abbrev pub bit_stored_in : Area → State → ℕ → ℕ → ℕ → State
bit_stored_in Input s b r v = s
bit_stored_in Output s b r v = put_bit s (128 + b) r v
bit_stored_in Change s b r v = s
bit_stored_in Internal s b r v = put_bit s b r v

abbrev pub bit_put : State → BitCell → ℕ → State
bit_put s c v = bit_stored_in c.area s c.byte c.bit v

abbrev pub pair_stored_in : Area → State → ℕ → ℕ → State
pair_stored_in Input s b v = s
pair_stored_in Output s b v = put_pair s (128 + b) v
pair_stored_in Change s b v = s
pair_stored_in Internal s b v = put_pair s b v

abbrev pub word_put : State → WordCell → ℕ → State
word_put s (Pair a b) v = pair_stored_in a s b v
word_put s (Timer t) v = put_timer s t v

-- a store into a bit takes bit 0 of OP, one into a word all of OP; the flag inverts what is stored
abbrev pub store_bit_of : State → BitCell → Bool → State
store_bit_of s c n = bit_put s c (turned_bit n (s.op % 2))

abbrev pub store_word_of : State → WordCell → Bool → State
store_word_of s c n = word_put s c (turned_word n s.op)

-- `U` stores 1 and `D` 0
abbrev pub switch_bit_of : State → BitCell → Bool → State
switch_bit_of s c on = bit_put s c (number on)
