-- The interval machine: its states, the calls on it, and what each call answers and leaves. Names no type of the code.
use Rattle.std.specs.Prelude.{ℕ, ◌+◌, ◌-◌, ◌*◌, ◌%◌, Bool, true, false, cond, ◌&&◌, List, [], ◌∷◌, map, length, replicate, Some, None, Option, ◌==◌, nat_lt, slice_index, slice_index_or}
use Rattle.std.specs.List.{range_with_len}
use Rattle.faults.specs.declared.Layer.{Layer}
use Rattle.faults.specs.declared.Layer.TheVariants.{Controller, Panel}
use Rattle.panel.specs.Meaning.{Meaning, first_silent, words_of, after_puts, mask_of}
use Rattle.program.specs.Cells.{Sight, State as Moment, pair_at}
use Rattle.meaning.specs.Meaning.{last}
use Rattle.meaning.specs.Passes.{beginning}
use Rattle.machine.specs.Plan.{Picture, Plan, moment_after, outcome_of}

-- ---- states
pub data Phase : Type 0 where
  idle : Phase
  opened : Phase
  scanned : Phase

-- a sweep has the picture of its beginning, and its steps spent
pub data Sweep : Type 0 where
  no_sweep : Sweep
  under_way : Picture → ℕ → Sweep

-- eight words of inputs, those of the opening before, the 144 bytes, the 20 timers, the interval's number, its phase, the sweep
pub record State : Type 0 where
  pub inputs : List ℕ
  pub previous : List ℕ
  pub bytes : List ℕ
  pub timers : List ℕ
  pub number : ℕ
  pub phase : Phase
  pub sweep : Sweep

-- the machine when it is made
abbrev pub made : State
made = record { inputs = replicate 8 0; previous = replicate 8 0; bytes = replicate 144 0; timers = replicate 20 0; number = 0; phase = idle; sweep = no_sweep }

-- ---- calls and answers
-- A ticket counts by its number. Opening and closing meet a panel, which counts by its meaning.
pub data Call : Type 0 where
  opening : Meaning → Call
  quick_scan : (ticket : ℕ) → Call
  slow_slice : (ticket allowance : ℕ) → Call
  closing : (ticket : ℕ) → Meaning → Call
  show_byte : ℕ → Call
  show_timer : ℕ → Call
  show_sweep : Call
  show_working : ℕ → Call

pub record Fault : Type 0 where
  pub cause : ℕ
  pub layer : Layer
  pub place : ℕ

-- The answers of opening and closing, refusals too, have the panel's meaning after the call.
pub data Answer : Type 0 where
  opened_as : (ticket : ℕ) → Meaning → Answer
  scanned_as : (ticket steps : ℕ) → Answer
  sliced : (steps : ℕ) (ended : Bool) → Answer
  closed : (mask : ℕ) → Meaning → Answer
  shown : ℕ → Answer
  sweep_shown : (spent op : ℕ) → Answer
  refused : Fault → Answer
  refused_at : Fault → Meaning → Answer

abbrev pub refused_over : Meaning → Fault → Answer
refused_over m e = refused_at e m

-- 14: not in this phase, or not with this ticket; n is the interval's number
abbrev pub out_of_turn : ℕ → Fault
out_of_turn n = record { cause = 14; layer = Controller; place = n }

-- 15: input word k is silent
abbrev pub silent_word : ℕ → Fault
silent_word k = record { cause = 15; layer = Panel; place = k }

-- 16: there is no such byte or timer
abbrev pub no_such : ℕ → Fault
no_such k = record { cause = 16; layer = Controller; place = k }

abbrev pub is_idle : Phase → Bool
is_idle idle = true
is_idle opened = false
is_idle scanned = false

abbrev pub is_opened : Phase → Bool
is_opened idle = false
is_opened opened = true
is_opened scanned = false

abbrev pub is_scanned : Phase → Bool
is_scanned idle = false
is_scanned opened = false
is_scanned scanned = true

-- ---- opening
-- the number of the next interval: 32 bits, 0 follows the highest
abbrev pub risen : ℕ → ℕ
risen n = (n + 1) % 4294967296

-- each timer above 0 falls by 1
abbrev pub fallen : List ℕ → List ℕ
fallen timers = map (λ t. t - 1) timers

abbrev pub opened_with : State → List ℕ → State
opened_with s words = record { inputs = words; previous = s.inputs; bytes = s.bytes; timers = fallen s.timers; number = risen s.number; phase = opened; sweep = s.sweep }

-- with the first silent input word, if there is one
abbrev pub opening_of : State → Meaning → Option ℕ → State × Answer
opening_of s m None = (opened_with s (words_of m), opened_as (risen s.number) m)
opening_of s m (Some k) = (s, refused_at (silent_word k) m)

-- ---- calls with a ticket
-- refused by 14 unless it is their phase and the ticket has the interval's number
abbrev pub in_turn : State → Bool → ℕ → (Fault → Answer) → State × Answer → State × Answer
in_turn s due ticket refusal accepted = cond (due && ticket == s.number) accepted (s, refusal (out_of_turn s.number))

-- ---- sweeps
abbrev pub picture_of : State → Picture
picture_of s = record { inputs = s.inputs; bytes = s.bytes; timers = s.timers }

-- the picture of the sweep under way, or else the one that a sweep would begin with now
abbrev pub picture_at : State → Sweep → Picture
picture_at s no_sweep = picture_of s
picture_at s (under_way p k) = p

abbrev pub spent_at : Sweep → ℕ
spent_at no_sweep = 0
spent_at (under_way p k) = k

-- each of the 144 bytes that the pass stored has its last value, the others stay as they are
abbrev pub published : Moment → List ℕ → List ℕ
published t bytes = map (λ b. cond (slice_index_or t.stored b false) (slice_index t.bytes b) (slice_index bytes b)) (range_with_len 0 144)

abbrev pub with_sweep : State → Sweep → State
with_sweep s w = record { inputs = s.inputs; previous = s.previous; bytes = s.bytes; timers = s.timers; number = s.number; phase = s.phase; sweep = w }

abbrev pub swept : State → List ℕ → State
swept s bytes = record { inputs = s.inputs; previous = s.previous; bytes = bytes; timers = s.timers; number = s.number; phase = s.phase; sweep = no_sweep }

-- ---- scans and closings
abbrev pub sight_of : State → Sight
sight_of s = record { inputs = s.inputs; previous = s.previous }

abbrev pub scanned_to : State → Moment → State
scanned_to s t = record { inputs = s.inputs; previous = s.previous; bytes = t.bytes; timers = t.timers; number = s.number; phase = scanned; sweep = s.sweep }

abbrev pub closed_to : State → State
closed_to s = record { inputs = s.inputs; previous = s.previous; bytes = s.bytes; timers = s.timers; number = s.number; phase = idle; sweep = s.sweep }

-- output words 0 to 7: bytes 128 on in pairs, the low one first
abbrev pub output_words : List ℕ → List ℕ
output_words bytes = map (λ k. pair_at bytes (128 + 2 * k)) (range_with_len 0 8)

-- the puts of the output words, silent ones passed over
abbrev pub closing_of : State → Meaning → State × Answer
closing_of s m = (closed_to s, closed (mask_of m.output_answers 8) (after_puts m (output_words s.bytes) 8))

-- ---- the machine of a plan
module _ (plan : Plan) where
  -- the whole pass of :001 that a quick scan makes now
  abbrev pub quick_trail : State → List Moment
  quick_trail s = plan.quick (sight_of s) s.bytes s.timers

  -- bytes and timers become those of the pass's last moment
  abbrev pub scan_by : State → State × Answer
  scan_by s = (scanned_to s (last (beginning s.bytes s.timers) (quick_trail s)), scanned_as s.number (length (quick_trail s)))

  -- n more steps, n above 0, of a sweep over p that has spent k
  abbrev pub slice_of : State → Picture → ℕ → ℕ → State × Answer
  slice_of s p k n =
      cond (nat_lt (k + n) (length (plan.slow p)))
      (with_sweep s (under_way p (k + n)), sliced n false)
      (swept s (published (outcome_of p (plan.slow p)) s.bytes), sliced (length (plan.slow p) - k) true)

  abbrev pub sliced_by : State → ℕ → State × Answer
  sliced_by s n = cond (n == 0) (s, sliced 0 false) (slice_of s (picture_at s s.sweep) (spent_at s.sweep) n)

  -- the steps spent, and OP after so many
  abbrev pub sweep_view : Sweep → Answer
  sweep_view no_sweep = sweep_shown 0 0
  sweep_view (under_way p k) = sweep_shown k (moment_after p (plan.slow p) k).op

  -- the bytes that the sweep works on
  abbrev pub working_bytes : List ℕ → Sweep → List ℕ
  working_bytes bytes no_sweep = bytes
  working_bytes bytes (under_way p k) = (moment_after p (plan.slow p) k).bytes

  -- the state that a call leaves, and its answer
  abbrev pub outcome : State → Call → State × Answer
  outcome s (opening m) = cond (is_idle s.phase) (opening_of s m (first_silent m.input_answers 0 8)) (s, refused_at (out_of_turn s.number) m)
  outcome s (quick_scan t) = in_turn s (is_opened s.phase) t refused (scan_by s)
  outcome s (slow_slice t n) = in_turn s (is_scanned s.phase) t refused (sliced_by s n)
  outcome s (closing t m) = in_turn s (is_scanned s.phase) t (refused_over m) (closing_of s m)
  outcome s (show_byte b) = (s, cond (nat_lt b 144) (shown (slice_index s.bytes b)) (refused (no_such b)))
  outcome s (show_timer t) = (s, cond (nat_lt t 20) (shown (slice_index s.timers t)) (refused (no_such t)))
  outcome s show_sweep = (s, sweep_view s.sweep)
  outcome s (show_working b) = (s, cond (nat_lt b 144) (shown (slice_index (working_bytes s.bytes s.sweep) b)) (refused (no_such b)))

  abbrev pub next : State → Call → State
  next s c = (outcome s c).0

  abbrev pub answer : State → Call → Answer
  answer s c = (outcome s c).1

  -- the state after calls, in their order
  abbrev pub after : State → List Call → State
  after s [] = s
  after s (c ∷ cs) = after (next s c) cs
