-- Histories: what was called and what was answered, and the stretches that are one sweep. Names no type of the code.
use Rattle.std.specs.Prelude.{◌≡◌, ℕ, ◌+◌, ◌%◌, ◌<◌, Bool, true, false, cond, List, [], ◌∷◌, ◌++◌, replicate, Some, None, Option}
use Rattle.panel.specs.Meaning.{Meaning, words_of}
use Rattle.program.specs.Cells.{Sight}
use Rattle.machine.specs.Plan.{Plan}
use Rattle.machine.specs.Machine.{Phase, idle, opened, scanned, State, Call, opening, quick_scan, slow_slice, closing, show_byte, show_timer, show_sweep, show_working, Answer, opened_as, scanned_as, sliced, closed, shown, sweep_shown, refused, refused_at, next, answer}

-- A call that was made and what it answered, refusals and displays too. A history is a list of these, the oldest first.
pub record Event : Type 0 where
  pub call : Call
  pub answer : Answer

abbrev pub calls : List Event → List Call
calls [] = []
calls (e ∷ h) = e.call ∷ calls h

-- the history of the machine's own answers
abbrev pub history : Plan → State → List Call → List Event
history plan s [] = []
history plan s (c ∷ cs) = record { call = c; answer = answer plan s c } ∷ history plan (next plan s c) cs

-- ---- what an answer tells
abbrev pub is_refused : Answer → Bool
is_refused (opened_as t m) = false
is_refused (scanned_as t n) = false
is_refused (sliced n e) = false
is_refused (closed k m) = false
is_refused (shown v) = false
is_refused (sweep_shown n v) = false
is_refused (refused f) = true
is_refused (refused_at f m) = true

-- the steps that a slice answered; any other answer counts none
abbrev pub slice_steps : Answer → ℕ
slice_steps (opened_as t m) = 0
slice_steps (scanned_as t n) = 0
slice_steps (sliced n e) = n
slice_steps (closed k m) = 0
slice_steps (shown v) = 0
slice_steps (sweep_shown n v) = 0
slice_steps (refused f) = 0
slice_steps (refused_at f m) = 0

-- a slice answered that its sweep has ended
abbrev pub says_ended : Answer → Bool
says_ended (opened_as t m) = false
says_ended (scanned_as t n) = false
says_ended (sliced n e) = e
says_ended (closed k m) = false
says_ended (shown v) = false
says_ended (sweep_shown n v) = false
says_ended (refused f) = false
says_ended (refused_at f m) = false

-- the steps that a quick scan answered; any other answer counts none
abbrev pub scan_steps : Answer → ℕ
scan_steps (opened_as t m) = 0
scan_steps (scanned_as t n) = n
scan_steps (sliced n e) = 0
scan_steps (closed k m) = 0
scan_steps (shown v) = 0
scan_steps (sweep_shown n v) = 0
scan_steps (refused f) = 0
scan_steps (refused_at f m) = 0

-- an opening was accepted
abbrev pub says_opened : Answer → Bool
says_opened (opened_as t m) = true
says_opened (scanned_as t n) = false
says_opened (sliced n e) = false
says_opened (closed k m) = false
says_opened (shown v) = false
says_opened (sweep_shown n v) = false
says_opened (refused f) = false
says_opened (refused_at f m) = false

-- a quick scan was accepted
abbrev pub says_scanned : Answer → Bool
says_scanned (opened_as t m) = false
says_scanned (scanned_as t n) = true
says_scanned (sliced n e) = false
says_scanned (closed k m) = false
says_scanned (shown v) = false
says_scanned (sweep_shown n v) = false
says_scanned (refused f) = false
says_scanned (refused_at f m) = false

-- the phase that an answer tells: accepted openings, quick scans and closings change it
abbrev pub phase_by : Answer → Phase → Phase
phase_by (opened_as t m) p = opened
phase_by (scanned_as t n) p = scanned
phase_by (sliced n e) p = p
phase_by (closed k m) p = idle
phase_by (shown v) p = p
phase_by (sweep_shown n v) p = p
phase_by (refused f) p = p
phase_by (refused_at f m) p = p

-- the panel's meaning after a call that met a panel
abbrev pub panel_after : Answer → Option Meaning
panel_after (opened_as t m) = Some m
panel_after (scanned_as t n) = None
panel_after (sliced n e) = None
panel_after (closed k m) = Some m
panel_after (shown v) = None
panel_after (sweep_shown n v) = None
panel_after (refused f) = None
panel_after (refused_at f m) = Some m

-- the allowance of a slice that was called for n steps: a refused slice has none
abbrev pub granted : Bool → ℕ → ℕ
granted true n = 0
granted false n = n

abbrev pub allowance_of : Call → Answer → ℕ
allowance_of (opening m) a = 0
allowance_of (quick_scan t) a = 0
allowance_of (slow_slice t n) a = granted (is_refused a) n
allowance_of (closing t m) a = 0
allowance_of (show_byte b) a = 0
allowance_of (show_timer t) a = 0
allowance_of show_sweep a = 0
allowance_of (show_working b) a = 0

-- a display
abbrev pub is_display : Call → Bool
is_display (opening m) = false
is_display (quick_scan t) = false
is_display (slow_slice t n) = false
is_display (closing t m) = false
is_display (show_byte b) = true
is_display (show_timer t) = true
is_display show_sweep = true
is_display (show_working b) = true

-- ---- what an event tells
abbrev pub allowance : Event → ℕ
allowance e = allowance_of e.call e.answer

abbrev pub steps : Event → ℕ
steps e = slice_steps e.answer

abbrev pub ended : Event → Bool
ended e = says_ended e.answer

-- ---- what a history tells
-- the allowances of the accepted slices
abbrev pub allowances : List Event → ℕ
allowances [] = 0
allowances (e ∷ h) = allowance e + allowances h

-- the steps that the slices answered
abbrev pub all_steps : List Event → ℕ
all_steps [] = 0
all_steps (e ∷ h) = steps e + all_steps h

abbrev pub NoneEnded : List Event → Type 0
NoneEnded [] = Unit {0}
NoneEnded (e ∷ h) = (ended e ≡ false) × NoneEnded h

-- the allowances since the last end, where k were allowed before
abbrev pub since_end : ℕ → List Event → ℕ
since_end k [] = k
since_end k (e ∷ h) = since_end (cond (ended e) 0 (k + allowance e)) h

-- the first event is an accepted slice of more than 0 steps
abbrev pub BeginsSweep : List Event → Type 0
BeginsSweep [] = ⊥
BeginsSweep (e ∷ h) = 0 < allowance e

-- One sweep as far as it has come, up to an event of it: after the history `before` none was under way, since nothing was allowed since the
-- last end; it begins with an accepted slice of more than 0 steps; and nothing before its last event has ended it.
pub record OneSweep (before events : List Event) (last : Event) : Type 0 where
  pub fresh : since_end 0 before ≡ 0
  pub begins : BeginsSweep (events ++ (last ∷ []))
  pub going : NoneEnded events

-- the last event is the last of one sweep
pub record OfOneSweep (before : List Event) (last : Event) : Type 0 where
  pub earlier : List Event
  pub events : List Event
  pub cut : before ≡ earlier ++ events
  pub sweep : OneSweep earlier events last

-- the accepted openings
abbrev pub openings : List Event → ℕ
openings [] = 0
openings (e ∷ h) = cond (says_opened e.answer) 1 0 + openings h

-- the number of the interval: that of the accepted openings, of which 32 bits count
abbrev pub number_told : List Event → ℕ
number_told h = openings h % 4294967296

-- the phase after a history that began in phase p
abbrev pub phase_since : Phase → List Event → Phase
phase_since p [] = p
phase_since p (e ∷ h) = phase_since (phase_by e.answer p) h

abbrev pub phase_told : List Event → Phase
phase_told h = phase_since idle h

-- the words that a call reads from its panel
abbrev pub read_by : Call → List ℕ → List ℕ
read_by (opening m) words = words_of m
read_by (quick_scan t) words = words
read_by (slow_slice t n) words = words
read_by (closing t m) words = words
read_by (show_byte b) words = words
read_by (show_timer t) words = words
read_by show_sweep words = words
read_by (show_working b) words = words

-- the words of the last accepted opening and of the one before it, where i were those before the history
abbrev pub seen_since : Sight → List Event → Sight
seen_since i [] = i
seen_since i (e ∷ h) = seen_since (cond (says_opened e.answer) (record { inputs = read_by e.call i.inputs; previous = i.inputs }) i) h

-- all 0 where there was none
abbrev pub seen : List Event → Sight
seen h = seen_since (record { inputs = replicate 8 0; previous = replicate 8 0 }) h
