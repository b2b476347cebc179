-- What is claimed of the machine. Names no type of the code.
use Rattle.std.specs.Prelude.{◌≡◌, ℕ, false, List, [], ◌∷◌, ◌++◌}
use Rattle.panel.specs.Meaning.{Meaning}
use Rattle.machine.specs.Plan.{Plan, Bounded}
use Rattle.machine.specs.Machine.{Phase, idle, opened, scanned, State, made, Call, opening, quick_scan, slow_slice, closing, opened_as, next, answer}
use Rattle.machine.specs.Histories.{Event, history, is_refused}
use Rattle.machine.specs.Laws.{state, Lawful}

-- whatever is called, the history of the machine's own answers is lawful
abbrev pub MachineIsLawful : Type 0
MachineIsLawful = (plan : Plan) → Bounded plan → (cs : List Call) → Lawful plan (history plan made cs)

pub record OneMore (plan : Plan) (h : List Event) (e : Event) : Type 0 where
  pub lawful : Lawful plan (h ++ (e ∷ []))
  pub state_is : state plan (h ++ (e ∷ [])) ≡ next plan (state plan h) e.call

-- one more call with the machine's answer keeps a history lawful
abbrev pub GoesOn : Type 0
GoesOn = (plan : Plan) → Bounded plan → (h : List Event) (e : Event) → Lawful plan h → e.answer ≡ answer plan (state plan h) e.call → OneMore plan h e

-- the interval is in this phase and has the ticket's number
pub record Turn (p : Phase) (ticket : ℕ) (s : State) : Type 0 where
  pub phase_is : s.phase ≡ p
  pub number_is : ticket ≡ s.number

-- a call that is accepted in a state, and then it is the turn of the next
pub record Accepts (plan : Plan) (s : State) (c : Call) (p : Phase) (ticket : ℕ) : Type 0 where
  pub accepted : is_refused (answer plan s c) ≡ false
  pub then_turn : Turn p ticket (next plan s c)

-- opening, quick scan, any slices and closing, each with the interval's ticket, are accepted one after the other
pub record IntervalGoes (plan : Plan) : Type 0 where
  pub opens : (s : State) (m after : Meaning) (t : ℕ) → answer plan s (opening m) ≡ opened_as t after → Turn opened t (next plan s (opening m))
  pub scans : (s : State) (t : ℕ) → Turn opened t s → Accepts plan s (quick_scan t) scanned t
  pub slices : (s : State) (t n : ℕ) → Turn scanned t s → Accepts plan s (slow_slice t n) scanned t
  pub closes : (s : State) (t : ℕ) (m : Meaning) → Turn scanned t s → Accepts plan s (closing t m) idle t

abbrev pub IntervalsGo : Type 0
IntervalsGo = (plan : Plan) → IntervalGoes plan
