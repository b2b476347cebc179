-- The laws of histories. Names no type of the code.
use Rattle.std.specs.Prelude.{◌≡◌, ℕ, ◌+◌, ◌*◌, ◌<◌, ◌≤◌, min, true, false, cond, ◌↔◌, List, [], ◌∷◌, ◌++◌, length, Some, slice_index, slice_index_or}
use Rattle.panel.specs.Meaning.{Meaning}
use Rattle.program.specs.Cells.{State as Moment, bit_of_byte, pair_at}
use Rattle.machine.specs.Plan.{Picture, Plan, moment_after, outcome_of}
use Rattle.machine.specs.Machine.{idle, opened, scanned, State, made, opening, quick_scan, slow_slice, closing, show_sweep, show_working, opened_as, closed, shown, sweep_shown, sight_of, picture_of, published, next, answer, after}
use Rattle.machine.specs.Histories.{Event, calls, is_refused, scan_steps, says_opened, says_scanned, panel_after, is_display, allowance, steps, ended, allowances, all_steps, OneSweep, OfOneSweep, number_told, phase_told, seen}

-- all eight inputs of the panel answer
abbrev pub AllAnswer : Meaning → Type 0
AllAnswer m = (k : ℕ) → k < 8 → slice_index_or m.input_answers k false ≡ true

-- A panel that meant m means m' after the puts of the output bytes: each answering output has its word, and nothing else has changed.
pub record PutLaw (bytes : List ℕ) (m : Meaning) (mask : ℕ) (m' : Meaning) : Type 0 where
  pub outputs : length m.outputs ≡ 8 → (k : ℕ) → k < 8 → slice_index m'.outputs k ≡ cond (slice_index_or m.output_answers k false) (pair_at bytes (128 + 2 * k)) (slice_index m.outputs k)
  pub outputs_long : length m'.outputs ≡ length m.outputs
  pub inputs : m'.inputs ≡ m.inputs
  pub input_answers : m'.input_answers ≡ m.input_answers
  pub output_answers : m'.output_answers ≡ m.output_answers
  -- bit k of the mask is 1 for a silent output k
  pub mask_bits : (k : ℕ) → k < 8 → bit_of_byte mask k ≡ cond (slice_index_or m.output_answers k false) 0 1

module _ (plan : Plan) where
  -- every answer is the machine's
  abbrev pub Follows : State → List Event → Type 0
  Follows s [] = Unit {0}
  Follows s (e ∷ h) = (e.answer ≡ answer plan s e.call) × Follows (next plan s e.call) h

  -- the state after a history
  abbrev pub state : List Event → State
  state h = after plan made (calls h)

  -- the picture that a sweep takes if it begins now
  abbrev pub picture : List Event → Picture
  picture h = picture_of (state h)

  -- the uncut pass over that picture
  abbrev pub pass : List Event → List Moment
  pass h = plan.slow (picture h)

  -- A sweep that begins after `before` and has come to `last`, against the uncut pass over the picture of its beginning.
  pub record SweepLaw (before events : List Event) (last : Event) : Type 0 where
    -- it has ended exactly when the allowances add up to the pass's steps or more
    pub ends : (ended last ≡ true) ↔ (length (pass before) ≤ allowances (events ++ (last ∷ [])))
    -- the answers add up to the lesser of the two
    pub counts : all_steps (events ++ (last ∷ [])) ≡ min (length (pass before)) (allowances (events ++ (last ∷ [])))
    -- with its end, every byte that the pass stored has its last value, the others are as they were
    pub stores : ended last ≡ true → (state (before ++ (events ++ (last ∷ [])))).bytes ≡ published (outcome_of (picture before) (pass before)) (state (before ++ events)).bytes
    -- the display shows the pass after as many steps as the slices have answered
    pub shows : last.call ≡ show_sweep → last.answer ≡ sweep_shown (all_steps events) (moment_after (picture before) (pass before) (all_steps events)).op
    pub shows_working : (b : ℕ) → b < 144 → last.call ≡ show_working b → last.answer ≡ shown (slice_index (moment_after (picture before) (pass before) (all_steps events)).bytes b)
    -- the figure bounds the pass, so allowances of that many steps end the sweep
    pub bound : length (pass before) ≤ plan.slow_figure
    pub in_time : plan.slow_figure ≤ allowances (events ++ (last ∷ [])) → ended last ≡ true

  -- each call is accepted exactly in its turn, which the accepted calls before tell
  pub record TurnLaw (before : List Event) (e : Event) : Type 0 where
    pub opens : (m : Meaning) → e.call ≡ opening m → (is_refused e.answer ≡ false) ↔ ((phase_told before ≡ idle) × AllAnswer m)
    pub scans : (t : ℕ) → e.call ≡ quick_scan t → (is_refused e.answer ≡ false) ↔ ((phase_told before ≡ opened) × (t ≡ number_told before))
    pub slices : (t n : ℕ) → e.call ≡ slow_slice t n → (is_refused e.answer ≡ false) ↔ ((phase_told before ≡ scanned) × (t ≡ number_told before))
    pub closes : (t : ℕ) (m : Meaning) → e.call ≡ closing t m → (is_refused e.answer ≡ false) ↔ ((phase_told before ≡ scanned) × (t ≡ number_told before))

  -- what calls leave as it is, and what they count
  pub record EventLaw (before : List Event) (e : Event) : Type 0 where
    -- no slice answers more than its allowance, and one that ends a sweep has made a step
    pub allowed : steps e ≤ allowance e
    pub moves : ended e ≡ true → 0 < steps e
    -- a quick scan answers at most the quick figure
    pub quick_bound : scan_steps e.answer ≤ plan.quick_figure
    -- a refusal and a display change nothing
    pub refusal_stays : is_refused e.answer ≡ true → state (before ++ (e ∷ [])) ≡ state before
    pub display_stays : is_display e.call ≡ true → state (before ++ (e ∷ [])) ≡ state before
    -- only a quick scan and the end of a sweep change a byte
    pub bytes_stay : says_scanned e.answer ≡ false → ended e ≡ false → (state (before ++ (e ∷ []))).bytes ≡ (state before).bytes
    -- only an opening and a quick scan change a timer
    pub timers_stay : says_opened e.answer ≡ false → says_scanned e.answer ≡ false → (state (before ++ (e ∷ []))).timers ≡ (state before).timers
    -- an opening answers the number of its interval
    pub numbered : (t : ℕ) (m : Meaning) → e.answer ≡ opened_as t m → t ≡ number_told (before ++ (e ∷ []))
    -- each end is the end of one sweep
    pub found : ended e ≡ true → OfOneSweep before e

  -- what calls do to a panel
  pub record PanelLaw (before : List Event) (e : Event) : Type 0 where
    -- an opening leaves its meaning, and so does a refused closing
    pub opening_leaves : (m : Meaning) → e.call ≡ opening m → panel_after e.answer ≡ Some m
    pub refusal_leaves : (t : ℕ) (m : Meaning) → e.call ≡ closing t m → is_refused e.answer ≡ true → panel_after e.answer ≡ Some m
    -- a closing puts the output bytes as they are after the history
    pub closing_puts : (t mask : ℕ) (m m' : Meaning) → e.call ≡ closing t m → e.answer ≡ closed mask m' → PutLaw (state before).bytes m mask m'

  pub record Lawful (h : List Event) : Type 0 where
    -- every answer is the machine's
    pub answers : Follows made h
    -- of each event, and of each sweep as far as it has come
    pub turns : (before : List Event) (e : Event) (rest : List Event) → h ≡ before ++ (e ∷ rest) → TurnLaw before e
    pub events : (before : List Event) (e : Event) (rest : List Event) → h ≡ before ++ (e ∷ rest) → EventLaw before e
    pub panels : (before : List Event) (e : Event) (rest : List Event) → h ≡ before ++ (e ∷ rest) → PanelLaw before e
    pub sweeps : (before events : List Event) (last : Event) (rest : List Event) → h ≡ before ++ (events ++ (last ∷ rest)) → OneSweep before events last → SweepLaw before events last
    -- inputs and previous inputs are what the last two accepted openings read
    pub sees : sight_of (state h) ≡ seen h
