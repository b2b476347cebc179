-- What one call does, by the kinds of call. Assumes nothing.
use Rattle.std.proofs.Common.{◌≡◌, ℕ, ◌+◌, ◌-◌, ◌<◌, ◌≤◌, Bool, true, false, cond, ◌&&◌, eqb, ltb, length, Some, None, Option, sym, refl, ap, ◌∙◌, subst, arith}
use Rattle.std.proofs.lemmas.Bool.{cond_both, both_ways, ltb-true, ltb-false, eqb-true, eqb-false}
use Rattle.panel.specs.Meaning.{Meaning, first_silent}
use Rattle.machine.specs.Plan.{Picture, Plan, Bounded, outcome_of}
use Rattle.machine.specs.Machine.{Sweep, no_sweep, under_way, State, Call, opening, quick_scan, slow_slice, closing, show_byte, show_timer, show_sweep, show_working, Fault, Answer, opened_as, sliced, sweep_shown, refused, refused_at, refused_over, out_of_turn, is_idle, is_opened, is_scanned, risen, opening_of, in_turn, picture_at, spent_at, published, with_sweep, swept, sight_of, closing_of, scan_by, slice_of, sweep_view, outcome, next, answer}
use Rattle.machine.specs.Histories.{Event, is_refused, slice_steps, says_ended, scan_steps, says_opened, says_scanned, phase_by, allowance_of, is_display, read_by}

-- an answer that no slice gave
record Other (c : Call) (a : Answer) : Type 0 where
  none_granted : allowance_of c a ≡ 0
  no_steps : slice_steps a ≡ 0
  no_end : says_ended a ≡ false

module _ (plan : Plan) where
  -- what a call does to a sweep over p that has spent k
  pub data Did (p : Picture) (k : ℕ) (s : State) (c : Call) (r : State × Answer) : Type 0 where
    nothing : r.0.sweep ≡ s.sweep → allowance_of c r.1 ≡ 0 → slice_steps r.1 ≡ 0 → says_ended r.1 ≡ false → Did p k s c r
    went : (n : ℕ) → 0 < n → k + n < length (plan.slow p) → r.0.sweep ≡ under_way p (k + n) → allowance_of c r.1 ≡ n → slice_steps r.1 ≡ n → says_ended r.1 ≡ false → Did p k s c r
    finished : (n : ℕ) → 0 < n → length (plan.slow p) ≤ k + n → r.0.sweep ≡ no_sweep → r.0.bytes ≡ published (outcome_of p (plan.slow p)) s.bytes → allowance_of c r.1 ≡ n → slice_steps r.1 ≡ length (plan.slow p) - k → says_ended r.1 ≡ true → Did p k s c r

  slice_did : (p : Picture) (k : ℕ) (s : State) (t n : ℕ) → (n ≡ 0 → ⊥) → Did p k s (slow_slice t n) (slice_of plan s p k n)
  slice_did p k s t n z =
      cond_both (ltb (k + n) (length (plan.slow p))) _ _ (Did p k s (slow_slice t n))
      (λ e. went n (omega arith) (ltb-true (k + n) (length (plan.slow p)) e) refl refl refl refl)
      (λ e. finished n (omega arith) (ltb-false (k + n) (length (plan.slow p)) e) refl refl refl refl refl)

  turn_did : (p : Picture) (k : ℕ) (s : State) (c : Call) (b : Bool) (t : ℕ) (say : Fault → Answer) (r : State × Answer) → ((f : Fault) → Other c (say f)) → Did p k s c r → Did p k s c (in_turn s b t say r)
  turn_did p k s c b t say r z d =
      cond_both (b && eqb t s.number) _ _ (Did p k s c) (λ e. d) (λ e. nothing refl (z _).none_granted (z _).no_steps (z _).no_end)

  opening_did : (p : Picture) (k : ℕ) (s : State) (m : Meaning) (o : Option ℕ) → Did p k s (opening m) (opening_of s m o)
  opening_did p k s m None = nothing refl refl refl refl
  opening_did p k s m (Some j) = nothing refl refl refl refl

  view_did : (p : Picture) (k : ℕ) (s : State) (w : Sweep) → Did p k s show_sweep (s, sweep_view plan w)
  view_did p k s no_sweep = nothing refl refl refl refl
  view_did p k s (under_way q j) = nothing refl refl refl refl

  pub did : (s : State) (c : Call) → Did (picture_at s s.sweep) (spent_at s.sweep) s c (outcome plan s c)
  did s (opening m) =
      cond_both (is_idle s.phase) _ _ (Did (picture_at s s.sweep) (spent_at s.sweep) s (opening m))
      (λ e. opening_did _ _ s m (first_silent m.input_answers 0 8))
      (λ e. nothing refl refl refl refl)
  did s (quick_scan t) = turn_did _ _ s (quick_scan t) (is_opened s.phase) t refused _ (λ f. record { none_granted = refl; no_steps = refl; no_end = refl }) (nothing refl refl refl refl)
  did s (slow_slice t n) =
      turn_did _ _ s (slow_slice t n) (is_scanned s.phase) t refused _ (λ f. record { none_granted = refl; no_steps = refl; no_end = refl })
      (cond_both (eqb n 0) _ _ (Did (picture_at s s.sweep) (spent_at s.sweep) s (slow_slice t n))
      (λ e. nothing refl (eqb-true n 0 e) refl refl)
      (λ e. slice_did _ _ s t n (eqb-false n 0 e)))
  did s (closing t m) = turn_did _ _ s (closing t m) (is_scanned s.phase) t (refused_over m) _ (λ f. record { none_granted = refl; no_steps = refl; no_end = refl }) (nothing refl refl refl refl)
  did s (show_byte b) =
      cond_both (ltb b 144) _ _ (λ a. Did (picture_at s s.sweep) (spent_at s.sweep) s (show_byte b) (s, a)) (λ e. nothing refl refl refl refl) (λ e. nothing refl refl refl refl)
  did s (show_timer t) =
      cond_both (ltb t 20) _ _ (λ a. Did (picture_at s s.sweep) (spent_at s.sweep) s (show_timer t) (s, a)) (λ e. nothing refl refl refl refl) (λ e. nothing refl refl refl refl)
  did s show_sweep = view_did _ _ s s.sweep
  did s (show_working b) =
      cond_both (ltb b 144) _ _ (λ a. Did (picture_at s s.sweep) (spent_at s.sweep) s (show_working b) (s, a)) (λ e. nothing refl refl refl refl) (λ e. nothing refl refl refl refl)

  -- of an event that follows the machine
  abbrev pub EventDid : Picture → ℕ → State → Event → Type 0
  EventDid p k s e = Did p k s e.call (next plan s e.call, e.answer)

  pub event_did : (p : Picture) (k : ℕ) (s : State) (e : Event) → picture_at s s.sweep ≡ p → spent_at s.sweep ≡ k → e.answer ≡ answer plan s e.call → EventDid p k s e
  event_did p k s e pe ke q =
      let d = did s e.call in
      let d₁ = subst (λ (x : Picture). Did x (spent_at s.sweep) s e.call (outcome plan s e.call)) pe d in
      let d₂ = subst (λ (x : ℕ). Did p x s e.call (outcome plan s e.call)) ke d₁ in
      subst (λ (a : Answer). Did p k s e.call (next plan s e.call, a)) (sym q) d₂

  -- ---- what a call does besides
  pub record Besides (s : State) (c : Call) (r : State × Answer) : Type 0 where
    pub few : scan_steps r.1 ≤ plan.quick_figure
    pub unmoved : is_refused r.1 ≡ true → r.0 ≡ s
    pub numbers : r.0.number ≡ cond (says_opened r.1) (risen s.number) s.number
    pub tickets : (t : ℕ) (m : Meaning) → r.1 ≡ opened_as t m → t ≡ risen s.number
    pub sees : sight_of r.0 ≡ cond (says_opened r.1) (record { inputs = read_by c s.inputs; previous = s.inputs }) (sight_of s)
    pub phases : r.0.phase ≡ phase_by r.1 s.phase
    pub bytes_stay : says_scanned r.1 ≡ false → says_ended r.1 ≡ false → r.0.bytes ≡ s.bytes
    pub timers_stay : says_opened r.1 ≡ false → says_scanned r.1 ≡ false → r.0.timers ≡ s.timers

  -- a call that opens nothing and leaves number and inputs
  quiet : (s : State) (c : Call) (r : State × Answer) → scan_steps r.1 ≤ plan.quick_figure → (is_refused r.1 ≡ true → r.0 ≡ s) → r.0.number ≡ s.number → sight_of r.0 ≡ sight_of s → says_opened r.1 ≡ false → r.0.phase ≡ phase_by r.1 s.phase → (says_scanned r.1 ≡ false → says_ended r.1 ≡ false → r.0.bytes ≡ s.bytes) → (says_scanned r.1 ≡ false → r.0.timers ≡ s.timers) → Besides s c r
  quiet s c r w u n i o p b t =
      record {
        few = w;
        unmoved = u;
        numbers = n ∙ sym (ap (λ b. cond b (risen s.number) s.number) o);
        tickets = λ t m e. absurd (both_ways (says_opened r.1) o (ap says_opened e));
        sees = i ∙ sym (ap (λ b. cond b (record { inputs = read_by c s.inputs; previous = s.inputs }) (sight_of s)) o);
        phases = p;
        bytes_stay = b;
        timers_stay = λ _. t;
      }

  -- a call that leaves all as it is
  same : (s : State) (c : Call) (a : Answer) → scan_steps a ≤ plan.quick_figure → says_opened a ≡ false → s.phase ≡ phase_by a s.phase → Besides s c (s, a)
  same s c a w o p = quiet s c (s, a) w (λ _. refl) refl refl o p (λ _ _. refl) (λ _. refl)

  turn_besides : (s : State) (c : Call) (b : Bool) (t : ℕ) (say : Fault → Answer) (r : State × Answer) → ((f : Fault) → scan_steps (say f) ≤ plan.quick_figure) → ((f : Fault) → says_opened (say f) ≡ false) → ((f : Fault) → s.phase ≡ phase_by (say f) s.phase) → Besides s c r → Besides s c (in_turn s b t say r)
  turn_besides s c b t say r z o p d = cond_both (b && eqb t s.number) _ _ (Besides s c) (λ e. d) (λ e. same s c (say _) (z _) (o _) (p _))

  opening_besides : (s : State) (m : Meaning) (o : Option ℕ) → Besides s (opening m) (opening_of s m o)
  opening_besides s m None =
      record {
        few = omega arith;
        unmoved = λ e. absurd (both_ways false refl e);
        numbers = refl;
        tickets = λ t m e. sym (cc);
        sees = refl;
        phases = refl;
        bytes_stay = λ _ _. refl;
        timers_stay = λ e. absurd (both_ways true e refl);
      }
  opening_besides s m (Some j) = same s (opening m) _ (omega arith) refl refl

  view_besides : (s : State) (w : Sweep) → Besides s show_sweep (s, sweep_view plan w)
  view_besides s no_sweep = same s show_sweep (sweep_shown 0 0) (omega arith) refl refl
  view_besides s (under_way p k) = same s show_sweep _ (omega arith) refl refl

  slice_besides : (s : State) (p : Picture) (k t n : ℕ) → Besides s (slow_slice t n) (slice_of plan s p k n)
  slice_besides s p k t n =
      cond_both (ltb (k + n) (length (plan.slow p))) _ _ (Besides s (slow_slice t n))
      (λ _. quiet s (slow_slice t n) (with_sweep s (under_way p (k + n)), sliced n false) (omega arith) (λ e. absurd (both_ways false refl e)) refl refl refl refl (λ _ _. refl) (λ _. refl))
      (λ _. quiet s (slow_slice t n) (swept s (published (outcome_of p (plan.slow p)) s.bytes), sliced (length (plan.slow p) - k) true) (omega arith) (λ e. absurd (both_ways false refl e)) refl refl refl refl (λ _ e. absurd (both_ways true e refl)) (λ _. refl))

  pub besides : Bounded plan → (s : State) (c : Call) → Besides s c (outcome plan s c)
  besides bd s (opening m) =
      cond_both (is_idle s.phase) _ _ (Besides s (opening m))
      (λ e. opening_besides s m (first_silent m.input_answers 0 8))
      (λ e. same s (opening m) (refused_at (out_of_turn s.number) m) (omega arith) refl refl)
  besides bd s (quick_scan t) =
      turn_besides s (quick_scan t) (is_opened s.phase) t refused _ (λ f. omega arith) (λ f. refl) (λ f. refl)
      (quiet s (quick_scan t) (scan_by plan s) (bd.quick_few (sight_of s) s.bytes s.timers) (λ e. absurd (both_ways false refl e)) refl refl refl refl (λ e. absurd (both_ways true e refl)) (λ e. absurd (both_ways true e refl)))
  besides bd s (slow_slice t n) =
      turn_besides s (slow_slice t n) (is_scanned s.phase) t refused _ (λ f. omega arith) (λ f. refl) (λ f. refl)
      (cond_both (eqb n 0) _ _ (Besides s (slow_slice t n))
      (λ e. same s (slow_slice t n) (sliced 0 false) (omega arith) refl refl)
      (λ e. slice_besides s (picture_at s s.sweep) (spent_at s.sweep) t n))
  besides bd s (closing t m) =
      turn_besides s (closing t m) (is_scanned s.phase) t (refused_over m) _ (λ f. omega arith) (λ f. refl) (λ f. refl)
      (quiet s (closing t m) (closing_of s m) (omega arith) (λ e. absurd (both_ways false refl e)) refl refl refl refl (λ _ _. refl) (λ _. refl))
  besides bd s (show_byte b) =
      cond_both (ltb b 144) _ _ (λ a. Besides s (show_byte b) (s, a)) (λ e. same s (show_byte b) _ (omega arith) refl refl) (λ e. same s (show_byte b) _ (omega arith) refl refl)
  besides bd s (show_timer t) =
      cond_both (ltb t 20) _ _ (λ a. Besides s (show_timer t) (s, a)) (λ e. same s (show_timer t) _ (omega arith) refl refl) (λ e. same s (show_timer t) _ (omega arith) refl refl)
  besides bd s show_sweep = view_besides s s.sweep
  besides bd s (show_working b) =
      cond_both (ltb b 144) _ _ (λ a. Besides s (show_working b) (s, a)) (λ e. same s (show_working b) _ (omega arith) refl refl) (λ e. same s (show_working b) _ (omega arith) refl refl)

  pub event_besides : Bounded plan → (s : State) (e : Event) → e.answer ≡ answer plan s e.call → Besides s e.call (next plan s e.call, e.answer)
  event_besides bd s e q = subst (λ (a : Answer). Besides s e.call (next plan s e.call, a)) (sym q) (besides bd s e.call)

  -- displays change nothing
  pub display_stays : (s : State) (c : Call) → is_display c ≡ true → next plan s c ≡ s
  display_stays s (opening m) d = absurd (both_ways false refl d)
  display_stays s (quick_scan t) d = absurd (both_ways false refl d)
  display_stays s (slow_slice t n) d = absurd (both_ways false refl d)
  display_stays s (closing t m) d = absurd (both_ways false refl d)
  display_stays s (show_byte b) d = refl
  display_stays s (show_timer t) d = refl
  display_stays s show_sweep d = refl
  display_stays s (show_working b) d = refl
