-- Every history of the machine is lawful. Assumes nothing.
use Rattle.std.proofs.Common.{◌≡◌, ℕ, ◌+◌, ◌%◌, Bool, true, false, cond, List, [], ◌∷◌, ◌++◌, sym, refl, ap, ◌∙◌, subst, zero-add, arith}
use Rattle.program.specs.Cells.{Sight}
use Rattle.machine.specs.Plan.{Plan, Bounded}
use Rattle.machine.specs.Machine.{Phase, State, made, Call, risen, spent_at, sight_of, next, answer, after}
use Rattle.machine.specs.Histories.{Event, calls, history, is_refused, says_opened, panel_after, openings, phase_since, seen_since}
use Rattle.machine.specs.Laws.{Follows, state, TurnLaw, EventLaw, PanelLaw, Lawful}
use Rattle.machine.specs.Claims.{MachineIsLawful, GoesOn}
use Rattle.machine.proofs.Steps.{event_did, event_besides, display_stays}
use Rattle.machine.proofs.Turns.{by_answer, told, told_with, opens_iff, scans_iff, slices_iff, closes_iff}
use Rattle.machine.proofs.Panels.{opening_leaves, closing_leaves, closing_puts}
use Rattle.machine.proofs.Sweeps.{after-++, take_front, drop_front, follows-++, off, pic, tracks, left, sweep_law, end_found, within, moves}

module _ (plan : Plan) where
  -- the number counts the accepted openings
  counted : Bounded plan → (s : State) (k : ℕ) (h : List Event) → s.number ≡ k % 4294967296 → Follows plan s h → (after plan s (calls h)).number ≡ (k + openings h) % 4294967296
  counted bd s k [] z f = let q : k ≡ k + 0 = omega arith in z ∙ ap (λ n. n % 4294967296) q
  counted bd s k (e ∷ h) z f = go (says_opened e.answer) (event_besides plan bd s e f.0).numbers (λ j. counted bd (next plan s e.call) (k + j) h)
    where
      go : (b : Bool) → (next plan s e.call).number ≡ cond b (risen s.number) s.number → ((j : ℕ) → (next plan s e.call).number ≡ (k + j) % 4294967296 → Follows plan (next plan s e.call) h → (after plan (next plan s e.call) (calls h)).number ≡ (k + j + openings h) % 4294967296) → (after plan s (calls (e ∷ h))).number ≡ (k + (cond b 1 0 + openings h)) % 4294967296
      go true q ih = let w : k + 1 + openings h ≡ k + (1 + openings h) = omega arith in ih 1 (q ∙ omega arith) f.1 ∙ ap (λ n. n % 4294967296) w
      go false q ih = let w : k + 0 + openings h ≡ k + (0 + openings h) = omega arith in ih 0 (q ∙ omega arith) f.1 ∙ ap (λ n. n % 4294967296) w

  sees : Bounded plan → (s : State) (h : List Event) → Follows plan s h → sight_of (after plan s (calls h)) ≡ seen_since (sight_of s) h
  sees bd s [] f = refl
  sees bd s (e ∷ h) f = sees bd (next plan s e.call) h f.1 ∙ ap (λ (i : Sight). seen_since i h) (event_besides plan bd s e f.0).sees

  event_law : Bounded plan → (before : List Event) (e : Event) (rest : List Event) → Follows plan made (before ++ (e ∷ rest)) → EventLaw plan before e
  event_law bd before e rest f =
      let s : State = after plan made (calls before) in
      let g = take_front plan made before (e ∷ rest) f in
      let q = (drop_front plan made before (e ∷ rest) f).0 in
      let d = event_did plan (pic plan s) (spent_at s.sweep) s e refl refl q in
      let b = event_besides plan bd s e q in
      let l = left plan bd s _ (tracks plan made 0 before (off refl refl) g) in
      let to : state plan (before ++ (e ∷ [])) ≡ next plan s e.call = after-++ plan made before (e ∷ []) in
      record {
        allowed = within plan _ _ s e d;
        moves = moves plan _ _ s e l d;
        quick_bound = b.few;
        refusal_stays = λ r. to ∙ b.unmoved r;
        display_stays = λ r. to ∙ display_stays plan s e.call r;
        bytes_stay = λ a r. ap (λ (x : State). x.bytes) to ∙ b.bytes_stay a r;
        timers_stay = λ a r. ap (λ (x : State). x.timers) to ∙ b.timers_stay a r;
        numbered = λ t m a. b.tickets t m a ∙ sym (b.numbers ∙ ap (λ x. cond x (risen s.number) s.number) (ap says_opened a)) ∙ sym (ap (λ (x : State). x.number) to) ∙ counted bd made 0 (before ++ (e ∷ [])) refl (follows-++ plan made before (e ∷ []) g (q, tt)) ∙ ap (λ n. n % 4294967296) (zero-add (openings (before ++ (e ∷ []))));
        found = end_found plan before e g q;
      }

  phased : Bounded plan → (s : State) (h : List Event) → Follows plan s h → (after plan s (calls h)).phase ≡ phase_since s.phase h
  phased bd s [] f = refl
  phased bd s (e ∷ h) f = phased bd (next plan s e.call) h f.1 ∙ ap (λ (p : Phase). phase_since p h) (event_besides plan bd s e f.0).phases

  turn_law : Bounded plan → (before : List Event) (e : Event) (rest : List Event) → Follows plan made (before ++ (e ∷ rest)) → TurnLaw plan before e
  turn_law bd before e rest f =
      let s : State = after plan made (calls before) in
      let g = take_front plan made before (e ∷ rest) f in
      let q = (drop_front plan made before (e ∷ rest) f).0 in
      let p = phased bd made before g in
      let n = counted bd made 0 before refl g ∙ ap (λ n. n % 4294967296) (zero-add (openings before)) in
      record {
        opens = λ m c. by_answer (q ∙ ap (answer plan s) c) (told_with p (opens_iff plan s m));
        scans = λ t c. by_answer (q ∙ ap (answer plan s) c) (told p n (scans_iff plan s t));
        slices = λ t k c. by_answer (q ∙ ap (answer plan s) c) (told p n (slices_iff plan s t k));
        closes = λ t m c. by_answer (q ∙ ap (answer plan s) c) (told p n (closes_iff plan s t m));
      }

  panel_law : (before : List Event) (e : Event) (rest : List Event) → Follows plan made (before ++ (e ∷ rest)) → PanelLaw plan before e
  panel_law before e rest f =
      let s : State = after plan made (calls before) in
      let q = (drop_front plan made before (e ∷ rest) f).0 in
      record {
        opening_leaves = λ m c. ap panel_after (q ∙ ap (answer plan s) c) ∙ opening_leaves plan s m;
        refusal_leaves = λ t m c r. ap panel_after (q ∙ ap (answer plan s) c) ∙ closing_leaves plan s t m (sym (ap is_refused (q ∙ ap (answer plan s) c)) ∙ r);
        closing_puts = λ t mask m m' c a. closing_puts plan s t mask m m' (sym (q ∙ ap (answer plan s) c) ∙ a);
      }

  pub lawful : Bounded plan → (h : List Event) → Follows plan made h → Lawful plan h
  lawful bd h f =
      record {
        answers = f;
        turns = λ before e rest q. turn_law bd before e rest (subst (λ (x : List Event). Follows plan made x) q f);
        panels = λ before e rest q. panel_law before e rest (subst (λ (x : List Event). Follows plan made x) q f);
        events = λ before e rest q. event_law bd before e rest (subst (λ (x : List Event). Follows plan made x) q f);
        sweeps = λ before events last rest q o. sweep_law plan bd before events last rest (subst (λ (x : List Event). Follows plan made x) q f) o;
        sees = sees bd made h f;
      }

  own : (s : State) (cs : List Call) → Follows plan s (history plan s cs)
  own s [] = tt
  own s (c ∷ cs) = (refl, own (next plan s c) cs)

pub machine_is_lawful : MachineIsLawful
machine_is_lawful plan bd cs = lawful plan bd (history plan made cs) (own plan made cs)

pub goes_on : GoesOn
goes_on plan bd h e l q =
    record {
      lawful = lawful plan bd (h ++ (e ∷ [])) (follows-++ plan made h (e ∷ []) l.answers (q, tt));
      state_is = after-++ plan made h (e ∷ []);
    }
