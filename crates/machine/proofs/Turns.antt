-- The calls of an interval, each in its turn, are accepted. Assumes nothing.
use Rattle.std.proofs.Common.{◌≡◌, ℕ, zero, suc, ◌+◌, ◌<◌, ◌≤◌, Bool, true, false, cond, ◌&&◌, eqb, ltb, ◌↔◌, List, length, get_or, Some, None, Option, sym, refl, ap, ◌∙◌, subst, ⊎_elim, arith}
use Rattle.std.proofs.lemmas.Bool.{and_from, and_parts, both_ways, cases_eq, cond_both, cond-true, eq-eqb, eqb-true}
use Rattle.panel.specs.Meaning.{Meaning, first_silent}
use Rattle.machine.specs.Plan.{Plan}
use Rattle.machine.specs.Machine.{Phase, idle, opened, scanned, State, opening, quick_scan, slow_slice, closing, Fault, Answer, opened_as, refused, refused_over, is_idle, is_opened, is_scanned, opening_of, in_turn, picture_at, spent_at, next, answer}
use Rattle.machine.specs.Histories.{is_refused, says_opened}
use Rattle.machine.specs.Laws.{AllAnswer}
use Rattle.machine.specs.Claims.{Turn, Accepts, IntervalsGo}

-- an accepted call, after which it is the turn of p
record Goes (p : Phase) (ticket : ℕ) (r : State × Answer) : Type 0 where
  accepted : is_refused r.1 ≡ false
  turn : Turn p ticket r.0

turn_due : (s : State) (due : Bool) (t : ℕ) (say : Fault → Answer) (r : State × Answer) (p : Phase) → due ≡ true → t ≡ s.number → Goes p t r → Goes p t (in_turn s due t say r)
turn_due s due t say r p d n g = subst (Goes p t) (sym (cond-true _ _ _ (and_from due (eqb t s.number) d (eq-eqb t s.number n)))) g

module _ (plan : Plan) where
  opening_turn : (s : State) (m after : Meaning) (t : ℕ) (o : Option ℕ) → (opening_of s m o).1 ≡ opened_as t after → Turn opened t (opening_of s m o).0
  opening_turn s m after t None e = record { phase_is = refl; number_is = sym (cc) }
  opening_turn s m after t (Some k) e = absurd (both_ways false refl (ap says_opened e))

  opens : (s : State) (m after : Meaning) (t : ℕ) → answer plan s (opening m) ≡ opened_as t after → Turn opened t (next plan s (opening m))
  opens s m after t =
      cond_both (is_idle s.phase) _ _ (λ (r : State × Answer). r.1 ≡ opened_as t after → Turn opened t r.0)
      (λ _. opening_turn s m after t (first_silent m.input_answers 0 8))
      (λ _ e. absurd (both_ways false refl (ap says_opened e)))

  scans : (s : State) (t : ℕ) → Turn opened t s → Accepts plan s (quick_scan t) scanned t
  scans s t u =
      let g = turn_due s (is_opened s.phase) t refused _ scanned (ap is_opened u.phase_is) u.number_is (record { accepted = refl; turn = record { phase_is = refl; number_is = u.number_is } }) in
      record { accepted = g.accepted; then_turn = g.turn }

  slices : (s : State) (t n : ℕ) → Turn scanned t s → Accepts plan s (slow_slice t n) scanned t
  slices s t n u =
      let g =
      turn_due s (is_scanned s.phase) t refused _ scanned (ap is_scanned u.phase_is) u.number_is
      (cond_both (eqb n 0) _ _ (Goes scanned t)
      (λ _. record { accepted = refl; turn = u })
      (λ _. cond_both (ltb (spent_at s.sweep + n) (length (plan.slow (picture_at s s.sweep)))) _ _ (Goes scanned t)
      (λ _. record { accepted = refl; turn = record { phase_is = u.phase_is; number_is = u.number_is } })
      (λ _. record { accepted = refl; turn = record { phase_is = u.phase_is; number_is = u.number_is } }))) in
      record { accepted = g.accepted; then_turn = g.turn }

  closes : (s : State) (t : ℕ) (m : Meaning) → Turn scanned t s → Accepts plan s (closing t m) idle t
  closes s t m u =
      let g = turn_due s (is_scanned s.phase) t (refused_over m) _ idle (ap is_scanned u.phase_is) u.number_is (record { accepted = refl; turn = record { phase_is = refl; number_is = u.number_is } }) in
      record { accepted = g.accepted; then_turn = g.turn }

pub intervals_go : IntervalsGo
intervals_go plan = record { opens = opens plan; scans = scans plan; slices = slices plan; closes = closes plan }

-- ---- a call is accepted exactly in its turn
idle_is : (p : Phase) → (is_idle p ≡ true) ↔ (p ≡ idle)
idle_is p = (from p, λ e. ap is_idle e)
  where
    from : (p : Phase) → is_idle p ≡ true → p ≡ idle
    from idle e = refl
    from opened e = absurd (both_ways false refl e)
    from scanned e = absurd (both_ways false refl e)

opened_is : (p : Phase) → (is_opened p ≡ true) ↔ (p ≡ opened)
opened_is p = (from p, λ e. ap is_opened e)
  where
    from : (p : Phase) → is_opened p ≡ true → p ≡ opened
    from idle e = absurd (both_ways false refl e)
    from opened e = refl
    from scanned e = absurd (both_ways false refl e)

scanned_is : (p : Phase) → (is_scanned p ≡ true) ↔ (p ≡ scanned)
scanned_is p = (from p, λ e. ap is_scanned e)
  where
    from : (p : Phase) → is_scanned p ≡ true → p ≡ scanned
    from idle e = absurd (both_ways false refl e)
    from opened e = absurd (both_ways false refl e)
    from scanned e = refl

-- from the machine's answer to the event's, and from the machine's phase and number to those that are told
pub by_answer : {a b : Answer} {X : Type 0} → a ≡ b → (is_refused b ≡ false) ↔ X → (is_refused a ≡ false) ↔ X
by_answer e i = (λ r. i.0 (sym (ap is_refused e) ∙ r), λ x. ap is_refused e ∙ i.1 x)

pub told : {X : Type 0} {p p' q : Phase} {t n n' : ℕ} → p ≡ p' → n ≡ n' → X ↔ ((p ≡ q) × (t ≡ n)) → X ↔ ((p' ≡ q) × (t ≡ n'))
told e f i = (λ x. (sym e ∙ (i.0 x).0, (i.0 x).1 ∙ f), λ y. i.1 (e ∙ y.0, y.1 ∙ sym f))

pub told_with : {X Y : Type 0} {p p' q : Phase} → p ≡ p' → X ↔ ((p ≡ q) × Y) → X ↔ ((p' ≡ q) × Y)
told_with e i = (λ x. (sym e ∙ (i.0 x).0, (i.0 x).1), λ y. i.1 (e ∙ y.0, y.1))

turn_iff : (s : State) (due : Bool) (q : Phase) (t : ℕ) (say : Fault → Answer) (r : State × Answer) → (due ≡ true) ↔ (s.phase ≡ q) → ((f : Fault) → is_refused (say f) ≡ true) → is_refused r.1 ≡ false → (is_refused (in_turn s due t say r).1 ≡ false) ↔ ((s.phase ≡ q) × (t ≡ s.number))
turn_iff s due q t say r d z a = (
  cond_both (due && eqb t s.number) _ _ (λ (x : State × Answer). is_refused x.1 ≡ false → (s.phase ≡ q) × (t ≡ s.number))
      (λ e _. let w = and_parts due (eqb t s.number) e in (d.0 w.0, eqb-true t s.number w.1))
      (λ _ e. absurd (both_ways _ e (z _))),
  λ w. ap (λ (x : State × Answer). is_refused x.1) (cond-true _ _ _ (and_from due (eqb t s.number) (d.1 w.0) (eq-eqb t s.number w.1))) ∙ a,
)

-- no word is silent exactly if each answers
none_silent : (a : List Bool) (k n : ℕ) → first_silent a k n ≡ None → (j : ℕ) → k ≤ j → j < k + n → get_or a j false ≡ true
none_silent a k zero e j l h = absurd (omega arith)
none_silent a k (suc n) e j l h = go (get_or a k false) refl e (none_silent a (k + 1) n)
  where
    go : (b : Bool) → get_or a k false ≡ b → cond b (first_silent a (k + 1) n) (Some k) ≡ None → (first_silent a (k + 1) n ≡ None → (j : ℕ) → k + 1 ≤ j → j < k + 1 + n → get_or a j false ≡ true) → get_or a j false ≡ true
    go true b e ih = ⊎_elim (λ (q : k ≡ j). ap (λ i. get_or a i false) (sym q) ∙ b) (λ (q : k ≡ j → ⊥). ih e j (omega arith) (omega arith)) (cases_eq k j)
    go false b e ih = let z : ◌≡◌ {A = ℕ} 0 1 = cc in absurd (omega arith)

answers_all : (a : List Bool) (k n : ℕ) → ((j : ℕ) → k ≤ j → j < k + n → get_or a j false ≡ true) → first_silent a k n ≡ None
answers_all a k zero h = refl
answers_all a k (suc n) h = cond-true _ _ _ (h k (omega arith) (omega arith)) ∙ answers_all a (k + 1) n (λ j l u. h j (omega arith) (omega arith))

opening_iff : (s : State) (m : Meaning) (o : Option ℕ) → (is_refused (opening_of s m o).1 ≡ false) ↔ (o ≡ None)
opening_iff s m None = (λ _. refl, λ _. refl)
opening_iff s m (Some k) = (λ e. absurd (both_ways true e refl), λ e. let z : ◌≡◌ {A = ℕ} 0 1 = cc in absurd (omega arith))

module _ (plan : Plan) where
  pub opens_iff : (s : State) (m : Meaning) → (is_refused (answer plan s (opening m)) ≡ false) ↔ ((s.phase ≡ idle) × AllAnswer m)
  opens_iff s m =
      let i = opening_iff s m (first_silent m.input_answers 0 8) in (
        cond_both (is_idle s.phase) _ _ (λ (x : State × Answer). is_refused x.1 ≡ false → (s.phase ≡ idle) × AllAnswer m)
            (λ d r. ((idle_is s.phase).0 d, λ k h. none_silent m.input_answers 0 8 (i.0 r) k (omega arith) (omega arith)))
            (λ _ e. absurd (both_ways true e refl)),
        λ w. ap (λ (x : State × Answer). is_refused x.1) (cond-true _ _ _ ((idle_is s.phase).1 w.0)) ∙ i.1 (answers_all m.input_answers 0 8 (λ j l u. w.1 j (omega arith))),
      )

  pub scans_iff : (s : State) (t : ℕ) → (is_refused (answer plan s (quick_scan t)) ≡ false) ↔ ((s.phase ≡ opened) × (t ≡ s.number))
  scans_iff s t = turn_iff s (is_opened s.phase) opened t refused _ (opened_is s.phase) (λ f. refl) refl

  pub slices_iff : (s : State) (t n : ℕ) → (is_refused (answer plan s (slow_slice t n)) ≡ false) ↔ ((s.phase ≡ scanned) × (t ≡ s.number))
  slices_iff s t n =
      turn_iff s (is_scanned s.phase) scanned t refused _ (scanned_is s.phase) (λ f. refl)
      (cond_both (eqb n 0) _ _ (λ (x : State × Answer). is_refused x.1 ≡ false)
      (λ _. refl)
      (λ _. cond_both (ltb (spent_at s.sweep + n) (length (plan.slow (picture_at s s.sweep)))) _ _ (λ (x : State × Answer). is_refused x.1 ≡ false) (λ _. refl) (λ _. refl)))

  pub closes_iff : (s : State) (t : ℕ) (m : Meaning) → (is_refused (answer plan s (closing t m)) ≡ false) ↔ ((s.phase ≡ scanned) × (t ≡ s.number))
  closes_iff s t m = turn_iff s (is_scanned s.phase) scanned t (refused_over m) _ (scanned_is s.phase) (λ f. refl) refl
