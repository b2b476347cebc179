-- Places of a text: labels, calls, and the module of a token.
use Rattle.std.proofs.Common.{get_or, not, ◌≡◌, ℕ, zero, suc, ◌+◌, ◌-◌, ◌<◌, ◌≤◌, Bool, true, false, ◌⊎◌, List, length, take, drop, Some, None, Decides, Option, sym, refl, ap, ◌∙◌, subst, inl, inr, arith}
use Rattle.std.proofs.lemmas.Bool.{both_ways, cases_lt, cases_eq}
use Rattle.std.proofs.lemmas.List.{get_or_past, get_or-take, get_or-drop, length-take-le, length-drop}
use Rattle.tokens.specs.Tokens.{Kind, bracket_opens, label, call, lexeme}
use Rattle.reading.specs.declared.Placed.{Placed}
use Rattle.grammar.specs.Verdict.{kinds_of}
use Rattle.rules.specs.Findings.{NoneAt, First, Found}
use Rattle.rules.specs.Labels.{kind_at, Labelled, Repeats, Astray, Unlinked}
use Rattle.rules.specs.Levels.{after, home}
use Rattle.rules.specs.Laws.{CallsGoDown, CallsLand, LastLabel, HomeIsLastLabel}
use Rattle.rules.proofs.Seen.{length_kinds, kinds_take, kinds_drop, kind_there, label_or_not}

-- what brackets are not stands inside the text
pub inside : (P : Kind → Type 0) → (P bracket_opens → ⊥) → (ks : List Kind) (j : ℕ) → P (kind_at ks j) → j < length ks
inside P none ks j p = elim (cases_lt j (length ks)) [ inl h ↦ h | inr h ↦ absurd (none (subst P (get_or_past ks j bracket_opens h) p)) ]

pub no_value : {n : ℕ} → None ≡ Some n → ⊥
no_value e = let z : ◌≡◌ {A = ℕ} 0 1 = cc in omega arith

pub no_label : {n : ℕ} → bracket_opens ≡ label n → ⊥
no_label e = let z : ◌≡◌ {A = ℕ} 0 1 = cc in omega arith

pub no_call : {n : ℕ} → bracket_opens ≡ call n → ⊥
no_call e = let z : ◌≡◌ {A = ℕ} 0 1 = cc in omega arith

pub label_inside : (ks : List Kind) (j n : ℕ) → kind_at ks j ≡ label n → j < length ks
label_inside ks j n e = inside (λ (k : Kind). k ≡ label n) no_label ks j e

pub call_inside : (ks : List Kind) (j n : ℕ) → kind_at ks j ≡ call n → j < length ks
call_inside ks j n e = inside (λ (k : Kind). k ≡ call n) no_call ks j e

pub same_label : (k : Kind) (m n : ℕ) → k ≡ label m → k ≡ label n → m ≡ n
same_label k m n e e' = cc

-- the labels of a part of the text
pub labelled_before : (ts : List Placed) (n i : ℕ) (r : Bool) → i ≤ length ts → Decides r (Labelled (kinds_of (take i ts)) n 0 (length (kinds_of (take i ts)))) → Decides r (Labelled (kinds_of ts) n 0 i)
labelled_before ts n i r le d = (λ t. up (d.0 t), λ l. d.1 (down l))
  where
    size : length (kinds_of (take i ts)) ≡ i
    size = length_kinds (take i ts) ∙ length-take-le i ts le

    same : (k : ℕ) → k < i → kind_at (kinds_of (take i ts)) k ≡ kind_at (kinds_of ts) k
    same k lt = ap (λ ks. kind_at ks k) (kinds_take i ts) ∙ get_or-take i (kinds_of ts) k bracket_opens lt

    up : Labelled (kinds_of (take i ts)) n 0 (length (kinds_of (take i ts))) → Labelled (kinds_of ts) n 0 i
    up l = let lt : l.0 < i = omega (arith, l.2, size) in (l.0, l.1, lt, sym (same l.0 lt) ∙ l.3)

    down : Labelled (kinds_of ts) n 0 i → Labelled (kinds_of (take i ts)) n 0 (length (kinds_of (take i ts)))
    down l = (l.0, l.1, omega (arith, l.2, size), same l.0 l.2 ∙ l.3)

pub labelled_behind : (ts : List Placed) (n i : ℕ) (r : Bool) → i ≤ length ts → Decides r (Labelled (kinds_of (drop i ts)) n 0 (length (kinds_of (drop i ts)))) → Decides r (Labelled (kinds_of ts) n i (length (kinds_of ts)))
labelled_behind ts n i r le d = (λ t. up (d.0 t), λ l. d.1 (down l))
  where
    size : length (kinds_of (drop i ts)) ≡ length (kinds_of ts) - i
    size = omega (arith, length_kinds (drop i ts), length_kinds ts, length-drop i ts)

    same : (k : ℕ) → kind_at (kinds_of (drop i ts)) k ≡ kind_at (kinds_of ts) (i + k)
    same k = ap (λ ks. kind_at ks k) (kinds_drop i ts) ∙ get_or-drop i (kinds_of ts) k bracket_opens

    up : Labelled (kinds_of (drop i ts)) n 0 (length (kinds_of (drop i ts))) → Labelled (kinds_of ts) n i (length (kinds_of ts))
    up l = (i + l.0, omega arith, omega (arith, l.2, size), sym (same l.0) ∙ l.3)

    down : Labelled (kinds_of ts) n i (length (kinds_of ts)) → Labelled (kinds_of (drop i ts)) n 0 (length (kinds_of (drop i ts)))
    down l =
        let e : i + (l.0 - i) ≡ l.0 = omega (arith, l.1) in
        (l.0 - i, omega arith, omega (arith, l.1, l.2, size), same (l.0 - i) ∙ ap (kind_at (kinds_of ts)) e ∙ l.3)

-- cause 9 at a place
pub repeats_inside : (ks : List Kind) (j : ℕ) → Repeats ks j → j < length ks
repeats_inside ks j p = label_inside ks j p.0 p.1

pub repeats_if : (ts : List Placed) (i n : ℕ) (d : Placed) (r : Bool) → i < length ts → (lexeme (get_or ts i d).token).kind ≡ label n → Decides r (Labelled (kinds_of (take i ts)) n 0 (length (kinds_of (take i ts)))) → Decides r (Repeats (kinds_of ts) i)
repeats_if ts i n d r lt e l =
    let e' : kind_at (kinds_of ts) i ≡ label n = sym (kind_there ts i d lt) ∙ e in
    let l' = labelled_before ts n i r (omega arith) l in
    (λ t. (n, e', l'.0 t), λ p. let s : p.0 ≡ n = cc p.1 in l'.1 (subst (λ (k : ℕ). Labelled (kinds_of ts) k 0 i) s p.2))

-- cause 10 at a place
pub astray_if : (ts : List Placed) (i n : ℕ) (d : Placed) (r : Bool) → i < length ts → (lexeme (get_or ts i d).token).kind ≡ call n → Decides r (Labelled (kinds_of (drop (i + 1) ts)) n 0 (length (kinds_of (drop (i + 1) ts)))) → Decides (not r) (Astray (kinds_of ts) i)
astray_if ts i n d r lt e l = go r (labelled_behind ts n (i + 1) r (omega arith) l)
  where
    e' : kind_at (kinds_of ts) i ≡ call n
    e' = sym (kind_there ts i d lt) ∙ e

    go : (r' : Bool) → Decides r' (Labelled (kinds_of ts) n (i + 1) (length (kinds_of ts))) → Decides (not r') (Astray (kinds_of ts) i)
    go true l' = (λ t. absurd (both_ways _ refl t), λ p. absurd (let s : n ≡ p.0 = cc (e', p.1) in p.2 (subst (λ (k : ℕ). Labelled (kinds_of ts) k (i + 1) (length (kinds_of ts))) s (l'.0 refl))))
    go false l' = (λ t. (n, e', λ k. both_ways _ refl (l'.1 k)), λ p. refl)

pub astray_inside : (ks : List Kind) (j : ℕ) → Astray ks j → j < length ks
astray_inside ks j p = call_inside ks j p.0 p.1

module _ (ks : List Kind) where
  -- the first call that is astray comes before the end
  pub astray_first : (r : Option ℕ) (i : ℕ) → r ≡ Some i → Found (Astray ks) r → Found (Unlinked ks) (Some i)
  astray_first r i e f = first (subst (Found (Astray ks)) e f)
    where
      first : First (Astray ks) i → First (Unlinked ks) i
      first g = (inl g.0, early)
        where
          early : (j : ℕ) → j < i → Unlinked ks j → ⊥
          early j lt (inl p) = g.1 j lt p
          early j lt (inr p) = let in' = astray_inside ks i g.0 in omega (arith, p.0)

  -- where no call is astray and both roots are there
  pub linked : Labelled ks 0 0 (length ks) → Labelled ks 1 0 (length ks) → NoneAt (Astray ks) → NoneAt (Unlinked ks)
  linked l₀ l₁ f j (inl p) = f j p
  linked l₀ l₁ f j (inr p) = p.1 (l₀, l₁)

  -- where one is missing
  pub rootless : (Labelled ks 0 0 (length ks) × Labelled ks 1 0 (length ks) → ⊥) → NoneAt (Astray ks) → First (Unlinked ks) (length ks)
  rootless lacks f = (inr (refl, lacks), early)
    where
      early : (j : ℕ) → j < length ks → Unlinked ks j → ⊥
      early j lt (inl p) = f j p
      early j lt (inr p) = omega (arith, p.0)

-- causes 9 and 10 together
pub downward : CallsGoDown
downward ks once linked i k b e e' =
    elim (cases_lt i k) [
      | inl h ↦ h
      | inr h ↦ absurd (linked i (inl (b, e, λ l. once l.0 (b, l.3, (k, omega arith, omega (arith, l.1), e')))))
    ]

-- the module of a token
pub after_other : (k : Kind) (h : Option ℕ) → ((n : ℕ) → k ≡ label n → ⊥) → h ≡ after k h
after_other k h none = elim (label_or_not k) [ inl p ↦ absurd (none p.0 p.1) | inr q ↦ sym (q h) ]

pub after_label : (k : Kind) (h : Option ℕ) (n : ℕ) → k ≡ label n → Some n ≡ after k h
after_label k h n e = sym (ap (λ (x : Kind). after x h) e)

home_last : (ks : List Kind) (i m : ℕ) → home ks i ≡ Some m → LastLabel ks i m
home_last ks zero m e = absurd (no_value e)
home_last ks (suc i) m e = go (label_or_not (kind_at ks i)) (home_last ks i m)
  where
    go : ((n : ℕ) × (kind_at ks i ≡ label n)) ⊎ ((h : Option ℕ) → after (kind_at ks i) h ≡ h) → (home ks i ≡ Some m → LastLabel ks i m) → LastLabel ks (suc i) m
    go (inl p) ih =
        let s : Some p.0 ≡ Some m = after_label (kind_at ks i) (home ks i) p.0 p.1 ∙ e in
        let same : p.0 ≡ m = cc in
        record { place = i; before = omega arith; is = p.1 ∙ ap label same; last = λ j n lt lt' f. omega arith }
    go (inr q) ih =
        let l = ih (sym (q (home ks i)) ∙ e) in
        record {
          place = l.place;
          before = omega (arith, l.before);
          is = l.is;
          last = λ j n lt lt' f. elim (cases_lt j i) [
            | inl h ↦ l.last j n lt h f
            | inr h ↦ absurd (let s : j ≡ i = omega arith in other (subst (λ (x : ℕ). kind_at ks x ≡ label n) s f))
          ];
        }
      where
        other : {n : ℕ} → kind_at ks i ≡ label n → ⊥
        other {n} f = no_value (sym (after_label (kind_at ks i) None n f ∙ q None))

last_home : (ks : List Kind) (i m : ℕ) → LastLabel ks i m → home ks i ≡ Some m
last_home ks zero m l = absurd (omega (arith, l.before))
last_home ks (suc i) m l = go (cases_lt l.place i) (last_home ks i m)
  where
    go : (l.place < i) ⊎ (i ≤ l.place) → (LastLabel ks i m → home ks i ≡ Some m) → home ks (suc i) ≡ Some m
    go (inl lt) ih =
        sym (after_other (kind_at ks i) (home ks i) (λ n e. l.last i n lt (omega arith) e))
        ∙ ih (record { place = l.place; before = lt; is = l.is; last = λ j n a b e. l.last j n a (omega arith) e })
    go (inr le) ih =
        let s : l.place ≡ i = omega (arith, l.before) in
        sym (after_label (kind_at ks i) (home ks i) m (subst (λ (x : ℕ). kind_at ks x ≡ label m) s l.is))

pub home_is_last_label : HomeIsLastLabel
home_is_last_label ks i m = (home_last ks i m, last_home ks i m)

-- whether a label stands somewhere can be found out, so a label that cannot be missing is there
label_here : (k : Kind) (n : ℕ) → (k ≡ label n) ⊎ (k ≡ label n → ⊥)
label_here k n =
    elim (label_or_not k) [
      | inl p ↦ elim (cases_eq p.0 n) [ inl e ↦ inl (p.1 ∙ ap label e) | inr ne ↦ inr (λ e. ne (same_label k p.0 n p.1 e)) ]
      | inr q ↦ inr (λ e. no_value (sym (after_label k None n e ∙ q None)))
    ]

pub labelled_or_not : (ks : List Kind) (n from to : ℕ) → Labelled ks n from to ⊎ (Labelled ks n from to → ⊥)
labelled_or_not ks n from zero = inr (λ l. omega (arith, l.2))
labelled_or_not ks n from (suc to) = go (labelled_or_not ks n from to) (cases_lt to from) (label_here (kind_at ks to) n)
  where
    go : Labelled ks n from to ⊎ (Labelled ks n from to → ⊥) → (to < from) ⊎ (from ≤ to) → (kind_at ks to ≡ label n) ⊎ (kind_at ks to ≡ label n → ⊥) → Labelled ks n from (suc to) ⊎ (Labelled ks n from (suc to) → ⊥)
    go (inl l) s h = inl (l.0, l.1, omega (arith, l.2), l.3)
    go (inr none) (inl lt) h = inr (λ l. omega (arith, l.1, l.2))
    go (inr none) (inr le) (inl e) = inl (to, le, omega arith, e)
    go (inr none) (inr le) (inr ne) = inr (λ l. elim (cases_lt l.0 to) [
      | inl lt ↦ none (l.0, l.1, lt, l.3)
      | inr ge ↦ let s : l.0 ≡ to = omega (arith, l.2) in ne (subst (λ (x : ℕ). kind_at ks x ≡ label n) s l.3)
    ])

pub calls_land : CallsLand
calls_land ks linked = (
  λ i n e. stands n (i + 1) (λ none. linked i (inl (n, e, none))),
  stands 0 0 (λ none. linked (length ks) (inr (refl, λ p. none p.0))),
  stands 1 0 (λ none. linked (length ks) (inr (refl, λ p. none p.1))),
)
  where
    stands : (n from : ℕ) → ((Labelled ks n from (length ks) → ⊥) → ⊥) → Labelled ks n from (length ks)
    stands n from not-missing = elim (labelled_or_not ks n from (length ks)) [ inl l ↦ l | inr none ↦ absurd (not-missing none) ]
