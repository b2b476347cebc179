-- Stores of both levels into one byte.
use Rattle.std.proofs.Common.{◌≡◌, ℕ, ◌+◌, ◌<◌, ◌≤◌, Bool, true, ◌⊎◌, List, length, take, None, Option, Decides, ◌↔◌, sym, ap, ◌∙◌, subst, inl, inr, arith}
use Rattle.std.proofs.lemmas.List.{get_or-take, length-take-le}
use Rattle.tokens.specs.Tokens.{Kind, bracket_opens}
use Rattle.reading.specs.declared.Placed.{Placed}
use Rattle.grammar.specs.Verdict.{kinds_of}
use Rattle.rules.specs.declared.roles.Span.{Span}
use Rattle.rules.specs.Labels.{kind_at}
use Rattle.rules.specs.Levels.{home}
use Rattle.rules.specs.Bytes.{Stores, Against, Clash}
use Rattle.rules.specs.Tables.{Within, Covers, StoresAmong, Marks, lit, Touches, Touched, Meets, MeetsEither}
use Rattle.rules.proofs.Seen.{length_kinds, kinds_take}
use Rattle.rules.proofs.Places.{inside}
use Rattle.rules.proofs.Walks.{home-take}
use Rattle.rules.proofs.Passes.{on_level}

-- the tokens up to i that store into one of the bytes
touches_take : (ks : List Kind) (marks : List Bool) (bytes : Span) (n j : ℕ) → j < n → (Touches (take n ks) marks bytes j → Touches ks marks bytes j) × (Touches ks marks bytes j → Touches (take n ks) marks bytes j)
touches_take ks marks bytes n j lt = (λ p. both (home-take ks n j (omega arith)) (get_or-take n ks j bracket_opens lt) p, λ p. both (sym (home-take ks n j (omega arith))) (sym (get_or-take n ks j bracket_opens lt)) p)
  where
    both : {h h' : Option ℕ} {k k' : Kind} → h ≡ h' → k ≡ k' → (lit marks h ≡ true) × StoresAmong k bytes → (lit marks h' ≡ true) × StoresAmong k' bytes
    both e e' p = (subst (λ (h : Option ℕ). lit marks h ≡ true) e p.0, subst (λ (k : Kind). StoresAmong k bytes) e' p.1)

module _ (ts : List Placed) (i : ℕ) (lt : i < length ts) where
  size : length (kinds_of (take (i + 1) ts)) ≡ i + 1
  size = length_kinds (take (i + 1) ts) ∙ length-take-le (i + 1) ts (omega arith)

  touched_to : (marks : List Bool) (bytes : Span) → Touched (kinds_of (take (i + 1) ts)) marks bytes → (j : ℕ) × (j ≤ i) × Touches (kinds_of ts) marks bytes j
  touched_to marks bytes p =
      (p.0, omega (arith, p.1, size), (touches_take (kinds_of ts) marks bytes (i + 1) p.0 (omega (arith, p.1, size))).0 (subst (λ (ks : List Kind). Touches ks marks bytes p.0) (kinds_take (i + 1) ts) p.2))

  to_touched : (marks : List Bool) (bytes : Span) → (j : ℕ) × (j ≤ i) × Touches (kinds_of ts) marks bytes j → Touched (kinds_of (take (i + 1) ts)) marks bytes
  to_touched marks bytes p =
      (p.0, omega (arith, p.1, size), subst (λ (ks : List Kind). Touches ks marks bytes p.0) (sym (kinds_take (i + 1) ts)) ((touches_take (kinds_of ts) marks bytes (i + 1) p.0 (omega (arith, p.1))).1 p.2))

  module _ (h : Option ℕ) (at : h ≡ home (kinds_of ts) i) (bytes : Span) (stores : (b : ℕ) → Stores (kind_at (kinds_of ts) i) b ↔ Within bytes b) where
    met : (one other : ℕ) (m n : List Bool) → Marks (kinds_of ts) one m → Marks (kinds_of ts) other n → Meets (kinds_of (take (i + 1) ts)) m n h bytes → (b : ℕ) × Against (kinds_of ts) one other b i
    met one other m n d e p =
        let t = touched_to n bytes p.1 in
        let q = t.2.1 in
        (q.0, (((stores q.0).1 q.1, (on_level (kinds_of ts) one m d i).0 (ap (lit m) (sym at) ∙ p.0)), (t.0, t.1, (q.2, (on_level (kinds_of ts) other n e t.0).0 t.2.0))))

    meet : (one other : ℕ) (m n : List Bool) → Marks (kinds_of ts) one m → Marks (kinds_of ts) other n → (b : ℕ) → Against (kinds_of ts) one other b i → Meets (kinds_of (take (i + 1) ts)) m n h bytes
    meet one other m n d e b p =
        (ap (lit m) at ∙ (on_level (kinds_of ts) one m d i).1 p.0.1, to_touched n bytes (p.1.0, p.1.1, ((on_level (kinds_of ts) other n e p.1.0).1 p.1.2.1, (b, (stores b).0 p.0.0, p.1.2.0))))

    -- the answer of the code
    pub decides_clash : (slow quick : List Bool) → Marks (kinds_of ts) 0 slow → Marks (kinds_of ts) 1 quick → (r : Bool) → Decides r (MeetsEither (kinds_of (take (i + 1) ts)) slow quick h bytes) → Decides r (Clash (kinds_of ts) i)
    decides_clash slow quick ds dq r d = (λ t. up (d.0 t), λ p. d.1 (down p))
      where
        up : MeetsEither (kinds_of (take (i + 1) ts)) slow quick h bytes → Clash (kinds_of ts) i
        up (inl m) = let p = met 1 0 quick slow dq ds m in (p.0, inl p.1)
        up (inr m) = let p = met 0 1 slow quick ds dq m in (p.0, inr p.1)

        down : Clash (kinds_of ts) i → MeetsEither (kinds_of (take (i + 1) ts)) slow quick h bytes
        down p = elim p.1 [ inl q ↦ inl (meet 1 0 quick slow dq ds p.0 q) | inr q ↦ inr (meet 0 1 slow quick ds dq p.0 q) ]

-- a place that clashes has a store
pub clash_stores : (ks : List Kind) (i : ℕ) (p : Clash ks i) → Stores (kind_at ks i) p.0
clash_stores ks i p = go p.1
  where
    go : Against ks 1 0 p.0 i ⊎ Against ks 0 1 p.0 i → Stores (kind_at ks i) p.0
    go (inl q) = q.0.0
    go (inr q) = q.0.0

-- and where the token stores into no byte nothing clashes
pub no_clash : (ks : List Kind) (i : ℕ) (k : Kind) (o : Option Span) → k ≡ kind_at ks i → ((b : ℕ) → Stores k b ↔ Covers o b) → o ≡ None → Clash ks i → ⊥
no_clash ks i k o e stores none p = subst (λ (x : Option Span). Covers x p.0) none ((stores p.0).0 (subst (λ (x : Kind). Stores x p.0) (sym e) (clash_stores ks i p)))

pub clash_inside : (ks : List Kind) (j : ℕ) → Clash ks j → j < length ks
clash_inside ks j p = inside (λ (k : Kind). Stores k p.0) (λ s. s) ks j (clash_stores ks j p)
