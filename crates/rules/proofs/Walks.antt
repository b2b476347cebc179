-- A walk over the tokens of a text: the module that each stands in.
use Rattle.std.proofs.Common.{◌≡◌, ℕ, zero, suc, ◌<◌, ◌≤◌, List, [], ◌∷◌, length, get_or, take, Some, None, Option, sym, refl, ap, ◌∙◌, subst, arith}
use Rattle.std.proofs.lemmas.List.{get_or-take}
use Rattle.std.specs.List.{enumerate_from}
use Rattle.std.specs.Iterator.{Yields, YieldsFirstBy}
use Rattle.std.proofs.lemmas.List.FromFn.{length-enumerate_from, get_or-enumerate_from}
use Rattle.std.proofs.lemmas.Iterator.{YieldsList}
use Rattle.std.proofs.lemmas.Iterator.Consumers.{YieldsList-from_first, YieldsList-turn, YieldsList-end}
use Rattle.tokens.specs.declared.Token.{Token}
use Rattle.tokens.specs.Tokens.{Kind, bracket_opens, lexeme}
use Rattle.reading.specs.declared.Placed.{Placed}
use Rattle.grammar.specs.Verdict.{kinds_of}
use Rattle.rules.specs.declared.modules.Walk.{Walk}
use Rattle.rules.specs.Labels.{kind_at}
use Rattle.rules.specs.Levels.{after, home}
use Rattle.rules.specs.Walk.{standing, left, seen}
use Rattle.rules.proofs.Seen.{length_kinds}

pub length-standing : (h : Option ℕ) (ks : List Kind) → length (standing h ks) ≡ length ks
length-standing h [] = refl
length-standing h (k ∷ ks) = ap suc (length-standing (after k h) ks)

-- the module at i, where the first token stands in h
abbrev home_from : Option ℕ → List Kind → ℕ → Option ℕ
home_from h ks zero = h
home_from h ks (suc i) = after (kind_at ks i) (home_from h ks i)

home_from-cons : (h : Option ℕ) (k : Kind) (ks : List Kind) (i : ℕ) → home_from (after k h) ks i ≡ home_from h (k ∷ ks) (suc i)
home_from-cons h k ks zero = refl
home_from-cons h k ks (suc i) = ap (after (kind_at ks i)) (home_from-cons h k ks i)

home_from-none : (ks : List Kind) (i : ℕ) → home_from None ks i ≡ home ks i
home_from-none ks zero = refl
home_from-none ks (suc i) = ap (after (kind_at ks i)) (home_from-none ks i)

get_or-from : (h : Option ℕ) (ks : List Kind) (i : ℕ) (d : Option ℕ × Kind) → i < length ks → get_or (standing h ks) i d ≡ (home_from h ks i, kind_at ks i)
get_or-from h [] i d lt = absurd (omega arith)
get_or-from h (k ∷ ks) zero d lt = refl
get_or-from h (k ∷ ks) (suc i) d lt = get_or-from (after k h) ks i d (omega arith) ∙ ap (λ (m : Option ℕ). (m, kind_at ks i)) (home_from-cons h k ks i)

pub get_or-standing : (ks : List Kind) (i : ℕ) (d : Option ℕ × Kind) → i < length ks → get_or (standing None ks) i d ≡ (home ks i, kind_at ks i)
get_or-standing ks i d lt = get_or-from None ks i d lt ∙ ap (λ (m : Option ℕ). (m, kind_at ks i)) (home_from-none ks i)

-- the module of a token is found in the text up to it
pub home-take : (ks : List Kind) (n i : ℕ) → i ≤ n → home (take n ks) i ≡ home ks i
home-take ks n zero le = refl
home-take ks n (suc i) le =
    ap (λ (k : Kind). after k (home (take n ks) i)) (get_or-take n ks i bracket_opens (omega arith)) ∙ ap (after (kind_at ks i)) (home-take ks n i (omega arith))

-- a walk gives each token with its module
pub over_homes : (ts : List Placed) {s : _} → left s ≡ standing None (kinds_of ts) → YieldsList (YieldsFirstBy seen left) seen s (standing None (kinds_of ts))
over_homes ts e = YieldsList-from_first seen left _ e

-- what is said of each step of a walk is said of its place
module _ (ts : List Placed) (Q : Option ℕ × Kind → Type 0) (P : ℕ → Type 0) (there : (k : ℕ) → Q (home (kinds_of ts) k, kind_at (kinds_of ts) k) → P k) where
  pub at_place : (k : ℕ) → k < length (standing None (kinds_of ts)) → Q (get_or (standing None (kinds_of ts)) k (None, bracket_opens)) → P k
  at_place k lt q = there k (subst Q (get_or-standing (kinds_of ts) k (None, bracket_opens) (omega (arith, length-standing None (kinds_of ts)))) q)

-- a turn of a loop over a walk that has given xs, and the end of the loop
abbrev Road : List Placed → Walk → Type 0
Road ts s = YieldsList (YieldsFirstBy seen left) seen s (standing None (kinds_of ts))

pub walk_from : (ts : List Placed) {w s : Walk} → left w ≡ standing None (kinds_of ts) → s ≡ w → Road ts s
walk_from ts all same = over_homes ts (ap left same ∙ all)

pub turn : (ts : List Placed) {s : Walk} (t u : Walk) → Road ts s → (xs : List (Option ℕ × Token)) → Yields (YieldsFirstBy seen left) s xs t → (r : Option (Option ℕ × Token)) → YieldsFirstBy seen left t r u → (x : Option ℕ × Token) → r ≡ Some x → (x.0 ≡ home (kinds_of ts) (length xs)) × ((lexeme x.1).kind ≡ kind_at (kinds_of ts) (length xs))
turn ts t u road xs so_far r steps x e =
    let p = YieldsList-turn road xs t so_far r u x e steps in
    let q = p.1 ∙ get_or-standing (kinds_of ts) (length xs) (seen x) (omega (arith, p.0, length-standing None (kinds_of ts))) in
    (ap (λ z. z.0) q, ap (λ z. z.1) q)

pub ended : (ts : List Placed) {s : Walk} (t u : Walk) → Road ts s → (xs : List (Option ℕ × Token)) → Yields (YieldsFirstBy seen left) s xs t → (r : Option (Option ℕ × Token)) → YieldsFirstBy seen left t r u → r ≡ None → length (kinds_of ts) ≤ length xs
ended ts t u road xs so_far r steps e = let p = YieldsList-end road xs t so_far r u e steps in omega (arith, p.1, length-standing None (kinds_of ts))

-- a counted step of a walk stands at its place
pub counted : (ts : List Placed) (x : ℕ × (Option ℕ × Kind)) (k : ℕ) → k < length (enumerate_from 0 (standing None (kinds_of ts))) → x ≡ get_or (enumerate_from 0 (standing None (kinds_of ts))) k x → (x.0 ≡ k) × (x.0 < length ts) × (x.1.0 ≡ home (kinds_of ts) x.0)
counted ts x k lt e =
    let l = length-standing None (kinds_of ts) in
    let n = length-enumerate_from 0 (standing None (kinds_of ts)) in
    let q = e ∙ get_or-enumerate_from 0 (standing None (kinds_of ts)) k x (omega (arith, n)) in
    let i : x.0 ≡ k = ap (λ z. z.0) q ∙ omega arith in
    let w = ap (λ z. z.1) q ∙ get_or-standing (kinds_of ts) k x.1 (omega (arith, n, l)) in
    (i, omega (arith, n, l, length_kinds ts), ap (λ z. z.0) w ∙ ap (home (kinds_of ts)) (sym i))
