-- Searches over the tokens of a text, said by the places of the tokens.
use Rattle.std.proofs.Common.{◌≡◌, ℕ, ◌≤◌, ◌<◌, Bool, true, false, List, length, get_or, Some, None, Decides, Option, MatchBool, MatchOption, Bor, refl, ap, ◌∙◌, arith}
use Rattle.std.specs.List.{AllWithin, HoldsAt}
use Rattle.std.proofs.lemmas.Bool.{both_ways}
use Rattle.std.proofs.lemmas.Fn.{fronts}
use Rattle.std.proofs.lemmas.Iterator.{YieldsList}
use Rattle.std.proofs.lemmas.Iterator.Consumers.{YieldsList-from_shown}
use Rattle.std.specs.Slice.Iter.{iter_rest}
use Rattle.tokens.specs.Tokens.{Kind, lexeme}
use Rattle.reading.specs.declared.Placed.{Placed}
use Rattle.grammar.specs.Verdict.{kinds_of}
use Rattle.rules.specs.Findings.{Found}
use Rattle.rules.proofs.Seen.{length_kinds}

-- a walk over the tokens gives their kinds
abbrev pub kind_behind : Bor Placed → Kind
kind_behind y = (lexeme y.now.token).kind

pub over_kinds : (ts : List Placed) {s : _} → iter_rest s ≡ ts → YieldsList fronts kind_behind s (kinds_of ts)
over_kinds ts {s} e =
    rw (← e) (YieldsList-from_shown fronts kind_behind (λ t. kinds_of (iter_rest t)) (λ t u h. length_kinds (iter_rest t) ∙ h.0) (λ t x u h. ap kinds_of h) s)

module _ {X : Type 0} (Yes No : X → Type 0) (xs : List X) (d : X) (P : ℕ → Type 0) (there : (k : ℕ) → k < length xs → Yes (get_or xs k d) → P k) (off : (k : ℕ) → k < length xs → No (get_or xs k d) → P k → ⊥) where
  -- whether there is such a place
  pub any_place : (r : Bool) → MatchBool r ((k : ℕ) × (k < length xs) × HoldsAt Yes xs k) (AllWithin No xs 0 (length xs)) → Decides r ((k : ℕ) × (k < length xs) × P k)
  any_place true m = (λ t. (m.0, m.1, there m.0 m.1 (m.2 d)), λ p. refl)
  any_place false m = (λ t. absurd (both_ways _ refl t), λ p. absurd (off p.0 p.1 (m p.0 d (omega arith) p.1) p.2))

  -- the first such place
  pub first_place : ((k : ℕ) → P k → k < length xs) → (r : Option ℕ) → MatchOption r (AllWithin No xs 0 (length xs)) (λ i. (i < length xs) × HoldsAt Yes xs i × AllWithin No xs 0 i) → Found P r
  first_place inside None m = λ j p. off j (inside j p) (m j d (omega arith) (inside j p)) p
  first_place inside (Some i) m = (there i m.0 (m.1 d), λ j lt p. off j (inside j p) (m.2 j d (omega arith) lt) p)

-- the first place of a range
pub first_of_range : (P : ℕ → Type 0) (n : ℕ) → ((k : ℕ) → P k → k < n) → (r : Option ℕ) → MatchOption r ((k : ℕ) → 0 ≤ k → k < n → P k → ⊥) (λ i. (0 ≤ i) × (i < n) × P i × ((k : ℕ) → 0 ≤ k → k < i → P k → ⊥)) → Found P r
first_of_range P n inside None m = λ j p. m j (omega arith) (inside j p) p
first_of_range P n inside (Some i) m = (m.2, λ j lt p. m.3 j (omega arith) lt p)
