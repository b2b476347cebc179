-- Held sums are the exact sums, held. Assumes nothing.
use Rattle.std.proofs.Common.{◌≡◌, ℕ, zero, suc, ◌+◌, ◌-◌, ◌<◌, min, List, [], ◌∷◌, map, length, get_or, refl, ap, ◌∙◌, ap₂, arith}
use Rattle.std.proofs.lemmas.List.{get_or_default}
use Rattle.program.specs.declared.instruction.Instruction.{Instruction}
use Rattle.program.specs.declared.instruction.Instruction.TheVariants.{Return, Load, Apply, Open, Close, StoreBit, StoreWord, Switch, Test, Skip, Call}
use Rattle.weights.specs.Ahead.{Rule, ahead_of, aheads, ahead}
use Rattle.weights.specs.Weights.{steps, modules, held}
use Rattle.weights.proofs.Rows.{length_aheads}

-- what f makes of the sums of one rule are the sums of the other
pub record Carries {A B : Type 0} (f : A → B) (r : Rule A) (s : Rule B) : Type 0 where
  pub ends : s.ends ≡ f r.ends
  pub goes : (a : A) → s.goes (f a) ≡ f (r.goes a)
  pub tests : (a b : A) → s.tests (f a) (f b) ≡ f (r.tests a b)
  pub calls : (a b : A) → s.calls (f a) (f b) ≡ f (r.calls a b)

module _ {A B : Type 0} (f : A → B) (r : Rule A) (s : Rule B) (c : Carries f r s) where
  carried_of : (n : ℕ) (x : Instruction) (g : ℕ → A) (h : ℕ → B) → ((p : ℕ) → h p ≡ f (g p)) → ahead_of s n x h ≡ f (ahead_of r n x g)
  carried_of n Return g h e = c.ends
  carried_of n (Load x) g h e = ap s.goes (e (n + 1)) ∙ c.goes (g (n + 1))
  carried_of n (Apply o x) g h e = ap s.goes (e (n + 1)) ∙ c.goes (g (n + 1))
  carried_of n (Open j) g h e = ap s.goes (e (n + 1)) ∙ c.goes (g (n + 1))
  carried_of n Close g h e = ap s.goes (e (n + 1)) ∙ c.goes (g (n + 1))
  carried_of n (StoreBit y k) g h e = ap s.goes (e (n + 1)) ∙ c.goes (g (n + 1))
  carried_of n (StoreWord y k) g h e = ap s.goes (e (n + 1)) ∙ c.goes (g (n + 1))
  carried_of n (Switch y on) g h e = ap s.goes (e (n + 1)) ∙ c.goes (g (n + 1))
  carried_of n (Test x k) g h e = ap₂ s.tests (e (n + 1)) (e (n + 1 + k)) ∙ c.tests (g (n + 1)) (g (n + 1 + k))
  carried_of n (Skip k) g h e = ap s.goes (e (n + 1 + k)) ∙ c.goes (g (n + 1 + k))
  carried_of n (Call m) g h e = ap₂ s.calls (e m) (e (n + 1)) ∙ c.calls (g m) (g (n + 1))

  pub carried_at : (ys : List B) (xs : List A) → ys ≡ map f xs → (p : ℕ) → get_or ys p s.ends ≡ f (get_or xs p r.ends)
  carried_at ys xs e p = ap₂ (λ (zs : List B) (z : B). get_or zs p z) e c.ends ∙ go xs p
    where
      go : (zs : List A) (k : ℕ) → get_or (map f zs) k (f r.ends) ≡ f (get_or zs k r.ends)
      go [] k = refl
      go (z ∷ zs) zero = refl
      go (z ∷ zs) (suc k) = go zs k

  carried_aheads : (n : ℕ) (code : List Instruction) → aheads s n code ≡ map f (aheads r n code)
  carried_aheads n [] = refl
  carried_aheads n (x ∷ xs) =
      let e = carried_aheads (n + 1) xs in
      ap₂ (λ (y : B) (ys : List B). y ∷ ys)
      (carried_of n x (λ p. get_or (aheads r (n + 1) xs) (p - (n + 1)) r.ends) (λ p. get_or (aheads s (n + 1) xs) (p - (n + 1)) s.ends)
      (λ p. carried_at (aheads s (n + 1) xs) (aheads r (n + 1) xs) e (p - (n + 1))))
      e

  pub carried : (code : List Instruction) (n : ℕ) → ahead s code n ≡ f (ahead r code n)
  carried code n = carried_at (aheads s 0 code) (aheads r 0 code) (carried_aheads 0 code) n

holds_steps : Carries (min 60001) steps (held 60001 steps)
holds_steps = record {
  ends = refl;
  goes = λ a. omega arith;
  tests = λ a b. omega arith;
  calls = λ a b. omega arith;
}

holds_modules : Carries (min 9) modules (held 9 modules)
holds_modules = record {
  ends = refl;
  goes = λ a. omega arith;
  tests = λ a b. omega arith;
  calls = λ a b. omega arith;
}

pub held_steps : (code : List Instruction) (n : ℕ) → ahead (held 60001 steps) code n ≡ min 60001 (ahead steps code n)
held_steps code n = carried (min 60001) steps (held 60001 steps) holds_steps code n

pub held_modules : (code : List Instruction) (n : ℕ) → ahead (held 9 modules) code n ≡ min 9 (ahead modules code n)
held_modules code n = carried (min 9) modules (held 9 modules) holds_modules code n

-- within the code no default counts
pub read : (r : Rule ℕ) (code : List Instruction) (n z : ℕ) → n < length code → get_or (aheads r 0 code) n z ≡ ahead r code n
read r code n z h = get_or_default (aheads r 0 code) n z r.ends (omega (arith, length_aheads r 0 code))
