-- What a fragment of a code adds to what lies ahead, wherever it stands. Assumes nothing.
use Rattle.std.proofs.Common.{◌≡◌, ℕ, suc, ◌+◌, ◌<◌, ◌≤◌, max, List, [], ◌∷◌, ◌++◌, length, sym, refl, ap, ◌∙◌, ap₂, arith, length-append, Option}
use Rattle.tokens.specs.declared.Operator.{Operator}
use Rattle.program.specs.declared.instruction.Check.{Check}
use Rattle.program.specs.declared.instruction.Instruction.{Instruction}
use Rattle.program.specs.declared.instruction.Instruction.TheVariants.{Return, Open, Close, Test, Skip, Call}
use Rattle.meaning.specs.Code.{bracket_code, when_code, guarded, either_code}
use Rattle.meaning.proofs.Fragments.{Has, has_left, has_right}
use Rattle.weights.specs.Ahead.{Rule, ahead_of, ahead}
use Rattle.weights.specs.Weights.{steps, modules}
use Rattle.weights.proofs.Rows.{Down, unroll}

-- a rule by which a fragment adds a number to what lies ahead of the place behind it
pub record Adding (r : Rule ℕ) : Type 0 where
  pub plus : ℕ → ℕ → ℕ
  pub one : ℕ
  pub none : (k : ℕ) → plus 0 k ≡ k
  pub more : (a b k : ℕ) → plus a (plus b k) ≡ plus (plus a b) k
  pub goes : (k : ℕ) → r.goes k ≡ plus one k
  pub tests : (a b k : ℕ) → r.tests (plus a k) (plus b k) ≡ plus (plus one (max a b)) k
  pub calls : (m k : ℕ) → r.calls m k ≡ plus (1 + m) k

abbrev pub adding_steps : Adding steps
adding_steps = record {
  plus = λ a k. a + k;
  one = 1;
  none = λ k. omega arith;
  more = λ a b k. omega arith;
  goes = λ k. omega arith;
  tests = λ a b k. omega arith;
  calls = λ m k. omega arith;
}

abbrev pub adding_modules : Adding modules
adding_modules = record {
  plus = λ a k. max a k;
  one = 0;
  none = λ k. omega arith;
  more = λ a b k. omega arith;
  goes = λ k. omega arith;
  tests = λ a b k. omega arith;
  calls = λ m k. omega arith;
}

module _ (r : Rule ℕ) (s : Adding r) (program : List Instruction) (end : ℕ) where
  -- what lies ahead of place n
  abbrev from : ℕ → ℕ
  from n = ahead r program n

  -- wherever a stands, up to place `end`, it adds c
  abbrev pub Adds : List Instruction → ℕ → Type 0
  Adds a c = (n : ℕ) → n + length a ≤ end → Has program n a → from n ≡ s.plus c (from (n + length a))

  pub adds_as : (a : List Instruction) (c d : ℕ) → c ≡ d → Adds a c → Adds a d
  adds_as a c d e p n l h = p n l h ∙ ap (λ (w : ℕ). s.plus w (from (n + length a))) e

  pub adds_nothing : Adds [] 0
  adds_nothing n l h = let w : n ≡ n + 0 = omega arith in ap from w ∙ sym (s.none (from (n + 0)))

  -- an instruction that leads to the next place
  pub adds_single : (x : Instruction) → ((n : ℕ) → Down n x) → ((n : ℕ) (later : ℕ → ℕ) → ahead_of r n x later ≡ r.goes (later (n + 1))) → Adds (x ∷ []) s.one
  adds_single x d e n l h = unroll r program n x h.0 h.1 (d n) ∙ e n from ∙ s.goes (from (n + 1))

  pub adds_thence : (a b : List Instruction) (c d : ℕ) → Adds a c → Adds b d → Adds (a ++ b) (s.plus c d)
  adds_thence a b c d p q n l h =
      let e = length-append a b in
      let w : n + length a + length b ≡ n + length (a ++ b) = omega (arith, e) in
      p n (omega (arith, e)) (has_left program n a b h)
      ∙ ap (s.plus c) (q (n + length a) (omega (arith, e)) (has_right program n a b h) ∙ ap (λ (k : ℕ). s.plus d (from k)) w)
      ∙ s.more c d (from (n + length (a ++ b)))

  pub adds_bracket : (j : Option Operator) (a : List Instruction) (c : ℕ) → Adds a c → Adds (bracket_code j a) (s.plus s.one (s.plus c s.one))
  adds_bracket j a c p =
      adds_thence (Open j ∷ []) (a ++ (Close ∷ [])) s.one (s.plus c s.one) (adds_single (Open j) (λ n. tt) (λ n later. refl))
      (adds_thence a (Close ∷ []) c s.one p (adds_single Close (λ n. tt) (λ n later. refl)))

  -- a test, before branches that add c and d to the same
  adds_test : (x : Check) (j : ℕ) (a : List Instruction) (n c d k : ℕ) → Has program n (Test x j ∷ a) → from (n + 1) ≡ s.plus c k → from (n + 1 + j) ≡ s.plus d k → from n ≡ s.plus (s.plus s.one (max c d)) k
  adds_test x j a n c d k h p q = unroll r program n (Test x j) (a ++ h.0) h.1 tt ∙ ap₂ r.tests p q ∙ s.tests c d k

  pub adds_when : (x : Check) (a : List Instruction) (c : ℕ) → Adds a c → Adds (when_code x a) (s.plus s.one c)
  adds_when x a c p n l h =
      let k = from (n + suc (length a)) in
      let w : n + 1 + length a ≡ n + suc (length a) = omega arith in
      let m : max c 0 ≡ c = omega arith in
      adds_test x (length a) a n c 0 k h
      (p (n + 1) (omega arith) (has_right program n (Test x (length a) ∷ []) a h) ∙ ap (λ (j : ℕ). s.plus c (from j)) w)
      (ap from w ∙ sym (s.none k))
      ∙ ap (λ (d : ℕ). s.plus (s.plus s.one d) k) m

  pub adds_either : (x : Check) (a b : List Instruction) (c d : ℕ) → Adds a c → Adds b d → Adds (either_code x a b) (s.plus s.one (max (s.plus c s.one) d))
  adds_either x a b c d p q n l h =
      let g = length-append (guarded a b) b in
      let f = length-append a (Skip (length b) ∷ []) in
      let both = has_right program n (Test x (length (guarded a b)) ∷ []) (guarded a b ++ b) h in
      let left = has_left program (n + 1) (guarded a b) b both in
      let skip = has_right program (n + 1) a (Skip (length b) ∷ []) left in
      let k = from (n + suc (length (guarded a b ++ b))) in
      let u : n + 1 + length a + 1 + length b ≡ n + suc (length (guarded a b ++ b)) = omega (arith, g, f) in
      let v : n + 1 + length (guarded a b) + length b ≡ n + suc (length (guarded a b ++ b)) = omega (arith, g) in
      adds_test x (length (guarded a b)) (guarded a b ++ b) n (s.plus c s.one) d k h
      (p (n + 1) (omega (arith, g, f)) (has_left program (n + 1) a (Skip (length b) ∷ []) left)
      ∙ ap (s.plus c) (unroll r program (n + 1 + length a) (Skip (length b)) skip.0 skip.1 tt ∙ s.goes (from (n + 1 + length a + 1 + length b)) ∙ ap (λ (m : ℕ). s.plus s.one (from m)) u)
      ∙ s.more c s.one k)
      (q (n + 1 + length (guarded a b)) (omega (arith, g)) (has_right program (n + 1) (guarded a b) b both) ∙ ap (λ (m : ℕ). s.plus d (from m)) v)

  -- a call of the module at m, behind place `end`
  pub adds_call : (m c : ℕ) → end ≤ m → 1 + from m ≡ c → Adds (Call m ∷ []) c
  adds_call m c g e n l h =
      let less : n < m = omega arith in
      unroll r program n (Call m) h.0 h.1 less ∙ s.calls (from m) (from (n + 1)) ∙ ap (λ (w : ℕ). s.plus w (from (n + 1))) e

  -- a module: its commands and its end
  pub adds_module : (a : List Instruction) (c n : ℕ) → n + length a ≤ end → Adds a c → Has program n (a ++ (Return ∷ [])) → from n ≡ s.plus c r.ends
  adds_module a c n l p h =
      let last = has_right program n a (Return ∷ []) h in
      p n l (has_left program n a (Return ∷ []) h) ∙ ap (s.plus c) (unroll r program (n + length a) Return last.0 last.1 tt)
