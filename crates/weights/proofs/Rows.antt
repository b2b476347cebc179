-- What lies ahead, place by place. Assumes nothing.
use Rattle.std.proofs.Common.{◌≡◌, ℕ, zero, suc, ◌+◌, ◌-◌, ◌<◌, true, ltb, List, [], ◌∷◌, length, get_or, drop, set, sym, refl, ap, ◌∙◌, ap₂, arith}
use Rattle.std.proofs.lemmas.List.{get_or-drop, drop-drop, drop_more, drop-set}
use Rattle.std.proofs.lemmas.Bool.{ltb-true, and_parts}
use Rattle.program.specs.declared.instruction.Instruction.{Instruction}
use Rattle.program.specs.declared.instruction.Instruction.TheVariants.{Return, Load, Apply, Open, Close, StoreBit, StoreWord, Switch, Test, Skip, Call}
use Rattle.program.specs.Sound.{inside}
use Rattle.weights.specs.Ahead.{Rule, ahead_of, aheads, ahead}

-- a call at place n leads downward
abbrev pub Down : ℕ → Instruction → Type 0
Down n Return = Unit {0}
Down n (Load x) = Unit {0}
Down n (Apply o x) = Unit {0}
Down n (Open j) = Unit {0}
Down n Close = Unit {0}
Down n (StoreBit c k) = Unit {0}
Down n (StoreWord c k) = Unit {0}
Down n (Switch c on) = Unit {0}
Down n (Test x k) = Unit {0}
Down n (Skip k) = Unit {0}
Down n (Call m) = n < m

pub down : (len n : ℕ) (x : Instruction) → inside len n x ≡ true → Down n x
down len n Return e = tt
down len n (Load x) e = tt
down len n (Apply o x) e = tt
down len n (Open j) e = tt
down len n Close e = tt
down len n (StoreBit c k) e = tt
down len n (StoreWord c k) e = tt
down len n (Switch c on) e = tt
down len n (Test x k) e = tt
down len n (Skip k) e = tt
down len n (Call m) e = ltb-true n m (and_parts (ltb n m) (ltb m len) e).0

module _ {A : Type 0} (r : Rule A) where
  -- only the places behind n count
  pub ahead_same : (n : ℕ) (x : Instruction) (f g : ℕ → A) → Down n x → ((p : ℕ) → n < p → f p ≡ g p) → ahead_of r n x f ≡ ahead_of r n x g
  ahead_same n Return f g d e = refl
  ahead_same n (Load x) f g d e = ap r.goes (e (n + 1) (omega arith))
  ahead_same n (Apply o x) f g d e = ap r.goes (e (n + 1) (omega arith))
  ahead_same n (Open j) f g d e = ap r.goes (e (n + 1) (omega arith))
  ahead_same n Close f g d e = ap r.goes (e (n + 1) (omega arith))
  ahead_same n (StoreBit c k) f g d e = ap r.goes (e (n + 1) (omega arith))
  ahead_same n (StoreWord c k) f g d e = ap r.goes (e (n + 1) (omega arith))
  ahead_same n (Switch c on) f g d e = ap r.goes (e (n + 1) (omega arith))
  ahead_same n (Test x k) f g d e = ap₂ r.tests (e (n + 1) (omega arith)) (e (n + 1 + k) (omega arith))
  ahead_same n (Skip k) f g d e = ap r.goes (e (n + 1 + k) (omega arith))
  ahead_same n (Call m) f g d e = ap₂ r.calls (e m d) (e (n + 1) (omega arith))

  later_same : (xs : List A) (n p : ℕ) (z : A) → n < p → get_or (drop (n + 1) xs) (p - (n + 1)) z ≡ get_or xs p z
  later_same xs n p z h =
      let w : n + 1 + (p - (n + 1)) ≡ p = omega arith in
      get_or-drop (n + 1) xs (p - (n + 1)) z ∙ ap (λ (k : ℕ). get_or xs k z) w

  -- the rest of the sums are the sums of the rest
  pub drop_aheads : (m k : ℕ) (code : List Instruction) → drop k (aheads r m code) ≡ aheads r (m + k) (drop k code)
  drop_aheads m zero code = let w : m ≡ m + 0 = omega arith in ap (λ (k : ℕ). aheads r k code) w
  drop_aheads m (suc k) [] = refl
  drop_aheads m (suc k) (x ∷ xs) =
      let w : m + 1 + k ≡ m + suc k = omega arith in
      drop_aheads (m + 1) k xs ∙ ap (λ (j : ℕ). aheads r j (drop k xs)) w

  pub length_aheads : (n : ℕ) (code : List Instruction) → length (aheads r n code) ≡ length code
  length_aheads n [] = refl
  length_aheads n (x ∷ xs) = ap suc (length_aheads (n + 1) xs)

  -- one instruction more, in front of those whose sums are in the table
  pub rises : (code : List Instruction) (table : List A) (n : ℕ) (v : A) → n < length code → n < length table → drop (n + 1) table ≡ aheads r (n + 1) (drop (n + 1) code) → Down n (get_or code n Return) → v ≡ ahead_of r n (get_or code n Return) (λ p. get_or table p r.ends) → drop n (set table n v) ≡ aheads r n (drop n code)
  rises code table n v a b e d q =
      let x = get_or code n Return in
      let rest = drop (n + 1) code in
      drop-set table n v b
      ∙ ap₂ (λ (y : A) (ys : List A). y ∷ ys)
      (q ∙ ahead_same n x (λ p. get_or table p r.ends) (λ p. get_or (aheads r (n + 1) rest) (p - (n + 1)) r.ends) d
      (λ p h. sym (later_same table n p r.ends h) ∙ ap (λ (ys : List A). get_or ys (p - (n + 1)) r.ends) e))
      e
      ∙ ap (aheads r n) (sym (drop_more code n Return a))

  -- the sum ahead of a place, from those ahead of the places that its instruction leads to
  pub unroll : (code : List Instruction) (n : ℕ) (x : Instruction) (xs : List Instruction) → drop n code ≡ x ∷ xs → Down n x → ahead r code n ≡ ahead_of r n x (ahead r code)
  unroll code n x xs e d =
      let here : drop n (aheads r 0 code) ≡ aheads r n (x ∷ xs) = drop_aheads 0 n code ∙ (let w : 0 + n ≡ n = omega arith in ap₂ (aheads r) w e) in
      let w : n + 0 ≡ n = omega arith in
      let u : 0 + (n + 1) ≡ n + 1 = omega arith in
      let rest : aheads r (n + 1) xs ≡ drop (n + 1) (aheads r 0 code) = sym (drop_aheads 0 (n + 1) code ∙ ap₂ (aheads r) u (sym (drop-drop 1 n code) ∙ ap (drop 1) e)) in
      ap (λ (k : ℕ). get_or (aheads r 0 code) k r.ends) (sym w)
      ∙ sym (get_or-drop n (aheads r 0 code) 0 r.ends)
      ∙ ap (λ (ys : List A). get_or ys 0 r.ends) here
      ∙ ahead_same n x (λ p. get_or (aheads r (n + 1) xs) (p - (n + 1)) r.ends) (ahead r code) d
      (λ p h. ap (λ (ys : List A). get_or ys (p - (n + 1)) r.ends) rest ∙ later_same (aheads r 0 code) n p r.ends h)
