-- What one turn of the loop that writes the code keeps. Assumes nothing.
use Rattle.std.proofs.Common.{◌≡◌, ℕ, ◌+◌, ◌<◌, ◌≤◌, true, false, cond, ◌&&◌, ltb, leb, List, [], ◌∷◌, ◌++◌, length, get_or, take, drop, set, Some, None, Option, sym, refl, ap, ◌∙◌, subst, append_assoc, append-nil, arith, length-set, ltb-true, le-leb, leb-true}
use borrow.Author.Tests.{lt-leb}
use Rattle.std.proofs.lemmas.Bool.{and_parts}
use Rattle.std.proofs.lemmas.List.{take-append-drop, take_more_set, drop-set-lt, drop-drop, set_at, drop_more}
use Rattle.tokens.specs.Tokens.{Kind, bracket_opens, bracket_closes, number, load_number, load_bit, load_word, store_bit, store_word, switch, test, operator, comparison, otherwise, end_of_condition, end_of_level, return, label, call}
use Rattle.reading.specs.declared.Placed.{Placed}
use Rattle.program.specs.declared.instruction.Instruction.{Instruction}
use Rattle.program.specs.declared.instruction.Instruction.TheVariants.{Return}
use Rattle.emission.specs.declared.parts.Pending.{Pending}
use Rattle.grammar.specs.Verdict.{kinds_of}
use Rattle.emission.specs.Emission.{weight, total, asks, made, before, instructions, emitted, fits, code_length, written_over}
use Rattle.emission.proofs.Turns.{length_kinds}

-- a token makes as many instructions as it weighs
pub weight_made : (p : Option Pending) (n : ℕ) (k : Kind) (ks : List Kind) → length (before (made p n k ks) []) ≡ weight k
weight_made p n bracket_opens ks = refl
weight_made p n bracket_closes ks = refl
weight_made p n (number v) ks = refl
weight_made p n (load_number v) ks = refl
weight_made p n (load_bit c x) ks = refl
weight_made p n (load_word c x) ks = refl
weight_made p n (store_bit c x) ks = refl
weight_made p n (store_word c x) ks = refl
weight_made p n (switch c on) ks = refl
weight_made p n (test c x) ks = refl
weight_made p n (operator o) ks = refl
weight_made p n (comparison o) ks = refl
weight_made p n otherwise ks = refl
weight_made p n end_of_condition ks = refl
weight_made p n (end_of_level v) ks = refl
weight_made p n return ks = refl
weight_made p n (label l) ks = refl
weight_made p n (call l) ks = refl

length_before : (o : Option Instruction) (is : List Instruction) → length (before o is) ≡ length (before o []) + length is
length_before None is = omega arith
length_before (Some i) is = omega arith

pub length_instructions : (p : Option Pending) (n : ℕ) (ks : List Kind) → length (instructions p n ks) ≡ total ks
length_instructions p n [] = refl
length_instructions p n (k ∷ ks) =
    omega (arith, length_before (made p n k ks) (instructions (asks k) (n + weight k) ks), weight_made p n k ks, length_instructions (asks k) (n + weight k) ks)

pub record Filled (ks rest : List Kind) (old new : List Instruction) (p : Option Pending) (n : ℕ) : Type 0 where
  pub whole : length new ≡ length old
  pub sum : n + total rest ≡ total ks
  pub front : take n new ++ instructions p n rest ≡ instructions None 0 ks
  pub behind : drop n new ≡ drop n old

drop_further : (xs ys : List Instruction) (n : ℕ) → drop n xs ≡ drop n ys → drop (n + 1) xs ≡ drop (n + 1) ys
drop_further xs ys n e = sym (drop-drop 1 n xs) ∙ ap (drop 1) e ∙ drop-drop 1 n ys

module _ (ks : List Kind) (k : Kind) (rest : List Kind) (old new : List Instruction) (p : Option Pending) (n : ℕ) (h : Filled ks (k ∷ rest) old new p n) where
  pub filled_some : (x : Instruction) → Some x ≡ made p n k rest → n < length old → (q : Option Pending) → q ≡ asks k → Filled ks rest old (set new n x) q (n + 1)
  filled_some x m lo q f =
      let w : weight k ≡ 1 = sym (weight_made p n k rest) ∙ ap (λ y. length (before y [])) (sym m) in
      let ln : n < length new = omega (arith, h.whole) in
      let is = λ (y : ℕ). instructions q (n + y) rest in
      record {
        whole = length-set new n x ∙ h.whole;
        sum = omega (arith, h.sum);
        front =
            ap (λ l. l ++ is 1) (take_more_set new n x ln)
            ∙ append_assoc (take n new) (x ∷ []) (is 1)
            ∙ ap (λ y. take n new ++ x ∷ y) (λ j. instructions (f j) (n + sym w j) rest)
            ∙ ap (λ y. take n new ++ before y (instructions (asks k) (n + weight k) rest)) m
            ∙ h.front;
        behind = drop-set-lt (n + 1) new n x (omega arith) ∙ drop_further new old n h.behind;
      }

  pub filled_none : None ≡ made p n k rest → (q : Option Pending) → q ≡ asks k → Filled ks rest old new q n
  filled_none m q f =
      let w : weight k ≡ 0 = sym (weight_made p n k rest) ∙ ap (λ y. length (before y [])) (sym m) in
      let v : n ≡ n + weight k = omega arith in
      record {
        whole = h.whole;
        sum = omega (arith, h.sum);
        front =
            ap (λ y. take n new ++ y) (λ j. instructions (f j) (v j) rest)
            ∙ ap (λ y. take n new ++ before y (instructions (asks k) (n + weight k) rest)) m
            ∙ h.front;
        behind = h.behind;
      }

pub filled_all : (ks : List Kind) (old new : List Instruction) (p : Option Pending) (n : ℕ) → Filled ks [] old new p n → new ≡ instructions None 0 ks ++ drop n old
filled_all ks old new p n h =
    sym (take-append-drop n new)
    ∙ ap (λ y. take n new ++ y) h.behind
    ∙ ap (λ y. y ++ drop n old) (sym (append-nil (take n new)) ∙ h.front)

-- one more at the end
pub closed : (a : List Instruction) (old : List Instruction) (n : ℕ) (x : Instruction) → length a ≡ n → n < length old → set (a ++ drop n old) n x ≡ (a ++ x ∷ []) ++ drop (n + 1) old
closed a old n x e lt =
    ap (λ y. set (a ++ y) n x) (drop_more old n Return lt)
    ∙ set_at a (get_or old n Return) (drop (n + 1) old) x n e
    ∙ sym (append_assoc a (x ∷ []) (drop (n + 1) old))

-- the same at values that are known by equations
pub filled_as : (ks rest : List Kind) (old new new' : List Instruction) (p : Option Pending) (n n' : ℕ) → new' ≡ new → n' ≡ n → Filled ks rest old new p n → Filled ks rest old new' p n'
filled_as ks rest old new new' p n n' e f h = let P : ℕ → List Instruction → Type 0 = λ m xs. Filled ks rest old xs p m in subst (λ (m : ℕ). P m new') (sym f) (subst (P n) (sym e) h)

-- ---- room
pub room_few : (ts : List Placed) (n : ℕ) → n ≡ total (kinds_of ts) → length ts ≤ 2048 → ltb n 2048 ≡ fits (kinds_of ts)
room_few ts n e le = (λ j. sym (le-leb (length ts) 2048 le) j && ltb n 2048) ∙ (λ j. leb (sym (length_kinds ts) j) 2048 && ltb (e j) 2048)

pub room_many : (ts : List Placed) → 2048 < length ts → leb (length ts) 2048 ≡ fits (kinds_of ts)
room_many ts gt =
    let f : leb (length ts) 2048 ≡ false = lt-leb (length ts) 2048 gt in
    f ∙ (λ j. sym f j && ltb (total (kinds_of ts)) 2048) ∙ ap (λ n. leb n 2048 && ltb (total (kinds_of ts)) 2048) (sym (length_kinds ts))

pub fits_few : (ts : List Placed) → fits (kinds_of ts) ≡ true → length ts ≤ 2048
fits_few ts e = omega (arith, length_kinds ts, leb-true (length (kinds_of ts)) 2048 (and_parts (leb (length (kinds_of ts)) 2048) (ltb (total (kinds_of ts)) 2048) e).0)

pub fits_total : (ks : List Kind) → fits ks ≡ true → total ks < 2048
fits_total ks e = ltb-true (total ks) 2048 (and_parts (leb (length ks) 2048) (ltb (total ks) 2048) e).1

pub written : (ts : List Placed) (old new : List Instruction) (n : ℕ) → length old ≡ 2048 → fits (kinds_of ts) ≡ true → n ≡ total (kinds_of ts) → new ≡ instructions None 0 (kinds_of ts) ++ drop n old → set new n Return ≡ written_over (kinds_of ts) old
written ts old new n long e f g =
    let ks = kinds_of ts in
    let a = instructions None 0 ks in
    let l : length a ≡ n = length_instructions None 0 ks ∙ sym f in
    let lt : n < length old = omega (arith, fits_total ks e) in
    ap (λ y. set y n Return) g ∙ closed a old n Return l lt
    ∙ ap (λ m. (a ++ Return ∷ []) ++ drop (m + 1) old) f
    ∙ ap (λ b. cond b (emitted ks ++ drop (total ks + 1) old) old) (sym e)

pub refused_length : (ks : List Kind) → false ≡ fits ks → None ≡ code_length ks
refused_length ks e = ap (λ b. cond b (Some (total ks + 1)) None) e

pub refused_code : (ks : List Kind) (old : List Instruction) → false ≡ fits ks → old ≡ written_over ks old
refused_code ks old e = ap (λ b. cond b (emitted ks ++ drop (total ks + 1) old) old) e

pub made_length : (ks : List Kind) (n : ℕ) → true ≡ fits ks → n ≡ total ks → Some (n + 1) ≡ code_length ks
made_length ks n e f = ap (λ m. Some (m + 1)) f ∙ ap (λ b. cond b (Some (total ks + 1)) None) e
