-- One word more of a sweep over the panel. Assumes nothing.
use Rattle.std.proofs.Common.{◌≡◌, ℕ, zero, suc, ◌+◌, ◌-◌, ◌*◌, ◌%◌, ◌^◌, ◌<◌, ◌≤◌, Bool, true, false, cond, not, ltb, List, length, get_or, set, is_err, Some, Ok, Err, Result, sym, refl, ap, ◌∙◌, ⊎_elim, add-one, arith}
use Rattle.std.proofs.lemmas.List.{get_or-set_same, get_or-set_other, length-set}
use Rattle.panel.specs.Meaning.{Meaning, with_output, after_put, first_silent, after_puts, mask_of, placed}
use Rattle.std.proofs.lemmas.Bool.{cond-true, lt-ltb, true≢false, false≢true, cases_eq}
use Rattle.panel.specs.declared.PanelFault.{PanelFault}
use Rattle.panel.specs.declared.PanelFault.TheVariants.{Silent}
use Rattle.panel.specs.Answers.{read_of, put_answer}
use lib.Bits.{bit_or}
use Rattle.std.proofs.lemmas.Nat.{or_comm, or_shifted, one_shl, pow-add}

pub silent_answers : (a : List Bool) (k n : ℕ) → k < n → get_or a k false ≡ true → first_silent a k (n - k) ≡ first_silent a (k + 1) (n - (k + 1))
silent_answers a k n h t =
    let e : n - k ≡ suc (n - (k + 1)) = omega arith in
    ap (first_silent a k) e ∙ ap (λ b. cond b (first_silent a (k + 1) (n - (k + 1))) (Some k)) t

pub after_puts_more : (m : Meaning) (words : List ℕ) (k : ℕ) → after_puts m words (k + 1) ≡ after_put (after_puts m words k) k (get_or words k 0)
after_puts_more m words k = ap (after_puts m words) (add-one k)

pub mask_more : (a : List Bool) (k : ℕ) → mask_of a (k + 1) ≡ mask_of a k + cond (get_or a k false) 0 (2 ^ k)
mask_more a k = ap (mask_of a) (add-one k)

-- What an answer of a panel says of its meaning.

ok_cond : (b : Bool) (w v : ℕ) (e : PanelFault) → Ok w ≡ cond b (Ok v) (Err e) → (b ≡ true) × (w ≡ v)
ok_cond true w v e p = (refl, cc)
ok_cond false w v e p = let z : ◌≡◌ {A = ℕ} 0 1 = cc in let no : ⊥ = omega arith in absurd no

pub read_ok : (m : Meaning) (k w : ℕ) → k < 8 → Ok w ≡ read_of m k → (get_or m.input_answers k false ≡ true) × (w ≡ get_or m.inputs k 0)
read_ok m k w h p = ok_cond (get_or m.input_answers k false) w (get_or m.inputs k 0) (Silent k) (p ∙ cond-true (ltb k 8) _ _ (lt-ltb k 8 h))

err_not : {X : Type 0} (b : Bool) (v : X) (e : PanelFault) → is_err (cond b (Ok v) (Err e)) ≡ not b
err_not true v e = refl
err_not false v e = refl

pub put_silent : (m : Meaning) (k : ℕ) (r : Result (Unit {0}) PanelFault) → k < 8 → r ≡ put_answer m k → is_err r ≡ not (get_or m.output_answers k false)
put_silent m k r h p = ap is_err (p ∙ cond-true (ltb k 8) _ _ (lt-ltb k 8 h)) ∙ err_not (get_or m.output_answers k false) tt (Silent k)

kept_by_cond : (b d : Bool) (m n : Meaning) → n.output_answers ≡ m.output_answers → (cond b (cond d n m) m).output_answers ≡ m.output_answers
kept_by_cond true true m n e = e
kept_by_cond true false m n e = refl
kept_by_cond false d m n e = refl

-- a put leaves which words answer
pub answers_kept : (m : Meaning) (k w : ℕ) → (after_put m k w).output_answers ≡ m.output_answers
answers_kept m k w = kept_by_cond (ltb k 8) (get_or m.output_answers k false) m (with_output m k w) refl

-- a bit above a mask
pub mask_or : (mask k : ℕ) → mask < 2 ^ k → k < 8 → bit_or mask ((1 * 2 ^ k) % 2 ^ 8) ≡ mask + 2 ^ k
mask_or mask k below h =
    let bit : (1 * 2 ^ k) % 2 ^ 8 ≡ 1 * 2 ^ k = omega (arith, one_shl k 8 h) in
    ap (bit_or mask) bit ∙ or_comm mask (1 * 2 ^ k) ∙ or_shifted 1 k mask below ∙ omega arith

pub pow_more : (k : ℕ) → 2 ^ (k + 1) ≡ 2 ^ k + 2 ^ k
pow_more k = omega (arith, pow-add 2 k 1)

-- the mask after a word that is silent, and after one that answers
pub mask_silent : (b : Bool) (mask k next : ℕ) → mask < 2 ^ k → k < 8 → true ≡ not b → next ≡ bit_or mask ((1 * 2 ^ k) % 2 ^ 8) → (next ≡ mask + cond b 0 (2 ^ k)) × (next < 2 ^ (k + 1))
mask_silent true mask k next below h t e = absurd (true≢false t)
mask_silent false mask k next below h t e = let p = e ∙ mask_or mask k below h in (p, omega (arith, pow_more k))

pub mask_answers : (b : Bool) (mask k next : ℕ) → mask < 2 ^ k → false ≡ not b → next ≡ mask → (next ≡ mask + cond b 0 (2 ^ k)) × (next < 2 ^ (k + 1))
mask_answers true mask k next below t e = (omega arith, omega (arith, pow_more k))
mask_answers false mask k next below t e = absurd (false≢true t)

-- Each output word after the puts, by its place.

put_at : (b : Bool) (xs : List ℕ) (n w k : ℕ) → n < length xs → k ≡ n → get_or (cond b (set xs n w) xs) k 0 ≡ cond b w (get_or xs k 0)
put_at true xs n w k h e = ap (λ j. get_or (set xs n w) j 0) e ∙ get_or-set_same xs n w 0 h
put_at false xs n w k h e = refl

put_else : (b : Bool) (xs : List ℕ) (n w k : ℕ) → (k ≡ n → ⊥) → get_or (cond b (set xs n w) xs) k 0 ≡ get_or xs k 0
put_else true xs n w k ne = get_or-set_other xs n k w 0 ne
put_else false xs n w k ne = refl

cond_outputs : (b : Bool) (m o : Meaning) → (cond b o m).outputs ≡ cond b o.outputs m.outputs
cond_outputs true m o = refl
cond_outputs false m o = refl

put_outputs : (m : Meaning) (n w : ℕ) → n < 8 → (after_put m n w).outputs ≡ cond (get_or m.output_answers n false) (set m.outputs n w) m.outputs
put_outputs m n w h =
    ap (λ (x : Meaning). x.outputs) (cond-true (ltb n 8) _ _ (lt-ltb n 8 h)) ∙ cond_outputs (get_or m.output_answers n false) m (with_output m n w)

cond_long : (b : Bool) (xs : List ℕ) (n w : ℕ) → length (cond b (set xs n w) xs) ≡ length xs
cond_long true xs n w = length-set xs n w
cond_long false xs n w = refl

module _ (m : Meaning) (words : List ℕ) where
  answers_after : (n : ℕ) → (after_puts m words n).output_answers ≡ m.output_answers
  answers_after zero = refl
  answers_after (suc n) = answers_kept (after_puts m words n) n (get_or words n 0) ∙ answers_after n

  outputs_more : (n : ℕ) → n < 8 → (after_puts m words (suc n)).outputs
      ≡ cond (get_or m.output_answers n false) (set (after_puts m words n).outputs n (get_or words n 0)) (after_puts m words n).outputs
  outputs_more n h = put_outputs (after_puts m words n) n (get_or words n 0) h
      ∙ ap (λ a. cond (get_or a n false) (set (after_puts m words n).outputs n (get_or words n 0)) (after_puts m words n).outputs) (answers_after n)

  pub length_after : (n : ℕ) → n ≤ 8 → length (after_puts m words n).outputs ≡ length m.outputs
  length_after zero h = refl
  length_after (suc n) h = ap length (outputs_more n (omega arith)) ∙ cond_long (get_or m.output_answers n false) (after_puts m words n).outputs n (get_or words n 0) ∙ length_after n (omega arith)

  above : (n : ℕ) → n ≤ 8 → (k : ℕ) → n ≤ k → get_or (after_puts m words n).outputs k 0 ≡ get_or m.outputs k 0
  above zero h k le = refl
  above (suc n) h k le =
      ap (λ xs. get_or xs k 0) (outputs_more n (omega arith))
      ∙ put_else (get_or m.output_answers n false) (after_puts m words n).outputs n (get_or words n 0) k (λ e. omega arith)
      ∙ above n (omega arith) k (omega arith)

  pub below : length m.outputs ≡ 8 → (n : ℕ) → n ≤ 8 → (k : ℕ) → k < n → get_or (after_puts m words n).outputs k 0 ≡ placed m words k
  below long zero h k lt = let no : ⊥ = omega arith in absurd no
  below long (suc n) h k lt =
      ⊎_elim
      (λ (e : k ≡ n).
      ap (λ xs. get_or xs k 0) (outputs_more n (omega arith))
      ∙ put_at (get_or m.output_answers n false) (after_puts m words n).outputs n (get_or words n 0) k (omega (arith, length_after n (omega arith))) e
      ∙ ap (λ x. cond (get_or m.output_answers n false) (get_or words n 0) x) (above n (omega arith) k (omega arith))
      ∙ ap (λ j. cond (get_or m.output_answers j false) (get_or words j 0) (get_or m.outputs k 0)) (sym e))
      (λ (ne : k ≡ n → ⊥).
      ap (λ xs. get_or xs k 0) (outputs_more n (omega arith))
      ∙ put_else (get_or m.output_answers n false) (after_puts m words n).outputs n (get_or words n 0) k ne
      ∙ below long n (omega arith) k (omega arith))
      (cases_eq k n)
