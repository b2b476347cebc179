-- What the panel means after each move. Assumes nothing.
use Rattle.std.proofs.Common.{◌≡◌, ℕ, zero, suc, ◌+◌, ◌-◌, ◌*◌, ◌/◌, ◌<◌, ◌≤◌, cond, ltb, leb, List, [], ◌∷◌, ◌++◌, length, take, drop, replicate, sym, refl, ap, ◌∙◌, ⊎_elim, arith}
use Rattle.std.proofs.lemmas.List.{drop-drop, take_at, drop_at}
use Rattle.std.proofs.lemmas.Bool.{cond-true, cond-false, lt-ltb, le-ltb, le-leb, lt-leb, cases_lt}
use Rattle.tape.specs.Fields.{line_says}
use Rattle.tape.specs.Format.{Entry, silent, AllLines, IsTape, line_bytes, tape_bytes}
use Rattle.tape.specs.Says.{line_at, start, said, meant, state_meaning}
use Rattle.tape.specs.Verdict.{nth_line, moves, EveryTapePlays}
use Rattle.tape.proofs.Lines.{line_back, length_line}
use Rattle.tape.proofs.Tapes.{length_tape}

-- line n + 1 of a tape is read from its bytes
line_at_tape : (lines : List (List Entry)) (n : ℕ) → AllLines lines → n < length lines → line_says (line_at (tape_bytes lines) n) ≡ nth_line lines (suc n)
line_at_tape [] n good h = let no : ⊥ = omega arith in absurd no
line_at_tape (l ∷ ls) zero (good, more) h =
    ap line_says (take_at (line_bytes l) (tape_bytes ls) 49 (length_line l good)) ∙ line_back l good
line_at_tape (l ∷ ls) (suc n) (good, more) h =
    let e : 49 * suc n ≡ 49 + 49 * n = omega arith in
    let d = ap (λ j. drop j (line_bytes l ++ tape_bytes ls)) e ∙ sym (drop-drop (49 * n) 49 (line_bytes l ++ tape_bytes ls)) ∙ ap (drop (49 * n)) (drop_at (line_bytes l) (tape_bytes ls) 49 (length_line l good)) in
    ap (λ ys. line_says (take 49 ys)) d ∙ line_at_tape ls n more (omega arith)

past_last : (lines : List (List Entry)) (n : ℕ) → length lines ≤ n → nth_line lines (suc n) ≡ replicate 8 silent
past_last [] n h = refl
past_last (l ∷ ls) zero h = let no : ⊥ = omega arith in absurd no
past_last (l ∷ ls) (suc n) h = past_last ls n (omega arith)

said_tape : (lines : List (List Entry)) (n : ℕ) → AllLines lines → said (tape_bytes lines) n ≡ nth_line lines n
unfolding said
said_tape lines zero good = refl
said_tape lines (suc n) good =
    let count : length (tape_bytes lines) / 49 ≡ length lines = omega (arith, length_tape lines good) in
    ⊎_elim
    (λ (h : n < length lines). cond-true (ltb n (length (tape_bytes lines) / 49)) _ _ (lt-ltb n _ (omega arith)) ∙ line_at_tape lines n good h)
    (λ (h : length lines ≤ n). cond-false (ltb n (length (tape_bytes lines) / 49)) _ _ (le-ltb n _ (omega arith)) ∙ sym (past_last lines n h))
    (cases_lt n (length lines))

-- where the tape stands after n moves
module _ (bytes : List ℕ) (count : ℕ) (is : length bytes / 49 ≡ count) where
  bytes_stay : (n : ℕ) → (moves n (start bytes)).bytes ≡ bytes
  bytes_stay zero = refl
  bytes_stay (suc n) = bytes_stay n

  outputs_stay : (n : ℕ) → (moves n (start bytes)).outputs ≡ replicate 8 0
  outputs_stay zero = refl
  outputs_stay (suc n) = outputs_stay n

  step_at : (n : ℕ) → (moves (suc n) (start bytes)).at ≡ cond (leb (moves n (start bytes)).at count) ((moves n (start bytes)).at + 1) (moves n (start bytes)).at
  step_at n =
      let a = (moves n (start bytes)).at in
      ap (λ b. cond (leb a (length b / 49)) (a + 1) a) (bytes_stay n) ∙ ap (λ c. cond (leb a c) (a + 1) a) is

  at_within : (n : ℕ) → n ≤ count + 1 → (moves n (start bytes)).at ≡ n
  at_within zero h = refl
  at_within (suc n) h =
      let e = at_within n (omega arith) in
      let s : n + 1 ≡ suc n = omega arith in
      step_at n ∙ ap (λ a. cond (leb a count) (a + 1) a) e ∙ cond-true (leb n count) _ _ (le-leb n count (omega arith)) ∙ s

  at_end : (n : ℕ) → count + 1 ≤ n → (moves n (start bytes)).at ≡ count + 1
  at_end zero h = let no : ⊥ = omega arith in absurd no
  at_end (suc n) h =
      ⊎_elim
      (λ (lt : n < count + 1). let e : suc n ≡ count + 1 = omega arith in at_within (suc n) (omega arith) ∙ e)
      (λ (le : count + 1 ≤ n). step_at n ∙ ap (λ a. cond (leb a count) (a + 1) a) (at_end n le) ∙ cond-false (leb (count + 1) count) _ _ (lt-leb (count + 1) count (omega arith)))
      (cases_lt n (count + 1))

  pub same_meaning : (n a : ℕ) → (moves n (start bytes)).at ≡ a → state_meaning (moves n (start bytes)) ≡ meant (said bytes a) (replicate 8 0)
  same_meaning n a e =
      ap (λ b. meant (said b (moves n (start bytes)).at) (moves n (start bytes)).outputs) (bytes_stay n)
      ∙ ap (λ x. meant (said bytes x) (moves n (start bytes)).outputs) e
      ∙ ap (meant (said bytes a)) (outputs_stay n)

after_moves : (bytes : List ℕ) (lines : List (List Entry)) → IsTape bytes lines → (n : ℕ) → state_meaning (moves n (start bytes)) ≡ meant (nth_line lines n) (replicate 8 0)
after_moves bytes lines t n =
    let zeros : List ℕ = replicate 8 0 in
    let count : length bytes / 49 ≡ length lines = omega (arith, ap length t.written, length_tape lines t.good) in
    let lines-say : (a : ℕ) → said bytes a ≡ nth_line lines a = λ a. ap (λ b. said b a) t.written ∙ said_tape lines a t.good in
    ⊎_elim
    (λ (h : n < length lines + 1).
    same_meaning bytes (length lines) count n n (at_within bytes (length lines) count n (omega arith)) ∙ ap (λ es. meant es zeros) (lines-say n))
    (λ (h : length lines + 1 ≤ n).
    let s : length lines + 1 ≡ suc (length lines) = omega arith in
    let p : n ≡ suc (n - 1) = omega arith in
    let both = past_last lines (length lines) (omega arith) ∙ sym (past_last lines (n - 1) (omega arith)) ∙ ap (nth_line lines) (sym p) in
    same_meaning bytes (length lines) count n (length lines + 1) (at_end bytes (length lines) count n h)
    ∙ ap (λ es. meant es zeros) (lines-say (length lines + 1) ∙ ap (nth_line lines) s ∙ both))
    (cases_lt n (length lines + 1))

pub plays : (bytes : List ℕ) → EveryTapePlays bytes
plays bytes lines t = record {
  count = omega (arith, ap length t.written, length_tape lines t.good);
  at_line = λ s e. ap (λ es. meant es s.outputs) (ap (λ b. said b s.at) (e ∙ t.written) ∙ said_tape lines s.at t.good);
  after_moves = after_moves bytes lines t;
}
