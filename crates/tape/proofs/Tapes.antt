-- Tapes are accepted as they are written, and refused at the first bad line. Assumes nothing.
use Rattle.std.proofs.Common.{◌≡◌, ℕ, zero, suc, ◌+◌, ◌*◌, ◌/◌, ◌%◌, ◌<◌, ◌≤◌, Bool, true, false, not, cond, eqb, leb, ltb, ◌⊎◌, List, [], ◌∷◌, ◌++◌, length, take, drop, option_map, Some, None, Ok, Err, Option, Result, sym, refl, ap, ◌∙◌, subst, inl, inr, ⊎_elim, arith}
use Rattle.std.proofs.lemmas.List.{append_assoc, append-nil, take-append-drop, take_at, drop_at, length-append, length-take-le, length-drop, nil_from_length}
use Rattle.std.proofs.lemmas.Bool.{true≢false, cases_Bool, cond_both, cond-true, cond-false, le-leb, lt-leb, leb-true, leb-false, eq-eqb, ne_eqb, eqb-true, eqb-false}
use Rattle.tape.specs.declared.TapeFault.{TapeFault}
use Rattle.tape.specs.declared.TapeFault.TheVariants.{Length, Line}
use Rattle.tape.specs.Fields.{line_holds, line_says}
use Rattle.tape.specs.Format.{Entry, Line as GoodLine, AllLines, IsTape, line_bytes, tape_bytes}
use Rattle.tape.specs.Says.{State, first_bad, unless_bad, check_of, started, opened}
use Rattle.tape.specs.Verdict.{BadAfter, Verdict, OneVerdict}
use Rattle.std.specs.List.{position_from, position_or_len}
use Rattle.std.proofs.lemmas.Iterator.Adapters.{position_from-zero}
use Rattle.tape.proofs.Pieces.{pieces}
use Rattle.tape.proofs.Lines.{line_read, line_written, line_back, length_line}

pub length_tape : (lines : List (List Entry)) → AllLines lines → length (tape_bytes lines) ≡ 49 * length lines
length_tape [] good = refl
length_tape (l ∷ ls) (good, more) =
    length-append (line_bytes l) (tape_bytes ls) ∙ omega (arith, length_line l good, length_tape ls more)

-- The first bad line, line by line.

one_line : (b : Bool) (o : Option ℕ) (k : ℕ) → cond b (option_map (λ j. j + 1) o) (Some (k + 1)) ≡ option_map (λ j. j + 1) (cond (not b) (Some k) o)
one_line true o k = refl
one_line false o k = refl

bad_from : (n k : ℕ) (xs : List ℕ) → first_bad k n xs ≡ option_map (λ j. j + 1) (position_from (λ l. not (line_holds l)) k (pieces 49 n xs))
bad_from zero k xs = refl
bad_from (suc n) k xs =
    ap (λ o. cond (line_holds (take 49 xs)) o (Some (k + 1))) (bad_from n (k + 1) (drop 49 xs))
    ∙ one_line (line_holds (take 49 xs)) (position_from (λ l. not (line_holds l)) (k + 1) (pieces 49 n (drop 49 xs))) k

-- by the place of the first line that is none
pub first_bad_at : (xs : List ℕ) (r : Option ℕ) → r ≡ cond (ltb (position_or_len (λ l. not (line_holds l)) (pieces 49 (length xs / 49) xs)) (length (pieces 49 (length xs / 49) xs))) (Some (position_or_len (λ l. not (line_holds l)) (pieces 49 (length xs / 49) xs))) None → option_map (λ j. j + 1) r ≡ first_bad 0 (length xs / 49) xs
first_bad_at xs r e =
    let lines = pieces 49 (length xs / 49) xs in
    ap (option_map (λ j. j + 1)) (e ∙ position_from-zero (λ l. not (line_holds l)) lines) ∙ sym (bad_from (length xs / 49) 0 xs)

-- The check, case by case.

pub check_long : (bytes : List ℕ) → (65536 < length bytes) ⊎ (length bytes % 49 ≡ 0 → ⊥) → Err Length ≡ check_of bytes
unfolding check_of
check_long bytes v =
    ⊎_elim
    (λ (long : 65536 < length bytes). sym (cond-false (leb (length bytes) 65536) _ _ (lt-leb (length bytes) 65536 long)))
    (λ (odd : length bytes % 49 ≡ 0 → ⊥).
    cond_both (leb (length bytes) 65536) _ (Err Length) (λ (x : Result (Unit {0}) TapeFault). Err Length ≡ x)
    (λ _. sym (cond-false (eqb (length bytes % 49) 0) _ _ (ne_eqb (length bytes % 49) 0 odd)))
    (λ _. refl))
    v

pub check_short : (bytes : List ℕ) (o : Option ℕ) → length bytes ≤ 65536 → length bytes % 49 ≡ 0 → o ≡ first_bad 0 (length bytes / 49) bytes → unless_bad o ≡ check_of bytes
unfolding check_of
check_short bytes o short whole e =
    sym (cond-true (leb (length bytes) 65536) _ _ (le-leb (length bytes) 65536 short)
    ∙ cond-true (eqb (length bytes % 49) 0) _ _ (eq-eqb (length bytes % 49) 0 whole)
    ∙ ap unless_bad (sym e))

-- What is accepted or refused.

-- good lines, and behind them 49 bytes that are no line
record Stops (k j : ℕ) (xs : List ℕ) : Type 0 where
  before : List (List Entry)
  place : j ≡ k + length before + 1
  good : AllLines before
  next : List ℕ
  long : length next ≡ 49
  behind : List ℕ
  written : xs ≡ tape_bytes before ++ (next ++ behind)
  bad : line_holds next ≡ false

abbrev Outcome : ℕ → ℕ → List ℕ → Option ℕ → Type 0
Outcome k n xs None = (lines : List (List Entry)) × AllLines lines × (xs ≡ tape_bytes lines)
Outcome k n xs (Some j) = Stops k j xs

-- one good line in front
in_front : (k n : ℕ) (xs : List ℕ) (o : Option ℕ) → GoodLine (line_says (take 49 xs)) → take 49 xs ≡ line_bytes (line_says (take 49 xs)) → Outcome (k + 1) n (drop 49 xs) o → Outcome k (suc n) xs o
in_front k n xs None good e (lines, all, written) =
    let l = line_says (take 49 xs) in (
      l ∷ lines,
      (good, all),
      sym (take-append-drop 49 xs) ∙ ap (λ ys. ys ++ drop 49 xs) e ∙ ap (λ ys. line_bytes l ++ ys) written,
    )
in_front k n xs (Some j) good e s =
    let l = line_says (take 49 xs) in
    record {
      before = l ∷ s.before;
      place = s.place ∙ omega arith;
      good = (good, s.good);
      next = s.next;
      long = s.long;
      behind = s.behind;
      written = sym (take-append-drop 49 xs) ∙ ap (λ ys. ys ++ drop 49 xs) e ∙ ap (λ ys. line_bytes l ++ ys) s.written ∙ sym (append_assoc (line_bytes l) (tape_bytes s.before) (s.next ++ s.behind));
      bad = s.bad;
    }

outcome : (n k : ℕ) (xs : List ℕ) → length xs ≡ 49 * n → Outcome k n xs (first_bad k n xs)
outcome zero k xs long = ([], tt, nil_from_length xs (omega arith))
outcome (suc n) k xs long =
    let full : length (take 49 xs) ≡ 49 = length-take-le 49 xs (omega arith) in
    let left : length (drop 49 xs) ≡ 49 * n = simp length-drop (omega arith) in
    let P : Option ℕ → Type 0 = Outcome k (suc n) xs in
    cond_both (line_holds (take 49 xs)) (first_bad (k + 1) n (drop 49 xs)) (Some (k + 1)) P
    (λ t. let r = line_read (take 49 xs) full t in in_front k n xs (first_bad (k + 1) n (drop 49 xs)) r.0 r.1 (outcome n (k + 1) (drop 49 xs) left))
    (λ f. record {
      before = [];
      place = omega arith;
      good = tt;
      next = take 49 xs;
      long = full;
      behind = drop 49 xs;
      written = sym (take-append-drop 49 xs);
      bad = f;
    })

no_line : (xs : List ℕ) → line_holds xs ≡ false → (es : List Entry) → GoodLine es → xs ≡ line_bytes es → ⊥
no_line xs f es good e = true≢false (sym (line_written es good) ∙ ap line_holds (sym e) ∙ f)

verdict_at : (bytes : List ℕ) (n : ℕ) (o : Option ℕ) → length bytes ≤ 65536 → length bytes % 49 ≡ 0 → Outcome 0 n bytes o → Verdict bytes (started bytes (unless_bad o))
verdict_at bytes n None short whole (lines, all, e) = (refl, (lines, record { short = short; good = all; written = e }))
verdict_at bytes n (Some j) short whole s = (
  s.before,
  s.place ∙ omega arith,
  record {
    short = short;
    whole = whole;
    good = s.good;
    next = s.next;
    long = s.long;
    behind = s.behind;
    written = s.written;
    bad = no_line s.next s.bad;
  },
)

pub verdict_holds : (bytes : List ℕ) → Verdict bytes (opened bytes)
unfolding check_of
verdict_holds bytes =
    let P : Result (Unit {0}) TapeFault → Type 0 = λ r. Verdict bytes (started bytes r) in
    let n = length bytes / 49 in
    cond_both (leb (length bytes) 65536) _ (Err Length) P
    (λ s.
    cond_both (eqb (length bytes % 49) 0) (unless_bad (first_bad 0 n bytes)) (Err Length) P
    (λ w.
    let whole = eqb-true (length bytes % 49) 0 w in
    let long : length bytes ≡ 49 * n = omega arith in
    verdict_at bytes n (first_bad 0 n bytes) (leb-true (length bytes) 65536 s) whole (outcome n 0 bytes long))
    (λ w. inr (eqb-false (length bytes % 49) 0 w)))
    (λ s. inl (leb-false (length bytes) 65536 s))

-- what is accepted is a tape
pub accepted : (bytes : List ℕ) → Ok tt ≡ check_of bytes → (lines : List (List Entry)) × IsTape bytes lines
accepted bytes e =
    let P : Result State TapeFault → Type 0 = Verdict bytes in
    (subst P (ap (started bytes) (sym e)) (verdict_holds bytes)).1

-- No other verdict.

past_good : (before : List (List Entry)) (k m : ℕ) (xs : List ℕ) → AllLines before → first_bad k (length before + m) (tape_bytes before ++ xs) ≡ first_bad (k + length before) m xs
past_good [] k m xs good =
    let e : 0 + m ≡ m = omega arith in
    let f : k ≡ k + 0 = omega arith in
    ap (λ n. first_bad k n xs) e ∙ ap (λ n. first_bad n m xs) f
past_good (l ∷ ls) k m xs (good, more) =
    let e : suc (length ls) + m ≡ suc (length ls + m) = omega arith in
    let f : k + 1 + length ls ≡ k + suc (length ls) = omega arith in
    let all = append_assoc (line_bytes l) (tape_bytes ls) xs in
    let front = ap (take 49) all ∙ take_at (line_bytes l) (tape_bytes ls ++ xs) 49 (length_line l good) in
    let rest = ap (drop 49) all ∙ drop_at (line_bytes l) (tape_bytes ls ++ xs) 49 (length_line l good) in
    ap (λ n. first_bad k n (tape_bytes (l ∷ ls) ++ xs)) e
    ∙ cond-true (line_holds (take 49 (tape_bytes (l ∷ ls) ++ xs))) _ _ (ap line_holds front ∙ line_written l good)
    ∙ ap (first_bad (k + 1) (length ls + m)) rest
    ∙ past_good ls (k + 1) m xs more
    ∙ ap (λ n. first_bad n m xs) f

check_whole : (bytes : List ℕ) (n : ℕ) (o : Option ℕ) → length bytes ≤ 65536 → length bytes ≡ 49 * n → first_bad 0 n bytes ≡ o → check_of bytes ≡ unless_bad o
check_whole bytes n o short long e =
    let whole : length bytes % 49 ≡ 0 = omega arith in
    let count : length bytes / 49 ≡ n = omega arith in
    sym (check_short bytes o short whole (sym e ∙ ap (λ c. first_bad 0 c bytes) (sym count)))

pub tape_checked : (bytes : List ℕ) (lines : List (List Entry)) → IsTape bytes lines → check_of bytes ≡ Ok tt
tape_checked bytes lines t =
    let long = ap length t.written ∙ length_tape lines t.good in
    let n : length lines ≡ length lines + 0 = omega arith in
    let e =
    ap (first_bad 0 (length lines)) (t.written ∙ sym (append-nil (tape_bytes lines)))
    ∙ ap (λ m. first_bad 0 m (tape_bytes lines ++ [])) n
    ∙ past_good lines 0 0 [] t.good in
    check_whole bytes (length lines) None t.short long e

not_held : (xs : List ℕ) → length xs ≡ 49 → ((es : List Entry) → GoodLine es → xs ≡ line_bytes es → ⊥) → line_holds xs ≡ false
not_held xs long bad =
    ⊎_elim
    (λ (t : line_holds xs ≡ true). let r = line_read xs long t in absurd (bad (line_says xs) r.0 r.1))
    (λ f. f)
    (cases_Bool (line_holds xs))

bad_checked : (bytes : List ℕ) (before : List (List Entry)) → BadAfter bytes before → check_of bytes ≡ Err (Line (length before + 1))
bad_checked bytes before b =
    let xs = b.next ++ b.behind in
    let size : length bytes ≡ 49 * length before + (49 + length b.behind) =
    ap length b.written ∙ length-append (tape_bytes before) xs ∙ omega (arith, length_tape before b.good, length-append b.next b.behind, b.long) in
    let m : ℕ = length b.behind / 49 in
    let rest : length b.behind ≡ 49 * (length b.behind / 49) = omega (arith, b.whole) in
    let long : length bytes ≡ 49 * (length before + suc (length b.behind / 49)) = omega arith in
    let front = take_at b.next b.behind 49 b.long in
    let stop = cond-false (line_holds (take 49 xs)) (first_bad (0 + length before + 1) m (drop 49 xs)) (Some (0 + length before + 1)) (ap line_holds front ∙ not_held b.next b.long b.bad) in
    let place : 0 + length before + 1 ≡ length before + 1 = omega arith in
    let e = ap (first_bad 0 (length before + suc m)) b.written ∙ past_good before 0 (suc m) xs b.good ∙ stop ∙ ap Some place in
    check_whole bytes (length before + suc m) (Some (length before + 1)) b.short long e

pub verdict_alone : (bytes : List ℕ) (r : Result State TapeFault) → Verdict bytes r → r ≡ opened bytes
verdict_alone bytes (Ok s) (e, (lines, t)) = ap Ok e ∙ ap (started bytes) (sym (tape_checked bytes lines t))
verdict_alone bytes (Err Length) v = ap (started bytes) (check_long bytes v)
verdict_alone bytes (Err (Line k)) (before, e, b) =
    ap (λ n. Err (Line n)) e ∙ ap (started bytes) (sym (bad_checked bytes before b))

-- No two tapes are written alike.

same_lines : (ls ms : List (List Entry)) → AllLines ls → AllLines ms → tape_bytes ls ≡ tape_bytes ms → ls ≡ ms
same_lines [] [] good more e = refl
same_lines [] (m ∷ ms) good more e = let no : ⊥ = omega (arith, ap length e, length_tape (m ∷ ms) more) in absurd no
same_lines (l ∷ ls) [] good more e = let no : ⊥ = omega (arith, ap length e, length_tape (l ∷ ls) good) in absurd no
same_lines (l ∷ ls) (m ∷ ms) (good, goods) (more, mores) e =
    let front = sym (take_at (line_bytes l) (tape_bytes ls) 49 (length_line l good)) ∙ ap (take 49) e ∙ take_at (line_bytes m) (tape_bytes ms) 49 (length_line m more) in
    let rest = sym (drop_at (line_bytes l) (tape_bytes ls) 49 (length_line l good)) ∙ ap (drop 49) e ∙ drop_at (line_bytes m) (tape_bytes ms) 49 (length_line m more) in
    let p = sym (line_back l good) ∙ ap line_says front ∙ line_back m more in
    let q = same_lines ls ms goods mores rest in
    ap (λ x. x ∷ ls) p ∙ ap (λ xs. m ∷ xs) q

pub one_verdict : (bytes : List ℕ) → OneVerdict bytes
one_verdict bytes = record {
  holds = verdict_holds bytes;
  alone = verdict_alone bytes;
  once = λ ls ms t u. same_lines ls ms t.good u.good (sym t.written ∙ u.written);
}
