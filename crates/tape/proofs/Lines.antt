-- A line, field by field. Assumes nothing.
use Rattle.std.proofs.Common.{◌≡◌, ℕ, zero, suc, ◌+◌, ◌*◌, ◌/◌, ◌<◌, ◌&&◌, Bool, true, false, cond, eqb, List, [], ◌∷◌, ◌++◌, length, get_or, take, drop, sym, refl, ap, ◌∙◌, arith}
use Rattle.std.proofs.lemmas.List.{append_assoc, drop-drop, get_or-drop, take-append-drop, take_at, drop_at, length-append, length-take-le, length-drop, nil_from_length}
use Rattle.std.proofs.lemmas.Bool.{eqb-true, false≢true}
use Rattle.tape.specs.Fields.{field_of, stands, entry_of, line_good, line_holds, entries_of, line_says}
use Rattle.tape.specs.Format.{Entry, silent, Fits, AllFit, Line, field_bytes, fields_bytes, line_bytes}
use Rattle.std.specs.List.{list_all}
use Rattle.tape.proofs.Pieces.{pieces}
use Rattle.tape.proofs.Columns.{field_read, field_written, length_field}

-- fields that stand, one behind the other, and what is behind them
fields_stand : (b : Bool) (d e : Bool) → cond b (d && e) false ≡ ((b && d) && e)
fields_stand true d e = refl
fields_stand false d e = refl

good_by_fields : (n : ℕ) (xs : List ℕ) → line_good n xs ≡ (list_all (λ f. stands (field_of f)) (pieces 6 n xs) && eqb (get_or xs (6 * n) 0) 10)
good_by_fields zero xs = refl
good_by_fields (suc n) xs =
    let e : 6 + 6 * n ≡ 6 * suc n = omega arith in
    ap (λ b. cond (stands (field_of (take 6 xs))) b false) (good_by_fields n (drop 6 xs))
    ∙ fields_stand (stands (field_of (take 6 xs))) (list_all (λ f. stands (field_of f)) (pieces 6 n (drop 6 xs))) (eqb (get_or (drop 6 xs) (6 * n) 0) 10)
    ∙ ap (λ b. list_all (λ f. stands (field_of f)) (pieces 6 (suc n) xs) && eqb b 10) (get_or-drop 6 xs (6 * n) 0 ∙ ap (λ j. get_or xs j 0) e)

-- by whether its fields stand
pub holds_by_fields : (xs : List ℕ) (b : Bool) → length xs ≡ 49 → b ≡ list_all (λ f. stands (field_of f)) (pieces 6 (length xs / 6) xs) → (b && eqb (get_or xs 48 0) 10) ≡ line_holds xs
unfolding line_holds
holds_by_fields xs b long e =
    let n : length xs / 6 ≡ 8 = omega arith in
    ap (λ d. d && eqb (get_or xs 48 0) 10) (e ∙ ap (λ k. list_all (λ f. stands (field_of f)) (pieces 6 k xs)) n) ∙ sym (good_by_fields 8 xs)

-- Lines are read as they are written.

one_feed : (xs : List ℕ) → length xs ≡ 1 → eqb (get_or xs 0 0) 10 ≡ true → xs ≡ 10 ∷ []
one_feed [] long t = let no : ⊥ = omega arith in absurd no
one_feed (x ∷ xs) long t =
    let none : length xs ≡ 0 = omega arith in
    ap (λ y. y ∷ xs) (eqb-true x 10 t) ∙ ap (λ ys. 10 ∷ ys) (nil_from_length xs none)

cond_parts : (b d : Bool) → cond b d false ≡ true → (b ≡ true) × (d ≡ true)
cond_parts true d t = (refl, t)
cond_parts false d t = absurd (false≢true t)

-- n fields with a line feed behind them
record Written (n : ℕ) (xs : List ℕ) (es : List Entry) : Type 0 where
  count : length es ≡ n
  fit : AllFit es
  written : xs ≡ fields_bytes es ++ (10 ∷ [])

fields_read : (n : ℕ) (xs : List ℕ) → length xs ≡ 6 * n + 1 → line_good n xs ≡ true → Written n xs (entries_of n xs)
fields_read zero xs long t = record { count = refl; fit = tt; written = one_feed xs long t }
fields_read (suc n) xs long t =
    let both = cond_parts (stands (field_of (take 6 xs))) (line_good n (drop 6 xs)) t in
    let six : length (take 6 xs) ≡ 6 = length-take-le 6 xs (omega arith) in
    let left : length (drop 6 xs) ≡ 6 * n + 1 = simp length-drop (omega arith) in
    let one = field_read (take 6 xs) six both.0 in
    let rest = fields_read n (drop 6 xs) left both.1 in
    let es = entries_of n (drop 6 xs) in
    let f = field_bytes (entry_of (field_of (take 6 xs))) in
    record {
      count = ap suc rest.count;
      fit = (one.0, rest.fit);
      written = sym (take-append-drop 6 xs) ∙ ap (λ ys. ys ++ drop 6 xs) one.1 ∙ ap (λ ys. f ++ ys) rest.written ∙ sym (append_assoc f (fields_bytes es) (10 ∷ []));
    }

-- what a line says is a line, and the bytes are what it is written as
pub line_read : (xs : List ℕ) → length xs ≡ 49 → line_holds xs ≡ true → Line (line_says xs) × (xs ≡ line_bytes (line_says xs))
unfolding line_holds line_says
line_read xs long t =
    let r = fields_read 8 xs long t in (record { eight = r.count; fit = r.fit }, r.written)

-- a written line holds, and says what was written
record Back (n : ℕ) (es : List Entry) : Type 0 where
  holds : line_good n (line_bytes es) ≡ true
  says : entries_of n (line_bytes es) ≡ es

front : (e : Entry) (es : List Entry) → Fits e → take 6 (line_bytes (e ∷ es)) ≡ field_bytes e
front e es fit =
    ap (take 6) (append_assoc (field_bytes e) (fields_bytes es) (10 ∷ [])) ∙ take_at (field_bytes e) (line_bytes es) 6 (length_field e fit)

behind : (e : Entry) (es : List Entry) → Fits e → drop 6 (line_bytes (e ∷ es)) ≡ line_bytes es
behind e es fit =
    ap (drop 6) (append_assoc (field_bytes e) (fields_bytes es) (10 ∷ [])) ∙ drop_at (field_bytes e) (line_bytes es) 6 (length_field e fit)

fields_back : (n : ℕ) (es : List Entry) → length es ≡ n → AllFit es → Back n es
fields_back zero [] count fit = record { holds = refl; says = refl }
fields_back zero (e ∷ es) count fit = let no : ⊥ = omega arith in absurd no
fields_back (suc n) [] count fit = let no : ⊥ = omega arith in absurd no
fields_back (suc n) (e ∷ es) count (fit, fits) =
    let rest = fields_back n es (omega arith) fits in
    let f = ap field_of (front e es fit) ∙ field_written e fit in
    record {
      holds = ap (λ x. cond (stands x) (line_good n (drop 6 (line_bytes (e ∷ es)))) false) f
          ∙ ap (line_good n) (behind e es fit) ∙ rest.holds;
      says = ap (λ x. entry_of x ∷ entries_of n (drop 6 (line_bytes (e ∷ es)))) f
          ∙ ap (λ ys. e ∷ entries_of n ys) (behind e es fit) ∙ ap (λ ys. e ∷ ys) rest.says;
    }

pub line_written : (es : List Entry) → Line es → line_holds (line_bytes es) ≡ true
unfolding line_holds
line_written es l = (fields_back 8 es l.eight l.fit).holds

pub line_back : (es : List Entry) → Line es → line_says (line_bytes es) ≡ es
unfolding line_says
line_back es l = (fields_back 8 es l.eight l.fit).says

length_fields : (es : List Entry) → AllFit es → length (fields_bytes es) ≡ 6 * length es
length_fields [] fit = refl
length_fields (e ∷ es) (fit, fits) =
    length-append (field_bytes e) (fields_bytes es) ∙ omega (arith, length_field e fit, length_fields es fits)

pub length_line : (es : List Entry) → Line es → length (line_bytes es) ≡ 49
length_line es l =
    length-append (fields_bytes es) (10 ∷ []) ∙ omega (arith, length_fields es l.fit, l.eight)

-- entry k is read from its six columns
pub entry_at : (n k : ℕ) (xs : List ℕ) → k < n → get_or (entries_of n xs) k silent ≡ entry_of (field_of (take 6 (drop (6 * k) xs)))
entry_at zero k xs h = let no : ⊥ = omega arith in absurd no
entry_at (suc n) zero xs h = refl
entry_at (suc n) (suc k) xs h =
    let e : 6 + 6 * k ≡ 6 * suc k = omega arith in
    entry_at n k (drop 6 xs) (omega arith) ∙ ap (λ ys. entry_of (field_of (take 6 ys))) (drop-drop (6 * k) 6 xs ∙ ap (λ j. drop j xs) e)
