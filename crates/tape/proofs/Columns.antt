-- Fields are read as they are written. Assumes nothing.
use Rattle.std.proofs.Common.{◌≡◌, ℕ, zero, suc, ◌-◌, ◌<◌, ◌≤◌, Bool, true, false, not, cond, ◌||◌, ◌&&◌, eqb, leb, ltb, List, [], ◌∷◌, ◌++◌, length, get_or, replicate, decimal, option_map, Some, None, Option, sym, refl, ap, ◌∙◌, ⊎_elim, arith, lit<}
use Rattle.std.specs.Str.{all_ascii_digits}
use Rattle.std.specs.Str.Parse.{digits_value}
use Rattle.std.proofs.lemmas.Fmt.{decimal_digit, decimal_nonempty, first_decimal, digits_decimal, digits_value-decimal, decimal-digits_value, length-decimal-le}
use Rattle.std.proofs.lemmas.Str.Parse.{IsNumeralModel, numerals_by_value, tells_all_ascii_digits}
use Rattle.std.proofs.lemmas.List.{length-append, length-replicate}
use Rattle.std.proofs.lemmas.Bool.{le-leb, lt-ltb, ltb-true, leb-true, ne_eqb, eq-eqb, eqb-true, cond_both, cond-true, cond-false, and_parts, and_from, false≢true, cases_Bool, cases_eq}
use Rattle.tape.specs.Fields.{text_of, is_dash, is_numeral, value_of, numeral_of, field_of, stands, entry_of}
use Rattle.tape.specs.Format.{Entry, number, silent, justified, field_bytes, Fits}

own : IsNumeralModel (λ ds. all_ascii_digits ds ≡ true) (digits_value 10)
own = numerals_by_value _ tells_all_ascii_digits

-- What a numeral is.

record Numeral (text : List ℕ) : Type 0 where
  some : 0 < length text
  digits : all_ascii_digits text ≡ true
  lead : get_or text 0 0 ≡ 48 → length text ≡ 1
  most : digits_value 10 text < 65536

lead_from : (a n : ℕ) → (not (eqb a 48) || eqb n 1) ≡ true → a ≡ 48 → n ≡ 1
lead_from a n t e = eqb-true n 1 (sym (ap (λ b. not b || eqb n 1) (eq-eqb a 48 e)) ∙ t)

or_true : (b : Bool) → (b || true) ≡ true
or_true true = refl
or_true false = refl

lead_is : (a n : ℕ) → (a ≡ 48 → n ≡ 1) → (not (eqb a 48) || eqb n 1) ≡ true
lead_is a n f =
    ⊎_elim
    (λ (e : a ≡ 48). ap (λ b. not (eqb a 48) || b) (eq-eqb n 1 (f e)) ∙ or_true (not (eqb a 48)))
    (λ (ne : a ≡ 48 → ⊥). ap (λ b. not b || eqb n 1) (ne_eqb a 48 ne))
    (cases_eq a 48)

numeral_parts : (text : List ℕ) → is_numeral text ≡ true → Numeral text
numeral_parts text t =
    let one = and_parts (ltb 0 (length text)) _ t in
    let two = and_parts (all_ascii_digits text) _ one.1 in
    let three = and_parts (not (eqb (get_or text 0 0) 48) || eqb (length text) 1) _ two.1 in
    record {
      some = ltb-true 0 (length text) one.0;
      digits = two.0;
      lead = lead_from (get_or text 0 0) (length text) three.0;
      most = let most = leb-true (digits_value 10 text) 65535 three.1 in omega arith;
    }

numeral_is : (text : List ℕ) → Numeral text → is_numeral text ≡ true
numeral_is text n =
    and_from _ _ (lt-ltb 0 (length text) n.some)
    (and_from _ _ n.digits (and_from _ _ (lead_is (get_or text 0 0) (length text) n.lead) (le-leb (digits_value 10 text) 65535 (let most = n.most in omega arith))))

no_numeral : (text : List ℕ) → (Numeral text → ⊥) → numeral_of text ≡ None
no_numeral text none =
    ⊎_elim
    (λ (t : is_numeral text ≡ true). absurd (none (numeral_parts text t)))
    (λ (f : is_numeral text ≡ false). cond-false (is_numeral text) (Some (digits_value 10 text)) None f)
    (cases_Bool (is_numeral text))

some_numeral : (text : List ℕ) → Numeral text → Some (digits_value 10 text) ≡ numeral_of text
some_numeral text n = sym (cond-true (is_numeral text) (Some (digits_value 10 text)) None (numeral_is text n))

-- What the value of digits is to a text that is no numeral, and to one.

pub no_text : (text : List ℕ) → length text ≡ 0 → None ≡ numeral_of text
no_text text none = sym (no_numeral text (λ n. let some = n.some in omega arith))

pub leading_zero : (text : List ℕ) → get_or text 0 0 ≡ 48 → 1 < length text → None ≡ numeral_of text
leading_zero text e more = sym (no_numeral text (λ n. let one = n.lead e in omega arith))

pub by_value : (text : List ℕ) → 0 < length text → (get_or text 0 0 ≡ 48 → length text ≤ 1) → value_of text ≡ numeral_of text
by_value text some lead =
    let digits = all_ascii_digits text in
    let front = not (eqb (get_or text 0 0) 48) || eqb (length text) 1 in
    let most = leb (digits_value 10 text) 65535 in
    let one : length text ≤ 1 → length text ≡ 1 = λ h. omega arith in
    let e = lead_is (get_or text 0 0) (length text) (λ z. one (lead z)) in
    ap (λ b. cond b (Some (digits_value 10 text)) None)
    (sym (ap (λ b. b && (digits && (front && most))) (lt-ltb 0 (length text) some) ∙ ap (λ b. digits && (b && most)) e))

-- What columns say, by the text behind their blanks.

dash_is : (text : List ℕ) → length text ≡ 1 → get_or text 0 0 ≡ 45 → is_dash text ≡ true
dash_is [] one e = let none : ⊥ = omega arith in absurd none
dash_is (b ∷ []) one e = eq-eqb b 45 e
dash_is (b ∷ (c ∷ bs)) one e = let none : ⊥ = omega arith in absurd none

no_dash : (text : List ℕ) → (length text ≡ 1 → get_or text 0 0 ≡ 45 → ⊥) → is_dash text ≡ false
no_dash [] other = refl
no_dash (b ∷ []) other = ne_eqb b 45 (other refl)
no_dash (b ∷ (c ∷ bs)) other = refl

pub says_dash : (columns text : List ℕ) → text ≡ text_of columns → length text ≡ 1 → get_or text 0 0 ≡ 45 → Some silent ≡ field_of columns
unfolding field_of
says_dash columns text e one d =
    sym (cond-true (is_dash (text_of columns)) (Some silent) (option_map number (numeral_of (text_of columns))) (sym (ap is_dash e) ∙ dash_is text one d))

pub says_number : (columns text : List ℕ) → text ≡ text_of columns → (length text ≡ 1 → get_or text 0 0 ≡ 45 → ⊥) → option_map number (numeral_of text) ≡ field_of columns
unfolding field_of
says_number columns text e other =
    ap (λ t. option_map number (numeral_of t)) e
    ∙ sym (cond-false (is_dash (text_of columns)) (Some silent) (option_map number (numeral_of (text_of columns))) (sym (ap is_dash e) ∙ no_dash text other))

-- What is written is read.

blanks_off : (k : ℕ) (text : List ℕ) → text_of (replicate k 32 ++ text) ≡ text_of text
blanks_off zero text = refl
blanks_off (suc k) text = blanks_off k text

-- digits begin with no blank, and are no dash
digit_from : (d : ℕ) (ds : List ℕ) → all_ascii_digits (d ∷ ds) ≡ true → 48 ≤ d
digit_from d ds t = (tells_all_ascii_digits.parts d ds t).0.0

digits_text : (ds : List ℕ) → all_ascii_digits ds ≡ true → text_of ds ≡ ds
digits_text [] t = refl
digits_text (d ∷ ds) t =
    let low = digit_from d ds t in cond-false (eqb d 32) (text_of ds) (d ∷ ds) (ne_eqb d 32 (λ e. omega arith))

digits_no_dash : (ds : List ℕ) → all_ascii_digits ds ≡ true → is_dash ds ≡ false
digits_no_dash [] t = refl
digits_no_dash (d ∷ []) t = let low = digit_from d [] t in ne_eqb d 45 (λ e. omega arith)
digits_no_dash (d ∷ (c ∷ ds)) t = refl

decimal_lead : (n : ℕ) → n < 65536 → get_or (decimal n) 0 0 ≡ 48 → length (decimal n) ≡ 1
decimal_lead zero h e = ap length (decimal_digit 0 (lit< tt))
decimal_lead (suc n) h e = let first = first_decimal (suc n) (omega arith) (omega arith) in let none : ⊥ = omega arith in absurd none

decimal_numeral : (n : ℕ) → n < 65536 → Numeral (decimal n)
decimal_numeral n h =
    let value = digits_value-decimal own n (omega arith) in
    record {
      some = decimal_nonempty n (omega arith);
      digits = digits_decimal own n (omega arith);
      lead = decimal_lead n h;
      most = omega arith;
    }

pub field_written : (e : Entry) → Fits e → field_of (field_bytes e) ≡ Some e
unfolding field_of
field_written (number n) h =
    let text = decimal n in
    let numeral = decimal_numeral n h in
    let e = blanks_off (6 - length text) text ∙ digits_text text numeral.digits in
    ap (λ t. cond (is_dash t) (Some silent) (option_map number (numeral_of t))) e
    ∙ cond-false (is_dash text) (Some silent) (option_map number (numeral_of text)) (digits_no_dash text numeral.digits)
    ∙ ap (option_map number) (sym (some_numeral text numeral))
    ∙ ap (λ v. Some (number v)) (digits_value-decimal own n (omega arith))
field_written silent h = refl

-- a field has six columns
pub length_field : (e : Entry) → Fits e → length (field_bytes e) ≡ 6
length_field (number n) h =
    let short : length (decimal n) ≤ 5 = length-decimal-le 5 n (lit< tt) (omega arith) (omega arith) in
    simp (length-append, length-replicate) (omega arith)
length_field silent h = refl

-- What is read is written.

-- columns are blanks and the text behind them
behind_blanks : (xs : List ℕ) → (k : ℕ) × (xs ≡ replicate k 32 ++ text_of xs)
behind_blanks [] = (0, refl)
behind_blanks (x ∷ xs) =
    cond_both (eqb x 32) (text_of xs) (x ∷ xs) (λ (t : List ℕ). (k : ℕ) × (x ∷ xs ≡ replicate k 32 ++ t))
    (λ blank. let r = behind_blanks xs in (suc r.0, ap (λ y. y ∷ xs) (eqb-true x 32 blank) ∙ ap (λ ys. 32 ∷ ys) r.1))
    (λ _. (0, refl))

justify : (xs text : List ℕ) (k : ℕ) → xs ≡ replicate k 32 ++ text → length xs ≡ 6 → xs ≡ justified text
justify xs text k e six =
    let n : k ≡ 6 - length text = omega (arith, simp (length-append, length-replicate) at (ap length e)) in
    e ∙ ap (λ j. replicate j 32 ++ text) n

dash_text : (text : List ℕ) → is_dash text ≡ true → text ≡ 45 ∷ []
dash_text [] t = absurd (false≢true t)
dash_text (b ∷ []) t = ap (λ x. x ∷ []) (eqb-true b 45 t)
dash_text (b ∷ (c ∷ bs)) t = absurd (false≢true t)

numeral_text : (text : List ℕ) → Numeral text → decimal (digits_value 10 text) ≡ text
numeral_text text n = decimal-digits_value own text n.digits n.some n.lead (let most = n.most in omega arith)

-- what columns that say an entry are
abbrev Form : List ℕ → Option Entry → Type 0
Form xs None = Unit {0}
Form xs (Some e) = Fits e × (xs ≡ field_bytes e)

form_of : (xs : List ℕ) → length xs ≡ 6 → Form xs (field_of xs)
unfolding field_of
form_of xs six =
    let r = behind_blanks xs in
    let text = text_of xs in
    cond_both (is_dash text) (Some silent) (option_map number (numeral_of text)) (Form xs)
    (λ dash. (tt, justify xs (45 ∷ []) r.0 (r.1 ∙ ap (λ t. replicate r.0 32 ++ t) (dash_text text dash)) six))
    (λ _.
    cond_both (is_numeral text) (Some (digits_value 10 text)) None (λ (o : Option ℕ). Form xs (option_map number o))
    (λ t.
    let n = numeral_parts text t in
    (n.most, justify xs (decimal (digits_value 10 text)) r.0 (r.1 ∙ ap (λ t. replicate r.0 32 ++ t) (sym (numeral_text text n))) six))
    (λ _. tt))

from_form : (xs : List ℕ) (f : Option Entry) → Form xs f → stands f ≡ true → Fits (entry_of f) × (xs ≡ field_bytes (entry_of f))
from_form xs None form t = absurd (false≢true t)
from_form xs (Some e) form t = form

-- six columns that say something are what it is written as
pub field_read : (xs : List ℕ) → length xs ≡ 6 → stands (field_of xs) ≡ true → Fits (entry_of (field_of xs)) × (xs ≡ field_bytes (entry_of (field_of xs)))
field_read xs six = from_form xs (field_of xs) (form_of xs six)
