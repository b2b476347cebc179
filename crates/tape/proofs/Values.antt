-- What digits write, digit by digit. Assumes nothing.
use Rattle.std.proofs.Common.{◌≡◌, ℕ, ◌+◌, ◌*◌, ◌<◌, ◌≤◌, Bool, true, false, ◌&&◌, leb, List, [], ◌∷◌, length, get_or, drop, Some, None, sym, refl, ap, ◌∙◌, arith}
use Rattle.std.specs.Char.{digit_value}
use Rattle.std.specs.Str.{all_ascii_digits}
use Rattle.std.specs.Str.Parse.{digits_value, digits_value_after}
use Rattle.std.proofs.lemmas.List.{drop_more, drop_all}
use Rattle.std.proofs.lemmas.Bool.{le-leb, lt-leb, cond-true, cond-false}
use Rattle.tape.specs.Fields.{value_of}

after_ge : (n : ℕ) (ds : List ℕ) → n ≤ digits_value_after 10 n ds
after_ge n [] = omega arith
after_ge n (c ∷ cs) = let more = after_ge (n * 10 + digit_value c) cs in omega arith

and_no : (b : Bool) → (b && false) ≡ false
and_no true = refl
and_no false = refl

too_large : (text : List ℕ) → 65535 < digits_value 10 text → None ≡ value_of text
too_large text h =
    sym
    (cond-false (all_ascii_digits text && leb (digits_value 10 text) 65535) (Some (digits_value 10 text)) None
    (ap (λ b. all_ascii_digits text && b) (lt-leb (digits_value 10 text) 65535 h) ∙ and_no (all_ascii_digits text)))

-- the digits so far write more than is allowed
pub grows : (text : List ℕ) (v i : ℕ) → i < length text → digits_value_after 10 v (drop i text) ≡ digits_value 10 text → 65535 < v * 10 + digit_value (get_or text i 0) → None ≡ value_of text
grows text v i h e over =
    let d = get_or text i 0 in
    let next : digits_value_after 10 v (drop i text) ≡ digits_value_after 10 (v * 10 + digit_value d) (drop (i + 1) text) = ap (digits_value_after 10 v) (drop_more text i 0 h) in
    let most = after_ge (v * 10 + digit_value d) (drop (i + 1) text) in
    too_large text (omega arith)

-- all digits are read
pub all_read : (text : List ℕ) (v i : ℕ) → length text ≤ i → v ≤ 65535 → all_ascii_digits (drop i text) ≡ all_ascii_digits text → digits_value_after 10 v (drop i text) ≡ digits_value 10 text → Some v ≡ value_of text
all_read text v i end most digits e =
    let none = drop_all i text end in
    let good : all_ascii_digits text ≡ true = sym digits ∙ ap all_ascii_digits none in
    let is : v ≡ digits_value 10 text = sym (ap (digits_value_after 10 v) none) ∙ e in
    let small : digits_value 10 text ≤ 65535 = omega arith in
    ap Some is
    ∙ sym
    (cond-true (all_ascii_digits text && leb (digits_value 10 text) 65535) (Some (digits_value 10 text)) None
    (ap (λ b. b && leb (digits_value 10 text) 65535) good ∙ le-leb (digits_value 10 text) 65535 small))
