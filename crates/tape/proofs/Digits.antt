-- The digits of a number below 65,536, and its field. Assumes nothing.
use Rattle.std.proofs.Common.{◌≡◌, ℕ, ◌+◌, ◌/◌, ◌%◌, ◌<◌, ◌≤◌, List, [], ◌∷◌, ◌++◌, decimal, sym, refl, ap, ◌∙◌, arith}
use Rattle.std.proofs.lemmas.Fmt.{decimal_digit, decimal_step}
use Rattle.tape.specs.Format.{justified}

-- one digit behind the digits of a tenth
longer : (n m : ℕ) (ds : List ℕ) → 10 ≤ n → n < 65536 → n / 10 ≡ m → decimal m ≡ ds → decimal n ≡ ds ++ ((48 + n % 10) ∷ [])
longer n m ds ten most e d =
    decimal_step n ten (omega arith) ∙ ap (λ x. decimal x ++ ((48 + n % 10) ∷ [])) e ∙ ap (λ xs. xs ++ ((48 + n % 10) ∷ [])) d

one : (n : ℕ) → n < 10 → decimal n ≡ (48 + n % 10) ∷ []
one n h = let e : n % 10 ≡ n = omega arith in decimal_digit n h ∙ ap (λ x. (48 + x) ∷ []) (sym e)

two : (n : ℕ) → 10 ≤ n → n < 100 → decimal n ≡ (48 + n / 10 % 10) ∷ ((48 + n % 10) ∷ [])
two n low high = longer n (n / 10) _ low (omega arith) refl (one (n / 10) (omega arith))

three : (n : ℕ) → 100 ≤ n → n < 1000 → decimal n ≡ (48 + n / 100 % 10) ∷ ((48 + n / 10 % 10) ∷ ((48 + n % 10) ∷ []))
three n low high =
    let e : n / 10 / 10 ≡ n / 100 = omega arith in
    longer n (n / 10) _ (omega arith) (omega arith) refl (two (n / 10) (omega arith) (omega arith) ∙ ap (λ x. (48 + x % 10) ∷ ((48 + n / 10 % 10) ∷ [])) e)

four : (n : ℕ) → 1000 ≤ n → n < 10000 → decimal n ≡ (48 + n / 1000 % 10) ∷ ((48 + n / 100 % 10) ∷ ((48 + n / 10 % 10) ∷ ((48 + n % 10) ∷ [])))
four n low high =
    let e : n / 10 / 10 ≡ n / 100 = omega arith in
    let f : n / 10 / 100 ≡ n / 1000 = omega arith in
    longer n (n / 10) _ (omega arith) (omega arith) refl
    (three (n / 10) (omega arith) (omega arith)
    ∙ ap (λ x. (48 + x % 10) ∷ ((48 + n / 10 / 10 % 10) ∷ ((48 + n / 10 % 10) ∷ []))) f
    ∙ ap (λ x. (48 + n / 1000 % 10) ∷ ((48 + x % 10) ∷ ((48 + n / 10 % 10) ∷ []))) e)

five : (n : ℕ) → 10000 ≤ n → n < 65536 → decimal n ≡ (48 + n / 10000 % 10) ∷ ((48 + n / 1000 % 10) ∷ ((48 + n / 100 % 10) ∷ ((48 + n / 10 % 10) ∷ ((48 + n % 10) ∷ []))))
five n low high =
    let e : n / 10 / 10 ≡ n / 100 = omega arith in
    let f : n / 10 / 100 ≡ n / 1000 = omega arith in
    let g : n / 10 / 1000 ≡ n / 10000 = omega arith in
    longer n (n / 10) _ (omega arith) (omega arith) refl
    (four (n / 10) (omega arith) (omega arith)
    ∙ ap (λ x. (48 + x % 10) ∷ ((48 + n / 10 / 100 % 10) ∷ ((48 + n / 10 / 10 % 10) ∷ ((48 + n / 10 % 10) ∷ [])))) g
    ∙ ap (λ x. (48 + n / 10000 % 10) ∷ ((48 + x % 10) ∷ ((48 + n / 10 / 10 % 10) ∷ ((48 + n / 10 % 10) ∷ [])))) f
    ∙ ap (λ x. (48 + n / 10000 % 10) ∷ ((48 + n / 1000 % 10) ∷ ((48 + x % 10) ∷ ((48 + n / 10 % 10) ∷ [])))) e)

-- The fields, digit by digit.

pub field_1 : (n e : ℕ) → e ≡ 48 + n % 10 → n < 10 → 32 ∷ (32 ∷ (32 ∷ (32 ∷ (32 ∷ (e ∷ []))))) ≡ justified (decimal n)
field_1 n e e-is high = let t = one n high in let s : e ∷ [] ≡ decimal n = cc in ap justified s

pub field_2 : (n d e : ℕ) → d ≡ 48 + n / 10 % 10 → e ≡ 48 + n % 10 → 10 ≤ n → n < 100 → 32 ∷ (32 ∷ (32 ∷ (32 ∷ (d ∷ (e ∷ []))))) ≡ justified (decimal n)
field_2 n d e d-is e-is low high =
    let t = two n low high in let s : d ∷ (e ∷ []) ≡ decimal n = cc in ap justified s

pub field_3 : (n c d e : ℕ) → c ≡ 48 + n / 100 % 10 → d ≡ 48 + n / 10 % 10 → e ≡ 48 + n % 10 → 100 ≤ n → n < 1000 → 32 ∷ (32 ∷ (32 ∷ (c ∷ (d ∷ (e ∷ []))))) ≡ justified (decimal n)
field_3 n c d e c-is d-is e-is low high =
    let t = three n low high in let s : c ∷ (d ∷ (e ∷ [])) ≡ decimal n = cc in ap justified s

pub field_4 : (n b c d e : ℕ) → b ≡ 48 + n / 1000 % 10 → c ≡ 48 + n / 100 % 10 → d ≡ 48 + n / 10 % 10 → e ≡ 48 + n % 10 → 1000 ≤ n → n < 10000 → 32 ∷ (32 ∷ (b ∷ (c ∷ (d ∷ (e ∷ []))))) ≡ justified (decimal n)
field_4 n b c d e b-is c-is d-is e-is low high =
    let t = four n low high in let s : b ∷ (c ∷ (d ∷ (e ∷ []))) ≡ decimal n = cc in ap justified s

pub field_5 : (n a b c d e : ℕ) → a ≡ 48 + n / 10000 % 10 → b ≡ 48 + n / 1000 % 10 → c ≡ 48 + n / 100 % 10 → d ≡ 48 + n / 10 % 10 → e ≡ 48 + n % 10 → 10000 ≤ n → n < 65536 → 32 ∷ (a ∷ (b ∷ (c ∷ (d ∷ (e ∷ []))))) ≡ justified (decimal n)
field_5 n a b c d e a-is b-is c-is d-is e-is low high =
    let t = five n low high in let s : a ∷ (b ∷ (c ∷ (d ∷ (e ∷ [])))) ≡ decimal n = cc in ap justified s

-- A line, field by field.
