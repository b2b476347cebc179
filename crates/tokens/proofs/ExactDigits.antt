-- What a value of digits says of the digits, and back. Assumes nothing.
use Rattle.std.proofs.Common.{◌≡◌, ℕ, suc, ◌+◌, ◌*◌, ◌≤◌, Bool, true, false, cond, List, [], ◌∷◌, ◌++◌, length, Some, None, Ok, Err, Option, Result, sym, refl, ap, ◌∙◌, arith}
use Rattle.std.proofs.lemmas.Bool.{cond-true}
use Rattle.std.proofs.lemmas.Bool.Decides.{nat_tests}
use Rattle.std.proofs.lemmas.Option.{none-some}
use Rattle.tokens.specs.declared.WordFault.{WordFault}
use Rattle.tokens.specs.Numbers.{between, digit, value_after, value_of, ranged, shaped}
use Rattle.tokens.specs.Listed.{dec, Value, Two, Three}

-- one way or the other of a test
module _ {A P : Type 0} where
  pub split : (t : Bool) (r s : Result A WordFault) (x : A) → cond t r s ≡ Ok x → (t ≡ true → r ≡ Ok x → P) → (t ≡ false → s ≡ Ok x → P) → P
  split true r s x e p q = p refl e
  split false r s x e p q = q refl e

pub err_ok : {A : Type 0} {P : Type 0} (f : WordFault) (x : A) → Err f ≡ Ok x → P
err_ok f x e = let z : ◌≡◌ {A = ℕ} 0 1 = cc in absurd (omega arith)

-- a value in a range
module _ {A : Type 0} (t : ℕ → Bool) (y : ℕ → A) where
  abbrev pub within : ℕ → Option A
  within v = cond (t v) (Some (y v)) None

  in_range : (b : Bool) (a x : A) → ranged (cond b (Some a) None) ≡ Ok x → (b ≡ true) × (x ≡ a)
  in_range true a x e = (refl, cc)
  in_range false a x e = err_ok _ x e

  pub range_of : (o : Option ℕ) (x : A) → shaped within o ≡ Ok x → (v : ℕ) × (o ≡ Some v) × (t v ≡ true) × (x ≡ y v)
  range_of None x e = err_ok _ x e
  range_of (Some v) x e = let r = in_range (t v) (y v) x e in (v, refl, r.0, r.1)

  pub of_range : (o : Option ℕ) (v : ℕ) → o ≡ Some v → t v ≡ true → shaped within o ≡ Ok (y v)
  of_range o v e h = rw (e, h)

-- the number of digits
module _ (radix lo hi : ℕ) where
  long_enough : (b : Bool) (o : Option ℕ) (v : ℕ) → cond b o None ≡ Some v → (b ≡ true) × (o ≡ Some v)
  long_enough true o v e = (refl, e)
  long_enough false o v e = absurd (none-some v e)

  pub value_parts : (ds : List ℕ) (v : ℕ) → value_of radix lo hi ds ≡ Some v → (lo ≤ length ds) × (length ds ≤ hi) × Value radix ds v
  unfolding value_of
  value_parts ds v e =
      let p = long_enough (between lo hi (length ds)) (value_after radix 0 ds) v e in
      let q = p.0 in
      (grind (arith, nat_tests), grind (arith, nat_tests), p.1)

  pub value_from : (ds : List ℕ) (v : ℕ) → lo ≤ length ds → length ds ≤ hi → Value radix ds v → value_of radix lo hi ds ≡ Some v
  unfolding value_of
  value_from ds v p q e =
      let h : between lo hi (length ds) ≡ true = grind (arith, nat_tests) in
      cond-true _ _ _ h ∙ e

-- one digit
digit_is : (b d : ℕ) → digit 10 b ≡ Some d → (d ≤ 9) × (b ≡ dec d)
digit_is b d e = (grind (arith, nat_tests), grind (arith, nat_tests))

is_digit : (d : ℕ) → d ≤ 9 → digit 10 (dec d) ≡ Some d
is_digit d h = grind (arith, nat_tests)

pub more_digits : (v d : ℕ) (ds : List ℕ) → d ≤ 9 → value_after 10 v (dec d ∷ ds) ≡ value_after 10 (v * 10 + d) ds
more_digits v d ds h = rw (value_after, is_digit d h)

-- the first of n + 1 digits
pub record First (n v x : ℕ) (ds : List ℕ) : Type 0 where
  pub first : ℕ
  pub rest : List ℕ
  pub first_digit : first ≤ 9
  pub spelled : ds ≡ dec first ∷ rest
  pub long : length rest ≡ n
  pub value : value_after 10 (v * 10 + first) rest ≡ Some x

pub first_of : (n v x : ℕ) (ds : List ℕ) → length ds ≡ suc n → value_after 10 v ds ≡ Some x → First n v x ds
first_of n v x [] l e = absurd (omega arith)
first_of n v x (b ∷ ds) l e = go (digit 10 b) refl e
  where
    go : (o : Option ℕ) → digit 10 b ≡ o → elim o [ None ↦ None | Some d ↦ value_after 10 (v * 10 + d) ds ] ≡ Some x → First n v x (b ∷ ds)
    go None h e = absurd (none-some x e)
    go (Some d) h e =
        let p = digit_is b d h in
        record { first = d; rest = ds; first_digit = p.0; spelled = ap (λ a. a ∷ ds) p.1; long = omega arith; value = e }

pub last_of : (v x : ℕ) (ds : List ℕ) → length ds ≡ 0 → value_after 10 v ds ≡ Some x → (ds ≡ []) × (x ≡ v)
last_of v x [] l e = (refl, cc)
last_of v x (b ∷ ds) l e = absurd (omega arith)

-- one, two, three and four digits, from their value
pub one_from : (ds : List ℕ) (v : ℕ) → value_of 10 1 1 ds ≡ Some v → (v ≤ 9) × (ds ≡ dec v ∷ [])
one_from ds v e =
    let p = value_parts 10 1 1 ds v e in
    let a = first_of 0 0 v ds (omega arith) p.2 in
    let z = last_of (0 * 10 + a.first) v a.rest a.long a.value in
    let same : a.first ≡ v = omega arith in
    (omega arith, cc)

pub two_from : (ds : List ℕ) (v : ℕ) → value_of 10 2 2 ds ≡ Some v → Two ds v
two_from ds v e =
    let p = value_parts 10 2 2 ds v e in
    let a = first_of 1 0 v ds (omega arith) p.2 in
    let b = first_of 0 (0 * 10 + a.first) v a.rest a.long a.value in
    let z = last_of ((0 * 10 + a.first) * 10 + b.first) v b.rest b.long b.value in
    record { tens = a.first; ones = b.first; tens_digit = a.first_digit; ones_digit = b.first_digit; spelled = cc; value = omega arith }

pub three_from : (ds : List ℕ) (v : ℕ) → value_of 10 3 3 ds ≡ Some v → Three ds v
three_from ds v e =
    let p = value_parts 10 3 3 ds v e in
    let a = first_of 2 0 v ds (omega arith) p.2 in
    let b = first_of 1 (0 * 10 + a.first) v a.rest a.long a.value in
    let c = first_of 0 ((0 * 10 + a.first) * 10 + b.first) v b.rest b.long b.value in
    let z = last_of (((0 * 10 + a.first) * 10 + b.first) * 10 + c.first) v c.rest c.long c.value in
    record {
      hundreds = a.first;
      tens = b.first;
      ones = c.first;
      hundreds_digit = a.first_digit;
      tens_digit = b.first_digit;
      ones_digit = c.first_digit;
      spelled = cc;
      value = omega arith;
    }

-- three digits and one more
pub record Four (ds : List ℕ) (v : ℕ) : Type 0 where
  pub front : List ℕ
  pub high : ℕ
  pub low : ℕ
  pub front_digits : Three front high
  pub low_digit : low ≤ 9
  pub spelled : ds ≡ front ++ dec low ∷ []
  pub value : v ≡ 10 * high + low

pub four_from : (ds : List ℕ) (v : ℕ) → value_of 10 4 4 ds ≡ Some v → Four ds v
four_from ds v e =
    let p = value_parts 10 4 4 ds v e in
    let a = first_of 3 0 v ds (omega arith) p.2 in
    let b = first_of 2 (0 * 10 + a.first) v a.rest a.long a.value in
    let c = first_of 1 ((0 * 10 + a.first) * 10 + b.first) v b.rest b.long b.value in
    let d = first_of 0 (((0 * 10 + a.first) * 10 + b.first) * 10 + c.first) v c.rest c.long c.value in
    let z = last_of ((((0 * 10 + a.first) * 10 + b.first) * 10 + c.first) * 10 + d.first) v d.rest d.long d.value in
    record {
      front = dec a.first ∷ dec b.first ∷ dec c.first ∷ [];
      high = 100 * a.first + 10 * b.first + c.first;
      low = d.first;
      front_digits = record {
        hundreds = a.first;
        tens = b.first;
        ones = c.first;
        hundreds_digit = a.first_digit;
        tens_digit = b.first_digit;
        ones_digit = c.first_digit;
        spelled = refl;
        value = refl;
      };
      low_digit = d.first_digit;
      spelled = cc;
      value = omega arith;
    }

-- and their value from them
last_digit : (v d x : ℕ) → d ≤ 9 → x ≡ v * 10 + d → value_after 10 v (dec d ∷ []) ≡ Some x
last_digit v d x h e = more_digits v d [] h ∙ ap Some (sym e)

pub from_one : (d : ℕ) → d ≤ 9 → value_of 10 1 1 (dec d ∷ []) ≡ Some d
unfolding value_of
from_one d h = last_digit 0 d d h (omega arith)

pub from_two : (ds : List ℕ) (v : ℕ) → Two ds v → value_of 10 2 2 ds ≡ Some v
unfolding value_of
from_two ds v r =
    ap (value_of 10 2 2) r.spelled
    ∙ more_digits 0 r.tens (dec r.ones ∷ []) r.tens_digit
    ∙ last_digit (0 * 10 + r.tens) r.ones v r.ones_digit (omega arith)

pub from_three : (ds : List ℕ) (v : ℕ) → Three ds v → value_of 10 3 3 ds ≡ Some v
unfolding value_of
from_three ds v r =
    ap (value_of 10 3 3) r.spelled
    ∙ more_digits 0 r.hundreds (dec r.tens ∷ dec r.ones ∷ []) r.hundreds_digit
    ∙ more_digits (0 * 10 + r.hundreds) r.tens (dec r.ones ∷ []) r.tens_digit
    ∙ last_digit ((0 * 10 + r.hundreds) * 10 + r.tens) r.ones v r.ones_digit (omega arith)

pub from_four : (ds : List ℕ) (v : ℕ) → Four ds v → value_of 10 4 4 ds ≡ Some v
unfolding value_of
from_four ds v r =
    let f = r.front_digits in
    ap (value_of 10 4 4) (r.spelled ∙ ap (λ front. front ++ dec r.low ∷ []) f.spelled)
    ∙ more_digits 0 f.hundreds (dec f.tens ∷ dec f.ones ∷ dec r.low ∷ []) f.hundreds_digit
    ∙ more_digits (0 * 10 + f.hundreds) f.tens (dec f.ones ∷ dec r.low ∷ []) f.tens_digit
    ∙ more_digits ((0 * 10 + f.hundreds) * 10 + f.tens) f.ones (dec r.low ∷ []) f.ones_digit
    ∙ last_digit (((0 * 10 + f.hundreds) * 10 + f.tens) * 10 + f.ones) r.low v r.low_digit (omega arith)
