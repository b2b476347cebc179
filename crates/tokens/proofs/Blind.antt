-- Functions of a word that treat words alike which differ only in the values of digits. Assumes nothing.
use Rattle.std.proofs.Common.{◌≡◌, ℕ, suc, ◌+◌, ◌-◌, ◌*◌, Bool, true, false, cond, eqb, ◌⊎◌, List, [], ◌∷◌, length, get_or, drop, map, is_some, Some, None, Ok, Err, Option, Result, sym, refl, ap, ◌∙◌, inl, inr, arith}
use Rattle.std.proofs.lemmas.Bool.{false≢true, cond-true}
use Rattle.std.proofs.lemmas.Bool.Decides.{nat_tests}
use Rattle.std.proofs.lemmas.List.{length-map}
use Rattle.tokens.specs.declared.WordFault.{WordFault}
use Rattle.tokens.specs.declared.WordFault.TheVariants.{Unlisted, OutOfRange}
use Rattle.tokens.specs.Numbers.{between, digit, value_after, value_of, ranged, shaped, any}
use Rattle.tokens.specs.Tokens.{on_ok}
use Rattle.tokens.specs.Listed.{Decimal, SameButDigits}

abbrev pub word_cause : {A : Type 0} → Result A WordFault → ℕ
word_cause (Ok a) = 0
word_cause (Err Unlisted) = 4
word_cause (Err OutOfRange) = 5

-- t cannot tell digits apart
abbrev pub Even : {B : Type 0} → (List ℕ → B) → Type 0
Even t = (v w : List ℕ) → SameButDigits v w → t v ≡ t w

-- the rule, of f alone: its two directions
pub record Near {A : Type 0} (f : List ℕ → Result A WordFault) : Type 0 where
  pub alike : (v w : List ℕ) → SameButDigits v w → word_cause (f v) ≡ 0 → word_cause (f w) ≡ 4 → ⊥
  pub found : (w : List ℕ) → word_cause (f w) ≡ 5 → (v : List ℕ) × (word_cause (f v) ≡ 0) × SameButDigits v w

-- tests that digits do not change

pub same_length : Even length
same_length [] [] s = refl
same_length [] (b ∷ w) s = absurd s
same_length (a ∷ v) [] s = absurd s
same_length (a ∷ v) (b ∷ w) s = ap suc (same_length v w s.1)

module _ {B : Type 0} (f : ℕ → B) (x : B) (h : (d : ℕ) → Decimal d → f d ≡ x) where
  at_place : (a b : ℕ) → (a ≡ b) ⊎ (Decimal a × Decimal b) → f a ≡ f b
  at_place a b (inl e) = ap f e
  at_place a b (inr p) = h a p.0 ∙ sym (h b p.1)

  pub at_first : Even (λ w. f (get_or w 0 0))
  at_first [] [] s = refl
  at_first [] (b ∷ w) s = absurd s
  at_first (a ∷ v) [] s = absurd s
  at_first (a ∷ v) (b ∷ w) s = at_place a b s.0

  pub at_second : Even (λ w. f (get_or w 1 0))
  at_second [] [] s = refl
  at_second [] (b ∷ w) s = absurd s
  at_second (a ∷ v) [] s = absurd s
  at_second (a ∷ v) (b ∷ w) s = at_first v w s.1

not_digit : (k : ℕ) → between 48 57 k ≡ false → (d : ℕ) → Decimal d → eqb d k ≡ false
not_digit k h d e = grind (arith, nat_tests)

pub letter : (k : ℕ) → between 48 57 k ≡ false → Even (λ w. eqb (get_or w 0 0) k)
letter k h = at_first (λ b. eqb b k) false (not_digit k h)

-- ways to make one from others

pub near_none : (A : Type 0) → Near {A = A} (λ w. Err Unlisted)
near_none A = record { alike = λ v w s p q. omega arith; found = λ w h. absurd (omega arith) }

module _ {A : Type 0} where
  module _ (t : List ℕ → Bool) (f g : List ℕ → Result A WordFault) (even : Even t) (nf : Near f) (ng : Near g) where
    found_by : (w : List ℕ) (b : Bool) → t w ≡ b → word_cause (cond b (f w) (g w)) ≡ 5 → (v : List ℕ) × (word_cause (cond (t v) (f v) (g v)) ≡ 0) × SameButDigits v w
    found_by w true e h =
        let n = nf.found w h in
        (n.0, ap (λ b. word_cause (cond b (f n.0) (g n.0))) (even n.0 w n.2 ∙ e) ∙ n.1, n.2)
    found_by w false e h =
        let n = ng.found w h in
        (n.0, ap (λ b. word_cause (cond b (f n.0) (g n.0))) (even n.0 w n.2 ∙ e) ∙ n.1, n.2)

    same_way : (v w : List ℕ) → SameButDigits v w → (b : Bool) → word_cause (cond b (f v) (g v)) ≡ 0 → word_cause (cond b (f w) (g w)) ≡ 4 → ⊥
    same_way v w s true = nf.alike v w s
    same_way v w s false = ng.alike v w s

    pub near_cond : Near (λ w. cond (t w) (f w) (g w))
    near_cond = record {
      alike = λ v w s p q. same_way v w s (t v) p (ap (λ b. word_cause (cond b (f w) (g w))) (even v w s) ∙ q);
      found = λ w h. found_by w (t w) refl h;
    }

  module _ (f : List ℕ → Result A WordFault) (nf : Near f) where
    rest_same : (v w : List ℕ) → SameButDigits v w → SameButDigits (drop 1 v) (drop 1 w)
    rest_same [] [] s = tt
    rest_same [] (b ∷ w) s = absurd s
    rest_same (a ∷ v) [] s = absurd s
    rest_same (a ∷ v) (b ∷ w) s = s.1

    none_found : (v : List ℕ) → word_cause (f v) ≡ 0 → SameButDigits v [] → word_cause (f []) ≡ 0
    none_found [] c s = c
    none_found (a ∷ v) c s = absurd s

    found_behind : (w : List ℕ) → word_cause (f (drop 1 w)) ≡ 5 → (v : List ℕ) × (word_cause (f (drop 1 v)) ≡ 0) × SameButDigits v w
    found_behind [] h = let n = nf.found [] h in ([], none_found n.0 n.1 n.2, tt)
    found_behind (b ∷ w) h = let n = nf.found w h in (b ∷ n.0, n.1, (inl refl, n.2))

    pub near_behind : Near (λ w. f (drop 1 w))
    near_behind = record { alike = λ v w s p q. nf.alike (drop 1 v) (drop 1 w) (rest_same v w s) p q; found = found_behind }

  cause_on : {B : Type 0} (h : A → B) (r : Result A WordFault) → word_cause (on_ok h r) ≡ word_cause r
  cause_on h (Ok a) = refl
  cause_on h (Err Unlisted) = refl
  cause_on h (Err OutOfRange) = refl

  pub near_on : {B : Type 0} (h : A → B) (f : List ℕ → Result A WordFault) → Near f → Near (λ w. on_ok h (f w))
  near_on h f nf = record {
    alike = λ v w s p q. nf.alike v w s (sym (cause_on h (f v)) ∙ p) (sym (cause_on h (f w)) ∙ q);
    found = λ w e. let n = nf.found w (sym (cause_on h (f w)) ∙ e) in (n.0, cause_on h (f n.0) ∙ n.1, n.2);
  }

  -- digits

  value_is : (ok : ℕ → Option A) (o : Option ℕ) → word_cause (shaped ok o) ≡ 0 → is_some o ≡ true
  value_is ok None e = absurd (omega arith)
  value_is ok (Some v) e = refl

  never_four : (r : Option A) → word_cause (ranged r) ≡ 4 → ⊥
  never_four None e = omega arith
  never_four (Some a) e = omega arith

  value_not : (ok : ℕ → Option A) (o : Option ℕ) → word_cause (shaped ok o) ≡ 4 → is_some o ≡ true → ⊥
  value_not ok None e h = let z : ◌≡◌ {A = ℕ} 0 1 = cc in omega arith
  value_not ok (Some v) e h = never_four (ok v) e

module _ (radix : ℕ) where
  is_digit : (d : ℕ) → Decimal d → is_some (digit radix d) ≡ true
  is_digit d e = ap is_some (cond-true (between 48 57 d) (Some (d - 48)) _ e)

  joined : (v w : List ℕ) (a b : ℕ) (o p : Option ℕ) → is_some o ≡ is_some p → ((x y : ℕ) → is_some (value_after radix x v) ≡ is_some (value_after radix y w)) → is_some (elim o [ None ↦ None | Some d ↦ value_after radix (a * radix + d) v ]) ≡ is_some (elim p [ None ↦ None | Some d ↦ value_after radix (b * radix + d) w ])
  joined v w a b None None e h = refl
  joined v w a b None (Some d) e h = absurd (false≢true e)
  joined v w a b (Some c) None e h = absurd (false≢true (sym e))
  joined v w a b (Some c) (Some d) e h = h (a * radix + c) (b * radix + d)

  same_value : (v w : List ℕ) → SameButDigits v w → (x y : ℕ) → is_some (value_after radix x v) ≡ is_some (value_after radix y w)
  same_value [] [] s x y = refl
  same_value [] (b ∷ w) s x y = absurd s
  same_value (a ∷ v) [] s x y = absurd s
  same_value (a ∷ v) (b ∷ w) s x y =
      joined v w x y (digit radix a) (digit radix b) (at_place (λ d. is_some (digit radix d)) true is_digit a b s.0) (same_value v w s.1)

  pub same_digits : (lo hi : ℕ) → Even (λ w. is_some (value_of radix lo hi w))
  unfolding value_of
  same_digits lo hi v w s =
      ap (λ n. is_some (cond (between lo hi n) (value_after radix 0 v) None)) (same_length v w s)
      ∙ elim (between lo hi (length w)) as (λ b. is_some (cond b (value_after radix 0 v) None) ≡ is_some (cond b (value_after radix 0 w) None)) [ true ↦ same_value v w s 0 0 | false ↦ refl ]

  pub alike_digits : {A : Type 0} (lo hi : ℕ) (ok : ℕ → Option A) (v w : List ℕ) → SameButDigits v w → word_cause (shaped ok (value_of radix lo hi v)) ≡ 0 → word_cause (shaped ok (value_of radix lo hi w)) ≡ 4 → ⊥
  alike_digits lo hi ok v w s p q =
      value_not ok (value_of radix lo hi w) q (sym (same_digits lo hi v w s) ∙ value_is ok (value_of radix lo hi v) p)

-- any value will do
never : (o : Option ℕ) → word_cause (shaped any o) ≡ 5 → ⊥
never None e = omega arith
never (Some v) e = omega arith

pub near_any : (radix lo hi : ℕ) → Near (λ w. shaped any (value_of radix lo hi w))
near_any radix lo hi = record { alike = alike_digits radix lo hi any; found = λ w h. absurd (never (value_of radix lo hi w) h) }

-- decimal digits, of one length, differ only in their values
decimal : (b : ℕ) → is_some (digit 10 b) ≡ true → Decimal b
decimal b h =
    (elim (between 48 57 b) as (λ t. is_some {T = ℕ} (cond t (Some (b - 48)) None) ≡ true → t ≡ true) [ true ↦ λ e. refl | false ↦ λ e. e ]) h

first_is : (v : List ℕ) (x : ℕ) (o : Option ℕ) → is_some (elim o [ None ↦ None | Some d ↦ value_after 10 (x * 10 + d) v ]) ≡ true → (is_some o ≡ true) × ((y : ℕ) × (is_some (value_after 10 y v) ≡ true))
first_is v x None e = absurd (false≢true e)
first_is v x (Some d) e = (refl, (x * 10 + d, e))

all_digits : (v w : List ℕ) (x y : ℕ) → length v ≡ length w → is_some (value_after 10 x v) ≡ true → is_some (value_after 10 y w) ≡ true → SameButDigits v w
all_digits [] [] x y l p q = tt
all_digits [] (b ∷ w) x y l p q = omega arith
all_digits (a ∷ v) [] x y l p q = omega arith
all_digits (a ∷ v) (b ∷ w) x y l p q =
    let m = first_is v x (digit 10 a) p in
    let n = first_is w y (digit 10 b) q in
    (inr (decimal a m.0, decimal b n.0), all_digits v w m.1.0 n.1.0 (omega arith) m.1.1 n.1.1)

module _ {A : Type 0} (ok : ℕ → Option A) where
  -- where the value is out of range there are digits
  has_digits : (t : Bool) (o : Option ℕ) → word_cause (shaped ok (cond t o None)) ≡ 5 → (t ≡ true) × (is_some o ≡ true)
  has_digits true None e = absurd (omega arith)
  has_digits true (Some v) e = (refl, refl)
  has_digits false o e = absurd (omega arith)

  -- u has a word in range for each length
  abbrev pub Inside : ℕ → ℕ → Type 0
  Inside lo hi = (w : List ℕ) → between lo hi (length w) ≡ true → (u : List ℕ) × (length u ≡ length w) × (word_cause (shaped ok (value_after 10 0 u)) ≡ 0)

  pub near_digits : (lo hi : ℕ) → Inside lo hi → Near (λ w. shaped ok (value_of 10 lo hi w))
  unfolding value_of
  near_digits lo hi inside = record {
    alike = alike_digits 10 lo hi ok;
    found = λ w h.
        let d = has_digits (between lo hi (length w)) (value_after 10 0 w) h in
        let u = inside w d.0 in (
          u.0,
          ap (λ n. word_cause (shaped ok (cond (between lo hi n) (value_after 10 0 u.0) None))) u.1
              ∙ ap (λ b. word_cause (shaped ok (cond b (value_after 10 0 u.0) None))) d.0
              ∙ u.2,
          all_digits u.0 w 0 0 u.1 (value_is ok (value_after 10 0 u.0) u.2) d.1,
        );
  }

  abbrev zeros : List ℕ → List ℕ
  zeros w = map (λ _. 48) w

  value_zeros : (w : List ℕ) → value_after 10 0 (zeros w) ≡ Some 0
  value_zeros [] = refl
  value_zeros (b ∷ w) = value_zeros w

  -- 0 is in range
  pub near_zeros : (lo hi : ℕ) → word_cause (ranged (ok 0)) ≡ 0 → Near (λ w. shaped ok (value_of 10 lo hi w))
  near_zeros lo hi h = near_digits lo hi (λ w _. (zeros w, length-map w _, ap (λ o. word_cause (shaped ok o)) (value_zeros w) ∙ h))
