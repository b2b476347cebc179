-- The look-ups of numbers and of references give what is listed, and nothing else. Assumes nothing.
use Rattle.std.proofs.Common.{◌≡◌, ℕ, ◌+◌, ◌-◌, ◌*◌, ◌/◌, ◌%◌, ◌≤◌, Bool, true, false, cond, ◌&&◌, eqb, leb, List, [], ◌∷◌, ◌++◌, length, get_or, drop, Some, None, Ok, Option, Result, sym, refl, ap, ◌∙◌, subst, arith}
use Rattle.std.proofs.lemmas.Bool.{leb-true, le-leb, eqb-true, eqb-false, cond-false}
use Rattle.std.proofs.lemmas.Bool.Decides.{nat_tests}
use Rattle.tokens.specs.declared.WordFault.{WordFault}
use Rattle.tokens.specs.declared.Area.{Area}
use Rattle.tokens.specs.declared.Area.TheVariants.{Input, Output, Change, Internal}
use Rattle.tokens.specs.declared.BitCell.{BitCell}
use Rattle.tokens.specs.declared.WordCell.{WordCell}
use Rattle.tokens.specs.declared.WordCell.TheVariants.{Pair}
use Rattle.tokens.specs.Numbers.{between, value_of, shaped, up_to, any, number_of}
use Rattle.tokens.specs.Cells.{bit_cell_in, area_bit_of, internal_bit_of, area_pair_of, internal_pair_of, timer_of, bit_of, word_of, word_like}
use Rattle.tokens.specs.Listed.{dec, Value, Two, Three, Number, decimal, hexadecimal, BoardBit, InternalBit, BoardWord, InternalWord, TimerNumber, BitReference, input_bit, output_bit, change_bit, internal_bit, WordReference, input_word, output_word, change_word, internal_word, timer_word}
use Rattle.tokens.proofs.ExactDigits.{split, within, err_ok, range_of, of_range, value_parts, value_from, first_of, two_from, three_from, Four, four_from, from_two, from_three, from_four}

-- f gives x at w exactly where R says so
pub record Exact {A : Type 0} (f : List ℕ → Result A WordFault) (R : List ℕ → A → Type 0) : Type 0 where
  pub sound : (w : List ℕ) (x : A) → f w ≡ Ok x → R w x
  pub complete : (w : List ℕ) (x : A) → R w x → f w ≡ Ok x

-- digits of which the value has to be in a range: D says which digits, R what they stand for
module _ {A : Type 0} (t : ℕ → Bool) (y : ℕ → A) (n : ℕ) (D : List ℕ → ℕ → Type 0) (R : List ℕ → A → Type 0) where
  pub exact_digits :
      ((ds : List ℕ) (v : ℕ) → value_of 10 n n ds ≡ Some v → D ds v)
      → ((ds : List ℕ) (v : ℕ) → D ds v → value_of 10 n n ds ≡ Some v)
      → ((ds : List ℕ) (v : ℕ) → D ds v → t v ≡ true → R ds (y v))
      → ((ds : List ℕ) (x : A) → R ds x → (v : ℕ) × D ds v × (t v ≡ true) × (x ≡ y v))
      → Exact (λ ds. shaped (within t y) (value_of 10 n n ds)) R
  exact_digits from to into back = record {
    sound = λ ds x e.
        let p = range_of t y (value_of 10 n n ds) x e in
        subst (R ds) (sym p.3) (into ds p.0 (from ds p.0 p.1) p.2);
    complete = λ ds x r.
        let p = back ds x r in
        of_range t y (value_of 10 n n ds) p.0 (to ds p.0 p.1) p.2 ∙ ap Ok (sym p.3);
  }

same_bit : (a : Area) (b c r s : ℕ) → b ≡ c → r ≡ s → bit_cell_in a b r ≡ bit_cell_in a c s
same_bit a b c r s p q = cc

-- bits of I, Y and V
module _ (a : Area) where
  board_bit_from : (ds : List ℕ) (v : ℕ) → Three ds v → (leb (v / 100) 3 && (leb (v / 10 % 10) 3 && leb (v % 10) 7)) ≡ true → BoardBit a ds (bit_cell_in a (v / 100 * 4 + v / 10 % 10) (v % 10))
  board_bit_from ds v d h = record {
    board = d.hundreds;
    byte = d.tens;
    bit = d.ones;
    board_within = let e : v / 100 ≡ d.hundreds = omega arith in grind (arith, nat_tests);
    byte_within = let e : v / 10 % 10 ≡ d.tens = omega arith in grind (arith, nat_tests);
    bit_within = let e : v % 10 ≡ d.ones = omega arith in grind (arith, nat_tests);
    spelled = d.spelled;
    names = same_bit a _ _ _ _ (omega arith) (omega arith);
  }

  from_board_bit : (ds : List ℕ) (c : BitCell) → BoardBit a ds c → (v : ℕ) × Three ds v × ((leb (v / 100) 3 && (leb (v / 10 % 10) 3 && leb (v % 10) 7)) ≡ true) × (c ≡ bit_cell_in a (v / 100 * 4 + v / 10 % 10) (v % 10))
  from_board_bit ds c r =
      let v : ℕ = 100 * r.board + 10 * r.byte + r.bit in
      let p : v / 100 ≡ r.board = omega arith in
      let q : v / 10 % 10 ≡ r.byte = omega arith in
      let s : v % 10 ≡ r.bit = omega arith in (
        v,
        record {
          hundreds = r.board;
          tens = r.byte;
          ones = r.bit;
          hundreds_digit = omega arith;
          tens_digit = omega arith;
          ones_digit = omega arith;
          spelled = r.spelled;
          value = refl;
        },
        grind (arith, nat_tests),
        r.names ∙ same_bit a _ _ _ _ (omega arith) (sym s),
      )

  pub exact_board_bit : Exact (area_bit_of a) (BoardBit a)
  exact_board_bit = exact_digits _ _ 3 Three (BoardBit a) three_from from_three board_bit_from from_board_bit

internal_bit_from : (ds : List ℕ) (v : ℕ) → Four ds v → (leb (v / 10) 127 && leb (v % 10) 7) ≡ true → InternalBit ds (bit_cell_in Internal (v / 10) (v % 10))
internal_bit_from ds v d h =
    let p : v / 10 ≡ d.high = omega arith in
    let q : v % 10 ≡ d.low = omega arith in
    record {
      byte = d.high;
      digits = d.front;
      bit = d.low;
      byte_digits = d.front_digits;
      byte_within = grind (arith, nat_tests);
      bit_within = grind (arith, nat_tests);
      spelled = d.spelled;
      names = same_bit Internal _ _ _ _ p q;
    }

from_internal_bit : (ds : List ℕ) (c : BitCell) → InternalBit ds c → (v : ℕ) × Four ds v × ((leb (v / 10) 127 && leb (v % 10) 7) ≡ true) × (c ≡ bit_cell_in Internal (v / 10) (v % 10))
from_internal_bit ds c r =
    let v : ℕ = 10 * r.byte + r.bit in
    let p : v / 10 ≡ r.byte = omega arith in
    let q : v % 10 ≡ r.bit = omega arith in (
      v,
      record {
        front = r.digits;
        high = r.byte;
        low = r.bit;
        front_digits = r.byte_digits;
        low_digit = omega arith;
        spelled = r.spelled;
        value = refl;
      },
      grind (arith, nat_tests),
      r.names ∙ same_bit Internal _ _ _ _ (sym p) (sym q),
    )

pub exact_internal_bit : Exact internal_bit_of InternalBit
exact_internal_bit = exact_digits _ _ 4 Four InternalBit four_from from_four internal_bit_from from_internal_bit

-- words of I, Y and V
module _ (a : Area) where
  board_word_from : (ds : List ℕ) (v : ℕ) → Two ds v → (leb (v / 10) 3 && (leb (v % 10) 3 && eqb (v % 2) 0)) ≡ true → BoardWord a ds (Pair a (v / 10 * 4 + v % 10))
  board_word_from ds v d h =
      let p : v / 10 ≡ d.tens = omega arith in
      let q : v % 10 ≡ d.ones = omega arith in
      let even : v % 2 ≡ 0 = grind (arith, nat_tests) in
      let s : d.ones ≡ 2 * (d.ones / 2) = omega arith in
      let small : d.ones ≤ 3 = grind (arith, nat_tests) in
      record {
        board = d.tens;
        half = d.ones / 2;
        board_within = grind (arith, nat_tests);
        half_within = omega arith;
        spelled = d.spelled ∙ ap (λ n. dec d.tens ∷ dec n ∷ []) s;
        names = ap (Pair a) (omega arith);
      }

  from_board_word : (ds : List ℕ) (c : WordCell) → BoardWord a ds c → (v : ℕ) × Two ds v × ((leb (v / 10) 3 && (leb (v % 10) 3 && eqb (v % 2) 0)) ≡ true) × (c ≡ Pair a (v / 10 * 4 + v % 10))
  from_board_word ds c r =
      let v : ℕ = 10 * r.board + 2 * r.half in
      let p : v / 10 ≡ r.board = omega arith in
      let q : v % 10 ≡ 2 * r.half = omega arith in
      let s : v % 2 ≡ 0 = omega arith in (
        v,
        record { tens = r.board; ones = 2 * r.half; tens_digit = omega arith; ones_digit = omega arith; spelled = r.spelled; value = refl },
        grind (arith, nat_tests),
        r.names ∙ ap (Pair a) (omega arith),
      )

  pub exact_board_word : Exact (area_pair_of a) (BoardWord a)
  exact_board_word = exact_digits _ _ 2 Two (BoardWord a) two_from from_two board_word_from from_board_word

internal_word_from : (ds : List ℕ) (v : ℕ) → Three ds v → (leb v 127 && eqb (v % 2) 0) ≡ true → InternalWord ds (Pair Internal v)
internal_word_from ds v d h =
    let even : v % 2 ≡ 0 = grind (arith, nat_tests) in
    let s : v ≡ 2 * (v / 2) = omega arith in
    let small : v ≤ 127 = grind (arith, nat_tests) in
    record { half = v / 2; digits = subst (Three ds) s d; within = omega arith; names = ap (Pair Internal) s }

from_internal_word : (ds : List ℕ) (c : WordCell) → InternalWord ds c → (v : ℕ) × Three ds v × ((leb v 127 && eqb (v % 2) 0) ≡ true) × (c ≡ Pair Internal v)
from_internal_word ds c r =
    let even : 2 * r.half % 2 ≡ 0 = omega arith in
    (2 * r.half, r.digits, grind (arith, nat_tests), r.names)

pub exact_internal_word : Exact internal_pair_of InternalWord
exact_internal_word = exact_digits _ _ 3 Three InternalWord three_from from_three internal_word_from from_internal_word

pub exact_timer : Exact timer_of TimerNumber
exact_timer =
    exact_digits _ _ 2 Two TimerNumber two_from from_two
    (λ ds v d h. record { timer = v; digits = d; within = leb-true v 19 h; names = refl })
    (λ ds c r. (r.timer, r.digits, le-leb r.timer 19 r.within, r.names))

-- the first byte is k, or it is not
first_is : (k : ℕ) (w : List ℕ) → eqb k 0 ≡ false → eqb (get_or w 0 0) k ≡ true → w ≡ k ∷ drop 1 w
first_is k [] z e = let p : k ≡ 0 = grind (arith, nat_tests) in absurd (eqb-false k 0 z p)
first_is k (b ∷ w) z e = ap (λ c. c ∷ w) (eqb-true b k e)

module _ {A : Type 0} (f : List ℕ → Result A WordFault) (k : ℕ) (z : eqb k 0 ≡ false) (w : List ℕ) (s : Result A WordFault) (x : A) (e : cond (eqb (get_or w 0 0) k) (f (drop 1 w)) s ≡ Ok x) where
  by_byte : {P : Type 0} → ((ds : List ℕ) → w ≡ k ∷ ds → f ds ≡ Ok x → P) → (s ≡ Ok x → P) → P
  by_byte there here =
      split (eqb (get_or w 0 0) k) (f (drop 1 w)) s x e (λ t h. there (drop 1 w) (first_is k w z t) h) (λ _ h. here h)

  pub by_first : (P : List ℕ → Type 0) → ((ds : List ℕ) → f ds ≡ Ok x → P (k ∷ ds)) → (s ≡ Ok x → P w) → P w
  by_first P there here = by_byte (λ ds u h. subst P (sym u) (there ds h)) here

  pub by_exact : {P : Type 0} (R : List ℕ → A → Type 0) → Exact f R → ((ds : List ℕ) → w ≡ k ∷ ds → R ds x → P) → (s ≡ Ok x → P) → P
  by_exact R exact there here = by_byte (λ ds u h. there ds u (exact.sound ds x h)) here

-- numbers
any_from : (o : Option ℕ) (v : ℕ) → shaped any o ≡ Ok v → o ≡ Some v
any_from None v e = err_ok _ v e
any_from (Some u) v e = cc

hexadecimal_from : (ds : List ℕ) (v : ℕ) → shaped any (value_of 16 1 4 ds) ≡ Ok v → Number (46 ∷ ds) v
hexadecimal_from ds v e =
    let p = value_parts 16 1 4 ds v (any_from (value_of 16 1 4 ds) v e) in
    hexadecimal ds refl p.0 p.1 p.2

decimal_from : (w : List ℕ) (v : ℕ) → shaped (up_to 65535) (value_of 10 1 5 w) ≡ Ok v → Number w v
decimal_from w v e =
    let r = range_of _ _ (value_of 10 1 5 w) v e in
    let p = value_parts 10 1 5 w v (r.1 ∙ ap Some (sym r.3)) in
    decimal p.0 p.1 p.2 (leb-true v 65535 (ap (λ n. leb n 65535) r.3 ∙ r.2))

number_from : (w : List ℕ) (v : ℕ) → number_of w ≡ Ok v → Number w v
unfolding number_of
number_from w v e =
    by_first (λ ds. shaped any (value_of 16 1 4 ds)) 46 refl w _ v e (λ u. Number u v) (λ ds h. hexadecimal_from ds v h) (decimal_from w v)

-- a number that begins with a digit
pub digit_first : (w : List ℕ) (v : ℕ) → 1 ≤ length w → Value 10 w v → between 48 57 (get_or w 0 0) ≡ true
digit_first w v h e =
    let f = first_of (length w - 1) 0 v w (omega arith) e in
    ap (λ u. between 48 57 (get_or u 0 0)) f.spelled ∙ digit-byte f.first f.first_digit
  where
    digit-byte : (d : ℕ) → d ≤ 9 → between 48 57 (dec d) ≡ true
    digit-byte d h = grind (arith, nat_tests)

from_number : (w : List ℕ) (v : ℕ) → Number w v → number_of w ≡ Ok v
unfolding number_of
from_number w v (decimal lo hi e h) =
    let d = digit_first w v lo e in
    let p : eqb (get_or w 0 0) 46 ≡ false = grind (arith, nat_tests) in
    cond-false _ _ _ p ∙ of_range _ _ (value_of 10 1 5 w) v (value_from 10 1 5 w v lo hi e) (le-leb v 65535 h)
from_number w v (hexadecimal ds s lo hi e) = ap number_of s ∙ ap (shaped any) (value_from 16 1 4 ds v lo hi e)

pub exact_number : Exact number_of Number
exact_number = record { sound = number_from; complete = from_number }

-- references
bit_from : (w : List ℕ) (c : BitCell) → bit_of w ≡ Ok c → BitReference w c
unfolding bit_of
bit_from w c e =
    by_exact _ 73 refl w _ c e (BoardBit Input) (exact_board_bit Input) input_bit (λ e.
    by_exact _ 89 refl w _ c e (BoardBit Output) (exact_board_bit Output) output_bit (λ e.
    by_exact _ 86 refl w _ c e (BoardBit Change) (exact_board_bit Change) change_bit (λ e.
    by_exact _ 70 refl w _ c e InternalBit exact_internal_bit internal_bit (λ e. err_ok _ c e))))

from_bit : (w : List ℕ) (c : BitCell) → BitReference w c → bit_of w ≡ Ok c
unfolding bit_of
from_bit w c (input_bit ds s r) = ap bit_of s ∙ (exact_board_bit Input).complete ds c r
from_bit w c (output_bit ds s r) = ap bit_of s ∙ (exact_board_bit Output).complete ds c r
from_bit w c (change_bit ds s r) = ap bit_of s ∙ (exact_board_bit Change).complete ds c r
from_bit w c (internal_bit ds s r) = ap bit_of s ∙ exact_internal_bit.complete ds c r

pub exact_bit : Exact bit_of BitReference
exact_bit = record { sound = bit_from; complete = from_bit }

word_from : (w : List ℕ) (c : WordCell) → word_of w ≡ Ok c → WordReference w c
unfolding word_of
word_from w c e =
    by_exact _ 73 refl w _ c e (BoardWord Input) (exact_board_word Input) input_word (λ e.
    by_exact _ 89 refl w _ c e (BoardWord Output) (exact_board_word Output) output_word (λ e.
    by_exact _ 86 refl w _ c e (BoardWord Change) (exact_board_word Change) change_word (λ e.
    by_exact _ 70 refl w _ c e InternalWord exact_internal_word internal_word (λ e.
    by_exact _ 84 refl w _ c e TimerNumber exact_timer timer_word (λ e. err_ok _ c e)))))

from_word : (w : List ℕ) (c : WordCell) → WordReference w c → word_of w ≡ Ok c
unfolding word_of
from_word w c (input_word ds s r) = ap word_of s ∙ (exact_board_word Input).complete ds c r
from_word w c (output_word ds s r) = ap word_of s ∙ (exact_board_word Output).complete ds c r
from_word w c (change_word ds s r) = ap word_of s ∙ (exact_board_word Change).complete ds c r
from_word w c (internal_word ds s r) = ap word_of s ∙ exact_internal_word.complete ds c r
from_word w c (timer_word ds s r) = ap word_of s ∙ exact_timer.complete ds c r

pub exact_word : Exact word_of WordReference
exact_word = record { sound = word_from; complete = from_word }

-- the length of a reference tells a word from a bit
pub bit_long : (w : List ℕ) (c : BitCell) → BitReference w c → word_like w ≡ false
unfolding word_like
bit_long w c (input_bit ds s r) = ap word_like (s ∙ ap (λ d. 73 ∷ d) r.spelled)
bit_long w c (output_bit ds s r) = ap word_like (s ∙ ap (λ d. 89 ∷ d) r.spelled)
bit_long w c (change_bit ds s r) = ap word_like (s ∙ ap (λ d. 86 ∷ d) r.spelled)
bit_long w c (internal_bit ds s r) =
    ap word_like (s ∙ ap (λ d. 70 ∷ d) (r.spelled ∙ ap (λ d. d ++ dec r.bit ∷ []) r.byte_digits.spelled))

pub word_long : (w : List ℕ) (c : WordCell) → WordReference w c → word_like w ≡ true
unfolding word_like
word_long w c (input_word ds s r) = ap word_like (s ∙ ap (λ d. 73 ∷ d) r.spelled)
word_long w c (output_word ds s r) = ap word_like (s ∙ ap (λ d. 89 ∷ d) r.spelled)
word_long w c (change_word ds s r) = ap word_like (s ∙ ap (λ d. 86 ∷ d) r.spelled)
word_long w c (internal_word ds s r) = ap word_like (s ∙ ap (λ d. 70 ∷ d) r.digits.spelled)
word_long w c (timer_word ds s r) = ap word_like s
