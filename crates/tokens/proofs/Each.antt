-- Each look-up treats words alike which differ only in the values of digits. Assumes nothing.
use Rattle.std.proofs.Common.{◌≡◌, ℕ, Bool, true, false, cond, ◌&&◌, eqb, List, [], ◌∷◌, length, get_or, Some, None, Option, refl, ap, ◌∙◌, arith}
use Rattle.std.proofs.lemmas.Bool.Decides.{nat_tests}
use Rattle.tokens.specs.declared.Area.{Area}
use Rattle.tokens.specs.declared.Area.TheVariants.{Input, Output, Change}
use Rattle.tokens.specs.Numbers.{between, up_to, number_of}
use Rattle.tokens.specs.Cells.{area_bit, area_pair, internal_bit_at, internal_pair, timer_in, area_bit_of, internal_bit_of, area_pair_of, bit_of, word_of, word_like, switched_of}
use Rattle.tokens.specs.Tokens.{Kind, label_in, call_in, mark, mark_equal, marked, mark_of, numeric, load_cell_of, load_of, stored, store_cell_of, store_of, switch_of, test_of, not_of, end_of, label_of, call_of, tested, plain_of, kind_of}
use Rattle.tokens.specs.Listed.{Decimal}
use Rattle.tokens.proofs.Blind.{word_cause, Even, Near, same_length, at_first, at_second, letter, near_none, near_cond, near_behind, near_on, near_any, near_digits, near_zeros}

near_number : Near number_of
unfolding number_of
near_number = near_cond _ _ _ (letter 46 refl) (near_behind _ (near_any 16 1 4)) (near_zeros (up_to 65535) 1 5 refl)

near_area_bit : (a : Area) → Near (area_bit_of a)
near_area_bit a = near_zeros (area_bit a) 3 3 refl

near_internal_bit : Near internal_bit_of
near_internal_bit = near_zeros internal_bit_at 4 4 refl

near_area_pair : (a : Area) → Near (area_pair_of a)
near_area_pair a = near_zeros (area_pair a) 2 2 refl

near_bit : Near bit_of
unfolding bit_of
near_bit =
    near_cond _ _ _ (letter 73 refl) (near_behind _ (near_area_bit Input))
    (near_cond _ _ _ (letter 89 refl) (near_behind _ (near_area_bit Output))
    (near_cond _ _ _ (letter 86 refl) (near_behind _ (near_area_bit Change))
    (near_cond _ _ _ (letter 70 refl) (near_behind _ near_internal_bit) (near_none _))))

near_word : Near word_of
unfolding word_of
near_word =
    near_cond _ _ _ (letter 73 refl) (near_behind _ (near_area_pair Input))
    (near_cond _ _ _ (letter 89 refl) (near_behind _ (near_area_pair Output))
    (near_cond _ _ _ (letter 86 refl) (near_behind _ (near_area_pair Change))
    (near_cond _ _ _ (letter 70 refl) (near_behind _ (near_zeros internal_pair 3 3 refl))
    (near_cond _ _ _ (letter 84 refl) (near_behind _ (near_zeros timer_in 2 2 refl)) (near_none _)))))

near_switched : Near switched_of
unfolding switched_of
near_switched = near_cond _ _ _ (letter 70 refl) (near_behind _ near_internal_bit) (near_area_bit Output)

long : (n : ℕ) → Even (λ w. eqb (length w) n)
long n v w s = ap (λ k. eqb k n) (same_length v w s)

even_cond : {B : Type 0} (t : List ℕ → Bool) (f g : List ℕ → B) → Even t → Even f → Even g → Even (λ w. cond (t w) (f w) (g w))
even_cond t f g et ef eg v w s = rw (et v w s, ef v w s, eg v w s)

even_like : Even word_like
unfolding word_like
even_like = even_cond _ _ _ (letter 84 refl) (λ v w s. refl) (even_cond _ _ _ (letter 70 refl) (long 4) (long 3))

never_five : (o : Option Kind) → word_cause (marked o) ≡ 5 → ⊥
never_five None e = omega arith
never_five (Some k) e = omega arith

near_marked : (t : List ℕ → Option Kind) → Even t → Near (λ w. marked (t w))
near_marked t even = record {
  alike = λ v w s p q. let e = ap (λ o. word_cause (marked o)) (even v w s) in omega arith;
  found = λ w h. absurd (never_five (t w) h);
}

no_mark : (d : ℕ) → Decimal d → mark d ≡ None
no_mark d h = grind (arith, nat_tests)

no_mark_equal : (d : ℕ) → Decimal d → mark_equal d ≡ None
no_mark_equal d h = grind (arith, nat_tests)

is_numeric : (d : ℕ) → Decimal d → numeric d ≡ true
is_numeric d h = grind (arith, nat_tests)

not_stored : (d : ℕ) → Decimal d → stored d ≡ false
not_stored d h = grind (arith, nat_tests)

not_tested : (d : ℕ) → Decimal d → tested d ≡ false
not_tested d h = grind (arith, nat_tests)

not_equal : (d : ℕ) → Decimal d → eqb d 61 ≡ false
not_equal d h = grind (arith, nat_tests)

two : Even (λ w. eqb (length w) 2 && eqb (get_or w 1 0) 61)
two v w s =
    ap (λ b. b && eqb (get_or v 1 0) 61) (long 2 v w s) ∙ ap (λ b. eqb (length w) 2 && b) (at_second (λ b. eqb b 61) false not_equal v w s)

near_mark : Near mark_of
unfolding mark_of
near_mark =
    near_cond _ _ _ (long 1) (near_marked _ (at_first mark None no_mark))
    (near_cond _ _ _ two (near_marked _ (at_first mark_equal None no_mark_equal)) (near_none _))

near_load_cell : (n : Bool) → Near (load_cell_of n)
near_load_cell n = near_cond _ _ _ even_like (near_on _ _ near_word) (near_on _ _ near_bit)

near_load : Near load_of
unfolding load_of
near_load = near_cond _ _ _ (at_first numeric true is_numeric) (near_on _ _ near_number) (near_load_cell false)

near_store_cell : (n : Bool) → Near (store_cell_of n)
near_store_cell n = near_cond _ _ _ even_like (near_on _ _ near_word) (near_on _ _ near_bit)

near_store : (n : Bool) → Near (store_of n)
unfolding store_of
near_store n = near_cond _ _ _ (at_first stored false not_stored) (near_store_cell n) (near_none _)

near_switch : (on : Bool) → Near (switch_of on)
near_switch on = near_on _ _ near_switched

near_test : (n : Bool) → Near (test_of n)
near_test n = near_on _ _ near_bit

near_not : Near not_of
unfolding not_of
near_not =
    near_cond _ _ _ (letter 76 refl) (near_behind _ (near_load_cell true))
    (near_cond _ _ _ (letter 83 refl) (near_behind _ (near_store true)) (near_test true))

near_end : Near end_of
near_end = near_on _ _ (near_zeros (up_to 1) 1 1 refl)

near_label : Near label_of
near_label = near_on _ _ (near_zeros label_in 3 3 refl)

-- 003 is a call, 000 is none
three : (n : ℕ) → between 3 3 n ≡ true → 3 ≡ n
three n h = grind (arith, nat_tests)

near_call : Near call_of
near_call = near_on _ _ (near_digits call_in 3 3 (λ w h. (48 ∷ 48 ∷ 51 ∷ [], three (length w) h, refl)))

near_plain : Near plain_of
unfolding plain_of
near_plain =
    near_cond _ _ _ (at_first tested false not_tested) (near_test false)
    (near_cond _ _ _ (at_first numeric true is_numeric) (near_on _ _ near_number) near_mark)

pub near_kind : Near kind_of
unfolding kind_of
near_kind =
    near_cond _ _ _ (letter 76 refl) (near_behind _ near_load)
    (near_cond _ _ _ (letter 78 refl) (near_behind _ near_not)
    (near_cond _ _ _ (letter 83 refl) (near_behind _ (near_store false))
    (near_cond _ _ _ (letter 85 refl) (near_behind _ (near_switch true))
    (near_cond _ _ _ (letter 68 refl) (near_behind _ (near_switch false))
    (near_cond _ _ _ (letter 74 refl) (near_behind _ near_end)
    (near_cond _ _ _ (letter 58 refl) (near_behind _ near_label)
    (near_cond _ _ _ (letter 71 refl) (near_behind _ near_call) near_plain)))))))
