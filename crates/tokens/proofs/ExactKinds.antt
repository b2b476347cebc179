-- The look-up of a word gives the token that is listed, and nothing else. Assumes nothing.
use Rattle.std.proofs.Common.{◌≡◌, ℕ, ◌≤◌, Bool, true, false, cond, ◌&&◌, eqb, List, [], ◌∷◌, ◌++◌, length, get_or, Some, None, Ok, Err, Decides, Option, Result, sym, refl, ap, ◌∙◌, subst, arith}
use Rattle.std.proofs.lemmas.Bool.{false≢true, leb-true, le-leb, eqb-true, ne_eqb, and_parts, or_right, cond-true, cond-false}
use Rattle.std.proofs.lemmas.Bool.Decides.{nat_tests}
use Rattle.std.proofs.lemmas.Option.{none-some}
use Rattle.tokens.specs.declared.WordFault.{WordFault}
use Rattle.tokens.specs.declared.Area.TheVariants.{Output}
use Rattle.tokens.specs.declared.BitCell.{BitCell}
use Rattle.tokens.specs.declared.WordCell.{WordCell}
use Rattle.tokens.specs.Numbers.{between, value_of, shaped, up_to, number_of}
use Rattle.tokens.specs.Cells.{bit_of, word_of, word_like, switched_of}
use Rattle.tokens.specs.Tokens.{Kind, number, load_number, switch, test, end_of_level, label, call, on_ok, label_in, call_in, mark, mark_equal, marked, mark_of, numeric, load_cell_of, load_of, stored, store_cell_of, store_of, switch_of, test_of, not_of, end_of, label_of, call_of, number_word_of, tested, plain_of, kind_of}
use Rattle.tokens.specs.Listed.{dec, Three, Number, decimal, hexadecimal, BoardBit, InternalBit, BitReference, input_bit, output_bit, change_bit, internal_bit, WordReference, input_word, output_word, change_word, internal_word, timer_word, StoredArea, StoredWord, Sign, is_and, is_or, is_xor, is_plus, is_minus, is_less, is_greater, is_equal, is_at_most, is_at_least, is_open, is_close, is_else, is_end_of_condition, is_return, nots, switches, Listed, is_number, is_load_number, is_load_bit, is_load_word, is_store_bit, is_store_word, is_switch_output, is_switch_internal, is_test, is_sign, is_end_of_level, is_label, is_call}
use Rattle.tokens.proofs.ExactDigits.{split, err_ok, one_from, three_from, from_one, from_three}
use Rattle.tokens.proofs.ExactCells.{Exact, exact_digits, by_first, by_exact, digit_first, exact_number, exact_board_bit, exact_internal_bit, exact_bit, exact_word, bit_long, word_long}

on_from : {A B : Type 0} (g : A → B) (r : Result A WordFault) (x : B) → on_ok g r ≡ Ok x → (a : A) × (r ≡ Ok a) × (x ≡ g a)
on_from g (Ok a) x e = (a, refl, cc)
on_from g (Err f) x e = err_ok f x e

-- a bit or a word, told by the length
module _ (f : BitCell → Kind) (g : WordCell → Kind) (ds : List ℕ) where
  abbrev cell_of : Result Kind WordFault
  cell_of = cond (word_like ds) (on_ok g (word_of ds)) (on_ok f (bit_of ds))

  cell_from : {P : Type 0} (k : Kind) → cell_of ≡ Ok k → ((c : BitCell) → BitReference ds c → k ≡ f c → P) → ((c : WordCell) → WordReference ds c → k ≡ g c → P) → P
  cell_from k e bit word =
      split (word_like ds) _ _ k e
      (λ _ h. let p = on_from g (word_of ds) k h in word p.0 (exact_word.sound ds p.0 p.1) p.2)
      (λ _ h. let p = on_from f (bit_of ds) k h in bit p.0 (exact_bit.sound ds p.0 p.1) p.2)

  from_bit_cell : (c : BitCell) → BitReference ds c → cell_of ≡ Ok (f c)
  from_bit_cell c r = cond-false _ _ _ (bit_long ds c r) ∙ ap (on_ok f) (exact_bit.complete ds c r)

  from_word_cell : (c : WordCell) → WordReference ds c → cell_of ≡ Ok (g c)
  from_word_cell c r = cond-true _ _ _ (word_long ds c r) ∙ ap (on_ok g) (exact_word.complete ds c r)

-- the letters that can be stored to
module _ {C : Type 0} (P : C → Type 0) where
  stored_by : {w ds : List ℕ} {k : ℕ} {c d : C} → w ≡ k ∷ ds → c ≡ d → Decides (stored k) (P d) → Decides (stored (get_or w 0 0)) (P c)
  stored_by s e h = rw (s, e) h

never : Decides false ⊥
never = (λ e. false≢true e, λ h. absurd h)

always : Decides true (Unit {0})
always = (λ e. tt, λ h. refl)

bit_stored : (w : List ℕ) (c : BitCell) → BitReference w c → Decides (stored (get_or w 0 0)) (StoredArea c.area)
bit_stored w c (input_bit ds s r) = stored_by (λ c. StoredArea c.area) s r.names never
bit_stored w c (output_bit ds s r) = stored_by (λ c. StoredArea c.area) s r.names always
bit_stored w c (change_bit ds s r) = stored_by (λ c. StoredArea c.area) s r.names never
bit_stored w c (internal_bit ds s r) = stored_by (λ c. StoredArea c.area) s r.names always

word_stored : (w : List ℕ) (c : WordCell) → WordReference w c → Decides (stored (get_or w 0 0)) (StoredWord c)
word_stored w c (input_word ds s r) = stored_by StoredWord s r.names never
word_stored w c (output_word ds s r) = stored_by StoredWord s r.names always
word_stored w c (change_word ds s r) = stored_by StoredWord s r.names never
word_stored w c (internal_word ds s r) = stored_by StoredWord s r.names always
word_stored w c (timer_word ds s r) = stored_by StoredWord s r.names always

-- the digits behind `J`, `:` and `G`
exact_level : Exact (λ ds. shaped (up_to 1) (value_of 10 1 1 ds)) (λ ds v. (v ≤ 1) × (ds ≡ dec v ∷ []))
exact_level =
    exact_digits _ _ 1 (λ ds v. (v ≤ 9) × (ds ≡ dec v ∷ [])) _ one_from
    (λ ds v d. ap (value_of 10 1 1) d.1 ∙ from_one v d.0)
    (λ ds v d h. (leb-true v 1 h, d.1))
    (λ ds v r. (v, (omega (arith, r.0), r.1), le-leb v 1 r.0, refl))

exact_label : Exact (λ ds. shaped label_in (value_of 10 3 3 ds)) (λ ds v. Three ds v × (v ≤ 199) × (v ≡ 2 → ⊥))
exact_label =
    exact_digits _ _ 3 Three _ three_from from_three
    (λ ds v d h. (d, grind (arith, nat_tests), grind (arith, nat_tests)))
    (λ ds v r. (v, r.0, grind (arith, nat_tests, r.1, r.2), refl))

exact_call : Exact (λ ds. shaped call_in (value_of 10 3 3 ds)) (λ ds v. Three ds v × (3 ≤ v) × (v ≤ 199))
exact_call =
    exact_digits _ _ 3 Three _ three_from from_three
    (λ ds v d h. (d, grind (arith, nat_tests), grind (arith, nat_tests)))
    (λ ds v r. (v, r.0, grind (arith, nat_tests, r.1, r.2), refl))

-- what is switched
switched_from : {P : Type 0} (ds : List ℕ) (c : BitCell) → switched_of ds ≡ Ok c → (BoardBit Output ds c → P) → ((bs : List ℕ) → ds ≡ 70 ∷ bs → InternalBit bs c → P) → P
unfolding switched_of
switched_from ds c e output internal =
    by_exact _ 70 refl ds _ c e InternalBit exact_internal_bit internal (λ h. output ((exact_board_bit Output).sound ds c h))

from_output : (ds : List ℕ) (c : BitCell) → BoardBit Output ds c → switched_of ds ≡ Ok c
unfolding switched_of
from_output ds c r =
    let b : get_or ds 0 0 ≡ dec r.board = ap (λ u. get_or u 0 0) r.spelled in
    let p : eqb (get_or ds 0 0) 70 ≡ false = ne_eqb (get_or ds 0 0) 70 (λ e. omega arith) in
    cond-false _ _ _ p ∙ (exact_board_bit Output).complete ds c r

from_internal : (ds : List ℕ) (c : BitCell) → InternalBit ds c → switched_of (70 ∷ ds) ≡ Ok c
unfolding switched_of
from_internal ds c r = exact_internal_bit.complete ds c r

-- signs
marked_from : (o : Option Kind) (k : Kind) → marked o ≡ Ok k → o ≡ Some k
marked_from None k e = err_ok _ k e
marked_from (Some j) k e = cc

module _ {P : Type 0} (b : ℕ) (ds : List ℕ) (k : Kind) where
  pick : (j : ℕ) (x : Kind) (o : Option Kind) → cond (eqb b j) (Some x) o ≡ Some k → (b ∷ ds ≡ j ∷ ds → k ≡ x → P) → (o ≡ Some k → P) → P
  pick j x o e there here = go (eqb b j) refl e
    where
      go : (t : Bool) → eqb b j ≡ t → cond t (Some x) o ≡ Some k → P
      go true h e = there (ap (λ c. c ∷ ds) (eqb-true b j h)) (cc)
      go false h e = here e

one_sign : (b : ℕ) (k : Kind) → mark b ≡ Some k → Sign (b ∷ []) k
one_sign b k e =
    pick b [] k 65 _ _ e is_and (λ e. pick b [] k 79 _ _ e is_or (λ e. pick b [] k 88 _ _ e is_xor (λ e.
    pick b [] k 43 _ _ e is_plus (λ e. pick b [] k 45 _ _ e is_minus (λ e.
    pick b [] k 60 _ _ e is_less (λ e. pick b [] k 62 _ _ e is_greater (λ e. pick b [] k 61 _ _ e is_equal (λ e.
    pick b [] k 91 _ _ e is_open (λ e. pick b [] k 93 _ _ e is_close (λ e.
    pick b [] k 69 _ _ e is_else (λ e. pick b [] k 90 _ _ e is_end_of_condition (λ e. pick b [] k 82 _ _ e is_return (λ e.
    absurd (none-some k e))))))))))))))

two_signs : (b : ℕ) (k : Kind) → mark_equal b ≡ Some k → Sign (b ∷ 61 ∷ []) k
two_signs b k e = pick b (61 ∷ []) k 60 _ _ e is_at_most (λ e. pick b (61 ∷ []) k 62 _ _ e is_at_least (λ e. absurd (none-some k e)))

one_byte : (w : List ℕ) → length w ≡ 1 → w ≡ get_or w 0 0 ∷ []
one_byte [] l = absurd (omega arith)
one_byte (a ∷ []) l = refl
one_byte (a ∷ b ∷ w) l = absurd (omega arith)

two_bytes : (w : List ℕ) → length w ≡ 2 → w ≡ get_or w 0 0 ∷ get_or w 1 0 ∷ []
two_bytes [] l = absurd (omega arith)
two_bytes (a ∷ w) l = ap (λ u. a ∷ u) (one_byte w (omega arith))

sign_from : (w : List ℕ) (k : Kind) → mark_of w ≡ Ok k → Sign w k
unfolding mark_of
sign_from w k e =
    split (eqb (length w) 1) _ _ k e one (λ _ e.
    split (eqb (length w) 2 && eqb (get_or w 1 0) 61) _ _ k e two (λ _ h. err_ok _ k h))
  where
    one : eqb (length w) 1 ≡ true → marked (mark (get_or w 0 0)) ≡ Ok k → Sign w k
    one t h = subst (λ u. Sign u k) (sym (one_byte w (eqb-true (length w) 1 t))) (one_sign (get_or w 0 0) k (marked_from _ k h))

    two : (eqb (length w) 2 && eqb (get_or w 1 0) 61) ≡ true → marked (mark_equal (get_or w 0 0)) ≡ Ok k → Sign w k
    two t h =
        let p = and_parts (eqb (length w) 2) (eqb (get_or w 1 0) 61) t in
        let s = two_bytes w (eqb-true (length w) 2 p.0) ∙ ap (λ b. get_or w 0 0 ∷ b ∷ []) (eqb-true (get_or w 1 0) 61 p.1) in
        subst (λ u. Sign u k) (sym s) (two_signs (get_or w 0 0) k (marked_from _ k h))

-- from the look-up to the list
module _ (k : Kind) where
  load_cell_from : (n : Bool) (ds : List ℕ) → load_cell_of n ds ≡ Ok k → Listed (nots n ++ 76 ∷ ds) k
  load_cell_from n ds e = cell_from _ _ ds k e (λ c r s. is_load_bit n ds c refl r s) (λ c r s. is_load_word n ds c refl r s)

  load_from : (ds : List ℕ) → load_of ds ≡ Ok k → Listed (76 ∷ ds) k
  unfolding load_of
  load_from ds e =
      split (numeric (get_or ds 0 0)) _ _ k e
      (λ _ h. let p = on_from _ (number_of ds) k h in is_load_number ds p.0 refl (exact_number.sound ds p.0 p.1) p.2)
      (λ _ h. load_cell_from false ds h)

  store_cell_from : (n : Bool) (ds : List ℕ) → stored (get_or ds 0 0) ≡ true → store_cell_of n ds ≡ Ok k → Listed (nots n ++ 83 ∷ ds) k
  store_cell_from n ds t e =
      cell_from _ _ ds k e
      (λ c r s. is_store_bit n ds c refl r ((bit_stored ds c r).0 t) s)
      (λ c r s. is_store_word n ds c refl r ((word_stored ds c r).0 t) s)

  store_from : (n : Bool) (ds : List ℕ) → store_of n ds ≡ Ok k → Listed (nots n ++ 83 ∷ ds) k
  unfolding store_of
  store_from n ds e = split (stored (get_or ds 0 0)) _ _ k e (store_cell_from n ds) (λ _ h. err_ok _ k h)

  switch_from : (on : Bool) (ds : List ℕ) → switch_of on ds ≡ Ok k → Listed (switches on ∷ ds) k
  switch_from on ds e =
      let p = on_from _ (switched_of ds) k e in
      switched_from ds p.0 p.1
      (λ r. is_switch_output on ds p.0 refl r p.2)
      (λ bs s r. is_switch_internal on bs p.0 (ap (λ u. switches on ∷ u) s) r p.2)

  test_from : (n : Bool) (ds : List ℕ) → test_of n ds ≡ Ok k → Listed (nots n ++ ds) k
  test_from n ds e = let p = on_from _ (bit_of ds) k e in is_test n ds p.0 refl (exact_bit.sound ds p.0 p.1) p.2

  not_from : (ds : List ℕ) → not_of ds ≡ Ok k → Listed (78 ∷ ds) k
  unfolding not_of
  not_from ds e =
      let P : List ℕ → Type 0 = λ u. Listed (78 ∷ u) k in
      by_first _ 76 refl ds _ k e P (load_cell_from true) (λ e. by_first _ 83 refl ds _ k e P (store_from true) (test_from true ds))

  end_from : (ds : List ℕ) → end_of ds ≡ Ok k → Listed (74 ∷ ds) k
  end_from ds e =
      let p = on_from _ _ k e in
      let r = exact_level.sound ds p.0 p.1 in
      is_end_of_level p.0 r.0 (ap (λ u. 74 ∷ u) r.1) p.2

  label_from : (ds : List ℕ) → label_of ds ≡ Ok k → Listed (58 ∷ ds) k
  label_from ds e =
      let p = on_from _ _ k e in
      let r = exact_label.sound ds p.0 p.1 in
      is_label ds p.0 refl r.0 r.1 r.2 p.2

  call_from : (ds : List ℕ) → call_of ds ≡ Ok k → Listed (71 ∷ ds) k
  call_from ds e =
      let p = on_from _ _ k e in
      let r = exact_call.sound ds p.0 p.1 in
      is_call ds p.0 refl r.0 r.1 r.2 p.2

  number_word_from : (w : List ℕ) → number_word_of w ≡ Ok k → Listed w k
  number_word_from w e = let p = on_from _ (number_of w) k e in is_number p.0 (exact_number.sound w p.0 p.1) p.2

  plain_from : (w : List ℕ) → plain_of w ≡ Ok k → Listed w k
  unfolding plain_of
  plain_from w e =
      split (tested (get_or w 0 0)) _ _ k e (λ _ h. test_from false w h) (λ _ e.
      split (numeric (get_or w 0 0)) _ _ k e (λ _ h. number_word_from w h) (λ _ h. is_sign (sign_from w k h)))

  kind_from : (w : List ℕ) → kind_of w ≡ Ok k → Listed w k
  unfolding kind_of
  kind_from w e =
      let P : List ℕ → Type 0 = λ u. Listed u k in
      by_first _ 76 refl w _ k e P load_from (λ e.
      by_first _ 78 refl w _ k e P not_from (λ e.
      by_first _ 83 refl w _ k e P (store_from false) (λ e.
      by_first _ 85 refl w _ k e P (switch_from true) (λ e.
      by_first _ 68 refl w _ k e P (switch_from false) (λ e.
      by_first _ 74 refl w _ k e P end_from (λ e.
      by_first _ 58 refl w _ k e P label_from (λ e.
      by_first _ 71 refl w _ k e P call_from (plain_from w))))))))

-- from the list to the look-up: what the first bytes lead to
bit_letter : (P : List ℕ → Type 0) (w : List ℕ) (c : BitCell) → BitReference w c → ((ds : List ℕ) → P (73 ∷ ds)) → ((ds : List ℕ) → P (89 ∷ ds)) → ((ds : List ℕ) → P (86 ∷ ds)) → ((ds : List ℕ) → P (70 ∷ ds)) → P w
bit_letter P w c (input_bit ds s r) i y v f = subst P (sym s) (i ds)
bit_letter P w c (output_bit ds s r) i y v f = subst P (sym s) (y ds)
bit_letter P w c (change_bit ds s r) i y v f = subst P (sym s) (v ds)
bit_letter P w c (internal_bit ds s r) i y v f = subst P (sym s) (f ds)

bit_not_numeric : (w : List ℕ) (c : BitCell) → BitReference w c → numeric (get_or w 0 0) ≡ false
bit_not_numeric w c r = bit_letter (λ u. numeric (get_or u 0 0) ≡ false) w c r (λ _. refl) (λ _. refl) (λ _. refl) (λ _. refl)

word_not_numeric : (w : List ℕ) (c : WordCell) → WordReference w c → numeric (get_or w 0 0) ≡ false
word_not_numeric w c (input_word ds s r) = ap (λ u. numeric (get_or u 0 0)) s
word_not_numeric w c (output_word ds s r) = ap (λ u. numeric (get_or u 0 0)) s
word_not_numeric w c (change_word ds s r) = ap (λ u. numeric (get_or u 0 0)) s
word_not_numeric w c (internal_word ds s r) = ap (λ u. numeric (get_or u 0 0)) s
word_not_numeric w c (timer_word ds s r) = ap (λ u. numeric (get_or u 0 0)) s

test_way : (n : Bool) (ds : List ℕ) (c : BitCell) → BitReference ds c → kind_of (nots n ++ ds) ≡ test_of n ds
unfolding kind_of not_of plain_of
test_way true ds c r = bit_letter (λ u. kind_of (78 ∷ u) ≡ test_of true u) ds c r (λ _. refl) (λ _. refl) (λ _. refl) (λ _. refl)
test_way false ds c r = bit_letter (λ u. kind_of u ≡ test_of false u) ds c r (λ _. refl) (λ _. refl) (λ _. refl) (λ _. refl)

load_way : (n : Bool) (ds : List ℕ) → numeric (get_or ds 0 0) ≡ false → kind_of (nots n ++ 76 ∷ ds) ≡ load_cell_of n ds
unfolding kind_of not_of load_of
load_way true ds h = refl
load_way false ds h = cond-false _ _ _ h

store_way : (n : Bool) (ds : List ℕ) → stored (get_or ds 0 0) ≡ true → kind_of (nots n ++ 83 ∷ ds) ≡ store_cell_of n ds
unfolding kind_of not_of store_of
store_way true ds h = cond-true _ _ _ h
store_way false ds h = cond-true _ _ _ h

switch_way : (on : Bool) (ds : List ℕ) → kind_of (switches on ∷ ds) ≡ switch_of on ds
unfolding kind_of
switch_way true ds = refl
switch_way false ds = refl

digit_way : (w : List ℕ) → between 48 57 (get_or w 0 0) ≡ true → kind_of w ≡ number_word_of w
unfolding kind_of plain_of
digit_way w h =
    let other : (k : ℕ) → between 48 57 k ≡ false → eqb (get_or w 0 0) k ≡ false = λ k z. grind (arith, nat_tests) in
    rw (other 76 refl, other 78 refl, other 83 refl, other 85 refl, other 68 refl, other 74 refl, other 58 refl, other 71 refl, other 73 refl, other 89 refl, other 86 refl, other 70 refl, other 46 refl, h)

number_numeric : (w : List ℕ) (v : ℕ) → Number w v → numeric (get_or w 0 0) ≡ true
number_numeric w v (decimal lo hi e h) = or_right (eqb (get_or w 0 0) 46) _ (digit_first w v lo e)
number_numeric w v (hexadecimal ds s lo hi e) = ap (λ u. numeric (get_or u 0 0)) s

number_way : (w : List ℕ) (v : ℕ) → Number w v → kind_of w ≡ number_word_of w
unfolding kind_of plain_of
number_way w v (decimal lo hi e h) = digit_way w (digit_first w v lo e)
number_way w v (hexadecimal ds s lo hi e) = ap kind_of s ∙ ap number_word_of (sym s)

-- and what it gives
from_sign : (w : List ℕ) (k : Kind) → Sign w k → kind_of w ≡ Ok k
unfolding kind_of plain_of mark_of
from_sign w k (is_and s e) = rw (s, e)
from_sign w k (is_or s e) = rw (s, e)
from_sign w k (is_xor s e) = rw (s, e)
from_sign w k (is_plus s e) = rw (s, e)
from_sign w k (is_minus s e) = rw (s, e)
from_sign w k (is_less s e) = rw (s, e)
from_sign w k (is_greater s e) = rw (s, e)
from_sign w k (is_equal s e) = rw (s, e)
from_sign w k (is_at_most s e) = rw (s, e)
from_sign w k (is_at_least s e) = rw (s, e)
from_sign w k (is_open s e) = rw (s, e)
from_sign w k (is_close s e) = rw (s, e)
from_sign w k (is_else s e) = rw (s, e)
from_sign w k (is_end_of_condition s e) = rw (s, e)
from_sign w k (is_return s e) = rw (s, e)

kind_of_listed : (w : List ℕ) (k : Kind) → Listed w k → kind_of w ≡ Ok k
unfolding kind_of load_of
kind_of_listed w k (is_number v r e) = rw e (number_way w v r ∙ ap (on_ok number) (exact_number.complete w v r))
kind_of_listed w k (is_load_number ds v s r e) =
    rw (s, e) (cond-true _ _ _ (number_numeric ds v r) ∙ ap (on_ok load_number) (exact_number.complete ds v r))
kind_of_listed w k (is_load_bit n ds c s r e) = rw (s, e) (load_way n ds (bit_not_numeric ds c r) ∙ from_bit_cell _ _ ds c r)
kind_of_listed w k (is_load_word n ds c s r e) = rw (s, e) (load_way n ds (word_not_numeric ds c r) ∙ from_word_cell _ _ ds c r)
kind_of_listed w k (is_store_bit n ds c s r h e) = rw (s, e) (store_way n ds ((bit_stored ds c r).1 h) ∙ from_bit_cell _ _ ds c r)
kind_of_listed w k (is_store_word n ds c s r h e) = rw (s, e) (store_way n ds ((word_stored ds c r).1 h) ∙ from_word_cell _ _ ds c r)
kind_of_listed w k (is_switch_output on ds c s r e) = rw (s, e) (switch_way on ds ∙ ap (on_ok (λ c. switch c on)) (from_output ds c r))
kind_of_listed w k (is_switch_internal on ds c s r e) =
    rw (s, e) (switch_way on (70 ∷ ds) ∙ ap (on_ok (λ c. switch c on)) (from_internal ds c r))
kind_of_listed w k (is_test n ds c s r e) = rw (s, e) (test_way n ds c r ∙ ap (on_ok (λ c. test c n)) (exact_bit.complete ds c r))
kind_of_listed w k (is_sign r) = from_sign w k r
kind_of_listed w k (is_end_of_level d h s e) = rw (s, e) (ap (on_ok end_of_level) (exact_level.complete (dec d ∷ []) d (h, refl)))
kind_of_listed w k (is_label ds v s r h m e) = rw (s, e) (ap (on_ok label) (exact_label.complete ds v (r, h, m)))
kind_of_listed w k (is_call ds v s r l h e) = rw (s, e) (ap (on_ok call) (exact_call.complete ds v (r, l, h)))

pub listed : (w : List ℕ) (k : Kind) → (kind_of w ≡ Ok k → Listed w k) × (Listed w k → kind_of w ≡ Ok k)
listed w k = (kind_from k w, kind_of_listed w k)
