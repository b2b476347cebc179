-- What opening and closing do to a panel. Assumes nothing.
use Rattle.std.proofs.Common.{◌≡◌, ℕ, zero, suc, ◌+◌, ◌*◌, ◌/◌, ◌%◌, ◌<◌, ◌≤◌, Bool, true, false, cond, ◌&&◌, eqb, ltb, List, get_or, Some, None, Option, refl, ap, ◌∙◌, subst, arith}
use Rattle.std.proofs.lemmas.Bool.{both_ways, cond_both}
use Rattle.panel.specs.Meaning.{Meaning, with_output, after_put, first_silent, after_puts, mask_of}
use Rattle.panel.proofs.Steps.{below, length_after}
use Rattle.program.specs.Cells.{bit_of_byte, pair_at}
use Rattle.machine.specs.Plan.{Plan}
use Rattle.machine.specs.Machine.{State, opening, closing, Answer, closed, is_idle, is_scanned, opening_of, output_words, answer}
use Rattle.machine.specs.Histories.{is_refused, panel_after}
use Rattle.machine.specs.Laws.{PutLaw}

-- a number below 8 is one of eight
eight : (P : ℕ → Type 0) → P 0 → P 1 → P 2 → P 3 → P 4 → P 5 → P 6 → P 7 → (k : ℕ) → k < 8 → P k
eight P a b c d e f g h zero l = a
eight P a b c d e f g h (suc zero) l = b
eight P a b c d e f g h (suc (suc zero)) l = c
eight P a b c d e f g h (suc (suc (suc zero))) l = d
eight P a b c d e f g h (suc (suc (suc (suc zero)))) l = e
eight P a b c d e f g h (suc (suc (suc (suc (suc zero))))) l = f
eight P a b c d e f g h (suc (suc (suc (suc (suc (suc zero)))))) l = g
eight P a b c d e f g h (suc (suc (suc (suc (suc (suc (suc zero))))))) l = h
eight P a b c d e f g h (suc (suc (suc (suc (suc (suc (suc (suc k)))))))) l = absurd (omega arith)

-- ---- what a put leaves
put_keeps : {X : Type 0} (f : Meaning → X) (m : Meaning) (k w : ℕ) → f (with_output m k w) ≡ f m → f (after_put m k w) ≡ f m
put_keeps f m k w e =
    cond_both (ltb k 8) _ _ (λ (x : Meaning). f x ≡ f m) (λ _. cond_both (get_or m.output_answers k false) _ _ (λ (x : Meaning). f x ≡ f m) (λ _. e) (λ _. refl)) (λ _. refl)

puts_keep : {X : Type 0} (f : Meaning → X) → ((m : Meaning) (k w : ℕ) → f (with_output m k w) ≡ f m) → (m : Meaning) (words : List ℕ) (n : ℕ) → f (after_puts m words n) ≡ f m
puts_keep f e m words zero = refl
puts_keep f e m words (suc n) = put_keeps f (after_puts m words n) n (get_or words n 0) (e _ n _) ∙ puts_keep f e m words n

word_of : (bytes : List ℕ) (k : ℕ) → k < 8 → get_or (output_words bytes) k 0 ≡ pair_at bytes (128 + 2 * k)
word_of bytes = eight (λ k. get_or (output_words bytes) k 0 ≡ pair_at bytes (128 + 2 * k)) refl refl refl refl refl refl refl refl

-- ---- the mask
weighs : (b : Bool) (n : ℕ) → cond b 0 n ≡ n * cond b 0 1
weighs true n = omega arith
weighs false n = omega arith

small : (b : Bool) → cond {A = ℕ} b 0 1 ≤ 1
small true = omega arith
small false = omega arith

-- bit i of the mask
abbrev silence : List Bool → ℕ → ℕ
silence a i = cond (get_or a i false) 0 1

record Bits (mask : ℕ) (v : ℕ → ℕ) : Type 0 where
  sum : mask ≡ v 0 + 2 * v 1 + 4 * v 2 + 8 * v 3 + 16 * v 4 + 32 * v 5 + 64 * v 6 + 128 * v 7
  each : (i : ℕ) → v i ≤ 1

bit_0 : (mask : ℕ) (v : ℕ → ℕ) → Bits mask v → mask / 1 % 2 ≡ v 0
bit_0 mask v b = let s = b.sum in omega (arith, b.each 0, b.each 1, b.each 2, b.each 3, b.each 4, b.each 5, b.each 6, b.each 7)

bit_1 : (mask : ℕ) (v : ℕ → ℕ) → Bits mask v → mask / 2 % 2 ≡ v 1
bit_1 mask v b = let s = b.sum in omega (arith, b.each 0, b.each 1, b.each 2, b.each 3, b.each 4, b.each 5, b.each 6, b.each 7)

bit_2 : (mask : ℕ) (v : ℕ → ℕ) → Bits mask v → mask / 4 % 2 ≡ v 2
bit_2 mask v b = let s = b.sum in omega (arith, b.each 0, b.each 1, b.each 2, b.each 3, b.each 4, b.each 5, b.each 6, b.each 7)

bit_3 : (mask : ℕ) (v : ℕ → ℕ) → Bits mask v → mask / 8 % 2 ≡ v 3
bit_3 mask v b = let s = b.sum in omega (arith, b.each 0, b.each 1, b.each 2, b.each 3, b.each 4, b.each 5, b.each 6, b.each 7)

bit_4 : (mask : ℕ) (v : ℕ → ℕ) → Bits mask v → mask / 16 % 2 ≡ v 4
bit_4 mask v b = let s = b.sum in omega (arith, b.each 0, b.each 1, b.each 2, b.each 3, b.each 4, b.each 5, b.each 6, b.each 7)

bit_5 : (mask : ℕ) (v : ℕ → ℕ) → Bits mask v → mask / 32 % 2 ≡ v 5
bit_5 mask v b = let s = b.sum in omega (arith, b.each 0, b.each 1, b.each 2, b.each 3, b.each 4, b.each 5, b.each 6, b.each 7)

bit_6 : (mask : ℕ) (v : ℕ → ℕ) → Bits mask v → mask / 64 % 2 ≡ v 6
bit_6 mask v b = let s = b.sum in omega (arith, b.each 0, b.each 1, b.each 2, b.each 3, b.each 4, b.each 5, b.each 6, b.each 7)

bit_7 : (mask : ℕ) (v : ℕ → ℕ) → Bits mask v → mask / 128 % 2 ≡ v 7
bit_7 mask v b = let s = b.sum in omega (arith, b.each 0, b.each 1, b.each 2, b.each 3, b.each 4, b.each 5, b.each 6, b.each 7)

bits : (a : List Bool) → Bits (mask_of a 8) (silence a)
bits a =
    let e₁ = weighs (get_or a 1 false) 2 in
    let e₂ = weighs (get_or a 2 false) 4 in
    let e₃ = weighs (get_or a 3 false) 8 in
    let e₄ = weighs (get_or a 4 false) 16 in
    let e₅ = weighs (get_or a 5 false) 32 in
    let e₆ = weighs (get_or a 6 false) 64 in
    let e₇ = weighs (get_or a 7 false) 128 in
    record { sum = omega arith; each = λ i. small (get_or a i false) }

mask_bits : (a : List Bool) (k : ℕ) → k < 8 → bit_of_byte (mask_of a 8) k ≡ silence a k
mask_bits a =
    let b = bits a in
    eight (λ k. bit_of_byte (mask_of a 8) k ≡ silence a k) (bit_0 _ _ b) (bit_1 _ _ b) (bit_2 _ _ b) (bit_3 _ _ b) (bit_4 _ _ b) (bit_5 _ _ b) (bit_6 _ _ b) (bit_7 _ _ b)

module _ (plan : Plan) where
  opening_leaves_with : (s : State) (m : Meaning) (o : Option ℕ) → panel_after (opening_of s m o).1 ≡ Some m
  opening_leaves_with s m None = refl
  opening_leaves_with s m (Some k) = refl

  pub opening_leaves : (s : State) (m : Meaning) → panel_after (answer plan s (opening m)) ≡ Some m
  opening_leaves s m =
      cond_both (is_idle s.phase) _ _ (λ (x : State × Answer). panel_after x.1 ≡ Some m) (λ _. opening_leaves_with s m (first_silent m.input_answers 0 8)) (λ _. refl)

  pub closing_leaves : (s : State) (t : ℕ) (m : Meaning) → is_refused (answer plan s (closing t m)) ≡ true → panel_after (answer plan s (closing t m)) ≡ Some m
  closing_leaves s t m =
      cond_both (is_scanned s.phase && eqb t s.number) _ _ (λ (x : State × Answer). is_refused x.1 ≡ true → panel_after x.1 ≡ Some m)
      (λ _ e. absurd (both_ways false refl e))
      (λ _ _. refl)

  puts : (bytes : List ℕ) (m : Meaning) → PutLaw bytes m (mask_of m.output_answers 8) (after_puts m (output_words bytes) 8)
  puts bytes m =
      record {
        outputs = λ long k h. below m (output_words bytes) long 8 (omega arith) k h ∙ ap (λ w. cond (get_or m.output_answers k false) w (get_or m.outputs k 0)) (word_of bytes k h);
        outputs_long = length_after m (output_words bytes) 8 (omega arith);
        inputs = puts_keep (λ (x : Meaning). x.inputs) (λ _ _ _. refl) m (output_words bytes) 8;
        input_answers = puts_keep (λ (x : Meaning). x.input_answers) (λ _ _ _. refl) m (output_words bytes) 8;
        output_answers = puts_keep (λ (x : Meaning). x.output_answers) (λ _ _ _. refl) m (output_words bytes) 8;
        mask_bits = mask_bits m.output_answers;
      }

  pub closing_puts : (s : State) (t mask : ℕ) (m m' : Meaning) → answer plan s (closing t m) ≡ closed mask m' → PutLaw s.bytes m mask m'
  closing_puts s t mask m m' =
      cond_both (is_scanned s.phase && eqb t s.number) _ _ (λ (x : State × Answer). x.1 ≡ closed mask m' → PutLaw s.bytes m mask m')
      (λ _ e. let p : mask_of m.output_answers 8 ≡ mask = cc in let q : after_puts m (output_words s.bytes) 8 ≡ m' = cc in subst (PutLaw s.bytes m mask) q (subst (λ (x : ℕ). PutLaw s.bytes m x (after_puts m (output_words s.bytes) 8)) p (puts s.bytes m)))
      (λ _ e. let z : ◌≡◌ {A = ℕ} 0 1 = cc in absurd (omega arith))
