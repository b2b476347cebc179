-- The limits by counting are those by nesting, and tokens within them have at most 16 conditions open. Assumes nothing.
use Rattle.std.proofs.Common.{◌≡◌, ℕ, zero, suc, ◌+◌, ◌-◌, ◌<◌, ◌≤◌, Bool, true, false, ◌↔◌, List, [], ◌∷◌, ◌++◌, length, get_or, take, sym, refl, ap, ◌∙◌, subst, add-one, arith}
use borrow.Author.Tests.{both_ways}
use Rattle.std.proofs.lemmas.Bool.{ltb-true, lt-ltb}
use Rattle.std.proofs.lemmas.List.{take_more}
use Rattle.tokens.specs.Tokens.{Kind, bracket_opens, bracket_closes, end_of_condition}
use Rattle.grammar.specs.Grammar.{Load, number_loaded, bit_loaded, word_loaded, bracket_loaded, Ops, no_more, apply_then, Operand, number_taken, bit_taken, word_taken, bracket_taken, Act, bit_stored, word_stored, switched, called, with_number, with_word, Test, bit_tested, compared, Command, loading, applying, acting, choosing, Cmds, done, and_then, Alternative, no_else, else_do, Module, module_of, closing, spell_load, spell_ops, spell_operand, spell_act, spell_test, spell_command, spell_cmds, spell_alternative, spell}
use Rattle.grammar.specs.declared.table.Ending.{Ending}
use Rattle.grammar.specs.declared.table.Ending.TheVariants.{Return, Level0, Level1}
use Rattle.grammar.specs.Limits.{Role, plain, opens_bracket, closes_bracket, opens_condition, closes_condition, opens_module, role, counted, brackets_after, conditions_after, modules_after, room_for, open_brackets, open_conditions, begun_modules, WithinLimits, StackSuffices}
use Rattle.grammar.specs.Depth.{SmallLoad, SmallOps, SmallOperand, SmallCommand, SmallCmds, SmallAlternative, SmallModules, LimitsAgree}
use Rattle.grammar.specs.Machine.{ending, ender}
use Rattle.grammar.proofs.Tables.{ends_so}

-- no token is too many, from b brackets, c conditions and n modules on
abbrev Rolls : ℕ → ℕ → ℕ → List Kind → Type 0
Rolls b c n [] = Unit {0}
Rolls b c n (k ∷ ks) = (room_for (role k) b c n ≡ true) × Rolls (brackets_after (role k) b) (conditions_after (role k) c) (modules_after (role k) n) ks

back_one : (b : ℕ) → b + 1 - 1 ≡ b
back_one b = omega arith

bracket : (b c n : ℕ) (l : Load) (os : Ops) (r : List Kind)
    → Rolls (b + 1) c n (spell_load l (spell_ops os (bracket_closes ∷ r))) ↔ (SmallLoad (b + 1) l × Rolls (b + 1) c n (spell_ops os (bracket_closes ∷ r)))
    → Rolls (b + 1) c n (spell_ops os (bracket_closes ∷ r)) ↔ (SmallOps (b + 1) os × Rolls (b + 1) c n (bracket_closes ∷ r))
    → Rolls b c n (bracket_opens ∷ spell_load l (spell_ops os (bracket_closes ∷ r))) ↔ (((b < 8) × SmallLoad (b + 1) l × SmallOps (b + 1) os) × Rolls b c n r)
bracket b c n l os r p q = (
  λ h. let u = p.0 h.1 in let v = q.0 u.1 in ((ltb-true b 8 h.0, u.0, v.0), subst (λ k. Rolls k c n r) (back_one b) v.1.1),
  λ h. (lt-ltb b 8 h.0.0, p.1 (h.0.1, q.1 (h.0.2, (refl, subst (λ k. Rolls k c n r) (sym (back_one b)) h.1)))),
)

mutual
  roll_load : (l : Load) (b c n : ℕ) (r : List Kind) → Rolls b c n (spell_load l r) ↔ (SmallLoad b l × Rolls b c n r)
  roll_load (number_loaded v) b c n r = (λ h. (tt, h.1), λ h. (refl, h.1))
  roll_load (bit_loaded x y) b c n r = (λ h. (tt, h.1), λ h. (refl, h.1))
  roll_load (word_loaded x y) b c n r = (λ h. (tt, h.1), λ h. (refl, h.1))
  roll_load (bracket_loaded l os) b c n r = bracket b c n l os r (roll_load l (b + 1) c n (spell_ops os (bracket_closes ∷ r))) (roll_ops os (b + 1) c n (bracket_closes ∷ r))

  roll_ops : (os : Ops) (b c n : ℕ) (r : List Kind) → Rolls b c n (spell_ops os r) ↔ (SmallOps b os × Rolls b c n r)
  roll_ops no_more b c n r = (λ h. (tt, h), λ h. h.1)
  roll_ops (apply_then o x os) b c n r =
      let p = roll_operand x b c n (spell_ops os r) in
      let q = roll_ops os b c n r in
      (λ h. let u = p.0 h.1 in let v = q.0 u.1 in ((u.0, v.0), v.1), λ h. (refl, p.1 (h.0.0, q.1 (h.0.1, h.1))))

  roll_operand : (x : Operand) (b c n : ℕ) (r : List Kind) → Rolls b c n (spell_operand x r) ↔ (SmallOperand b x × Rolls b c n r)
  roll_operand (number_taken v) b c n r = (λ h. (tt, h.1), λ h. (refl, h.1))
  roll_operand (bit_taken x y) b c n r = (λ h. (tt, h.1), λ h. (refl, h.1))
  roll_operand (word_taken x y) b c n r = (λ h. (tt, h.1), λ h. (refl, h.1))
  roll_operand (bracket_taken l os) b c n r = bracket b c n l os r (roll_load l (b + 1) c n (spell_ops os (bracket_closes ∷ r))) (roll_ops os (b + 1) c n (bracket_closes ∷ r))

roll_test : (t : Test) (c n : ℕ) (r : List Kind) → Rolls 0 c n (spell_test t r) ↔ ((c < 16) × Rolls 0 (c + 1) n r)
roll_test (bit_tested x y) c n r = (λ h. (ltb-true c 16 h.0, h.1), λ h. (lt-ltb c 16 h.0, h.1))
roll_test (compared x (with_number v)) c n r = (λ h. (ltb-true c 16 h.0, h.1.1), λ h. (lt-ltb c 16 h.0, (refl, h.1)))
roll_test (compared x (with_word y z)) c n r = (λ h. (ltb-true c 16 h.0, h.1.1), λ h. (lt-ltb c 16 h.0, (refl, h.1)))

roll_act : (a : Act) (c n : ℕ) (r : List Kind) → Rolls 0 c n (spell_act a r) ↔ (Unit {0} × Rolls 0 c n r)
roll_act (bit_stored x y) c n r = (λ h. (tt, h.1), λ h. (refl, h.1))
roll_act (word_stored x y) c n r = (λ h. (tt, h.1), λ h. (refl, h.1))
roll_act (switched x y) c n r = (λ h. (tt, h.1), λ h. (refl, h.1))
roll_act (called x) c n r = (λ h. (tt, h.1), λ h. (refl, h.1))

mutual
  roll_command : (x : Command) (c n : ℕ) (r : List Kind) → Rolls 0 c n (spell_command x r) ↔ (SmallCommand c x × Rolls 0 c n r)
  roll_command (loading l) c n r = roll_load l 0 c n r
  roll_command (applying o x) c n r = let p = roll_operand x 0 c n r in (λ h. p.0 h.1, λ h. (refl, p.1 h))
  roll_command (acting a) c n r = roll_act a c n r
  roll_command (choosing t a b) c n r =
      let k = roll_test t c n (spell_cmds a (spell_alternative b (end_of_condition ∷ r))) in
      let p = roll_cmds a (c + 1) n (spell_alternative b (end_of_condition ∷ r)) in
      let q = roll_alternative b (c + 1) n (end_of_condition ∷ r) in (
        λ h. let w = k.0 h in let u = p.0 w.1 in let v = q.0 u.1 in ((w.0, u.0, v.0), subst (λ j. Rolls 0 j n r) (back_one c) v.1.1),
        λ h. k.1 (h.0.0, p.1 (h.0.1, q.1 (h.0.2, (refl, subst (λ j. Rolls 0 j n r) (sym (back_one c)) h.1)))),
      )

  roll_cmds : (xs : Cmds) (c n : ℕ) (r : List Kind) → Rolls 0 c n (spell_cmds xs r) ↔ (SmallCmds c xs × Rolls 0 c n r)
  roll_cmds done c n r = (λ h. (tt, h), λ h. h.1)
  roll_cmds (and_then x xs) c n r =
      let p = roll_command x c n (spell_cmds xs r) in
      let q = roll_cmds xs c n r in
      (λ h. let u = p.0 h in let v = q.0 u.1 in ((u.0, v.0), v.1), λ h. p.1 (h.0.0, q.1 (h.0.1, h.1)))

  roll_alternative : (b : Alternative) (c n : ℕ) (r : List Kind) → Rolls 0 c n (spell_alternative b r) ↔ (SmallAlternative c b × Rolls 0 c n r)
  roll_alternative no_else c n r = (λ h. (tt, h), λ h. h.1)
  roll_alternative (else_do xs) c n r = let p = roll_cmds xs c n r in (λ h. p.0 h.1, λ h. (refl, p.1 h))

-- the end of a module counts for nothing
roll_ender : (e : Ending) (b c n : ℕ) (r : List Kind) → Rolls b c n (ender e ∷ r) ↔ Rolls b c n r
roll_ender Return b c n r = (λ h. h.1, λ h. (refl, h))
roll_ender Level0 b c n r = (λ h. h.1, λ h. (refl, h))
roll_ender Level1 b c n r = (λ h. h.1, λ h. (refl, h))

roll_closing : (l b c n : ℕ) (r : List Kind) → Rolls b c n (closing l ∷ r) ↔ Rolls b c n r
roll_closing l b c n r = subst (λ k. Rolls b c n (k ∷ r) ↔ Rolls b c n r) (sym (ends_so l)) (roll_ender (ending l) b c n r)

roll_modules : (ms : List Module) (n : ℕ) → Rolls 0 0 n (spell ms) ↔ SmallModules n ms
roll_modules [] n = (λ h. h, λ h. h)
roll_modules (module_of l cs ∷ ms) n =
    let p = roll_cmds cs 0 (n + 1) (closing l ∷ spell ms) in
    let e = roll_closing l 0 0 (n + 1) (spell ms) in
    let q = roll_modules ms (n + 1) in
    (λ h. let u = p.0 h.1 in (ltb-true n 64 h.0, u.0, q.0 (e.0 u.1)), λ h. (lt-ltb n 64 h.0, p.1 (h.1, e.1 (q.1 h.2))))

-- the same at each place
abbrev ClearFrom : ℕ → ℕ → ℕ → List Kind → Type 0
ClearFrom b c n ks = (i : ℕ) → i < length ks → room_for (role (get_or ks i bracket_opens)) (counted brackets_after b (take i ks)) (counted conditions_after c (take i ks)) (counted modules_after n (take i ks)) ≡ false → ⊥

pub not_false_true : (x : Bool) → (x ≡ false → ⊥) → x ≡ true
not_false_true true h = refl
not_false_true false h = absurd (h refl)

rolls_of : (ks : List Kind) (b c n : ℕ) → ClearFrom b c n ks → Rolls b c n ks
rolls_of [] b c n h = tt
rolls_of (k ∷ ks) b c n h = (not_false_true _ (h zero (omega arith)), rolls_of ks _ _ _ (λ i lt. h (suc i) (omega arith)))

clear_of : (ks : List Kind) (b c n : ℕ) → Rolls b c n ks → ClearFrom b c n ks
clear_of [] b c n h i lt e = absurd (omega arith)
clear_of (k ∷ ks) b c n h zero lt e = both_ways _ e h.0
clear_of (k ∷ ks) b c n h (suc i) lt e = clear_of ks _ _ _ h.1 i (omega arith) e

pub limits_agree : LimitsAgree
limits_agree ms = (λ h. (roll_modules ms 0).0 (rolls_of (spell ms) 0 0 0 h), λ h. clear_of (spell ms) 0 0 0 ((roll_modules ms 0).1 h))

-- one token more
pub counted_push : (f : Role → ℕ → ℕ) (n : ℕ) (xs : List Kind) (k : Kind) → counted f n (xs ++ k ∷ []) ≡ f (role k) (counted f n xs)
counted_push f n [] k = refl
counted_push f n (x ∷ xs) k = counted_push f (f (role x) n) xs k

pub counted_more : (f : Role → ℕ → ℕ) (ks : List Kind) (i : ℕ) → i < length ks → counted f 0 (take (i + 1) ks) ≡ f (role (get_or ks i bracket_opens)) (counted f 0 (take i ks))
counted_more f ks i lt = ap (counted f 0) (take_more ks i bracket_opens lt) ∙ counted_push f 0 (take i ks) (get_or ks i bracket_opens)

-- where there is room for a token, there are at most 16 conditions behind it
low_after : (k : Role) (b c n : ℕ) → c ≤ 16 → room_for k b c n ≡ true → conditions_after k c ≤ 16
low_after plain b c n h x = h
low_after opens_bracket b c n h x = h
low_after closes_bracket b c n h x = h
low_after opens_condition b c n h x = omega (arith, ltb-true c 16 x)
low_after closes_condition b c n h x = omega arith
low_after opens_module b c n h x = h

low : (ks : List Kind) → WithinLimits ks → (i : ℕ) → i ≤ length ks → open_conditions (take i ks) ≤ 16
low ks h zero le = omega arith
low ks h (suc i) le =
    let k = role (get_or ks i bracket_opens) in
    let c = open_conditions (take i ks) in
    let here = low_after k (open_brackets (take i ks)) c (begun_modules (take i ks)) (low ks h i (omega arith)) (not_false_true _ (h i (omega arith))) in
    subst (λ n. open_conditions (take n ks) ≤ 16) (add-one i) (subst (λ n. n ≤ 16) (sym (counted_more conditions_after ks i (omega arith))) here)

pub stack_suffices : StackSuffices
stack_suffices ks h i le = record {
  most = low ks h i le;
  next = λ lt e. ltb-true (open_conditions (take i ks)) 16 (subst (λ k. room_for k (open_brackets (take i ks)) (open_conditions (take i ks)) (begun_modules (take i ks)) ≡ true) e (not_false_true _ (h i lt)));
}
