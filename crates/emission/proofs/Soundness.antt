-- The code of modules is sound. Assumes nothing.
use Rattle.std.proofs.Common.{◌≡◌, ℕ, zero, suc, ◌+◌, ◌<◌, ◌≤◌, Bool, true, false, cond, not, ◌&&◌, eqb, ltb, leb, List, [], ◌∷◌, ◌++◌, length, get_or, sym, refl, ap, ◌∙◌, subst, append_assoc, append-nil, arith, length-append, length-drop, lt-ltb, le-leb, Some, None, Option}
use Rattle.std.proofs.lemmas.List.{get_or-drop}
use Rattle.std.proofs.lemmas.Bool.{and_from}
use Rattle.tokens.specs.declared.Operator.{Operator}
use Rattle.tokens.specs.Tokens.{Kind, bracket_closes, end_of_condition}
use Rattle.grammar.specs.Grammar.{Load as LoadTree, number_loaded, bit_loaded, word_loaded, bracket_loaded, Ops, no_more, apply_then, Operand, number_taken, bit_taken, word_taken, bracket_taken, Act, bit_stored, word_stored, switched, called, with_number, with_word, Test as TestTree, bit_tested, compared, Command, loading, applying, acting, choosing, Cmds, done, and_then, Alternative, no_else, else_do, Module, module_of, closing, spell_load, spell_ops, spell_operand, spell_act, spell_test, spell_command, spell_cmds, spell_alternative, spell_modules}
use Rattle.program.specs.declared.instruction.Source.TheVariants.{Number, Bit, Word}
use Rattle.program.specs.declared.instruction.Check.{Check}
use Rattle.program.specs.declared.instruction.Instruction.{Instruction}
use Rattle.program.specs.declared.instruction.Instruction.TheVariants.{Return, Load, Apply, Open, Close, StoreBit, StoreWord, Switch, Test, Skip, Call}
use Rattle.program.specs.Sound.{known_check, ends, unbroken, fine_as, fine, all_fine}
use Rattle.meaning.specs.Code.{bracket_code, when_code, guarded, either_code, load_code, ops_code, operand_code, check_of, act_code, command_code, commands_code, choice_code, size, place_from, module_code, code_from, code, place_of}
use Rattle.meaning.proofs.Fragments.{Has, has_left, has_right}
use Rattle.meaning.proofs.Sound.{length_commands}
use Rattle.emission.specs.Claims.{AllKnown, SoundCode}

-- ---- code in which no module ends
abbrev Unending : List Instruction → Type 0
Unending [] = Unit {0}
Unending (i ∷ a) = (ends i ≡ false) × Unending a

unending_join : (a b : List Instruction) → Unending a → Unending b → Unending (a ++ b)
unending_join [] b p q = q
unending_join (i ∷ a) b p q = (p.0, unending_join a b p.1 q)

unending_at : (a : List Instruction) (k : ℕ) → Unending a → k < length a → (b : List Instruction) → ends (get_or (a ++ b) k Return) ≡ false
unending_at [] k p h b = let z : ⊥ = omega arith in absurd z
unending_at (i ∷ a) zero p h b = p.0
unending_at (i ∷ a) (suc k) p h b = unending_at a k p.1 (omega arith) b

mutual
  unending_load : (l : LoadTree) → Unending (load_code l)
  unending_load (number_loaded v) = (refl, tt)
  unending_load (bit_loaded c n) = (refl, tt)
  unending_load (word_loaded c n) = (refl, tt)
  unending_load (bracket_loaded l os) = (refl, unending_join (load_code l ++ ops_code os) (Close ∷ []) (unending_join (load_code l) (ops_code os) (unending_load l) (unending_ops os)) (refl, tt))

  unending_ops : (os : Ops) → Unending (ops_code os)
  unending_ops no_more = tt
  unending_ops (apply_then o x os) = unending_join (operand_code o x) (ops_code os) (unending_operand o x) (unending_ops os)

  unending_operand : (o : Operator) (x : Operand) → Unending (operand_code o x)
  unending_operand o (number_taken v) = (refl, tt)
  unending_operand o (bit_taken c n) = (refl, tt)
  unending_operand o (word_taken c n) = (refl, tt)
  unending_operand o (bracket_taken l os) = (refl, unending_join (load_code l ++ ops_code os) (Close ∷ []) (unending_join (load_code l) (ops_code os) (unending_load l) (unending_ops os)) (refl, tt))

module _ (at : ℕ → ℕ) where
  unending_act : (a : Act) → Unending (act_code at a)
  unending_act (bit_stored c n) = (refl, tt)
  unending_act (word_stored c n) = (refl, tt)
  unending_act (switched c on) = (refl, tt)
  unending_act (called l) = (refl, tt)

  mutual
    unending_command : (c : Command) → Unending (command_code at c)
    unending_command (loading l) = unending_load l
    unending_command (applying o x) = unending_operand o x
    unending_command (acting a) = unending_act a
    unending_command (choosing t cs b) = unending_choice (check_of t) (commands_code at cs) (unending_commands cs) b

    unending_commands : (cs : Cmds) → Unending (commands_code at cs)
    unending_commands done = tt
    unending_commands (and_then c cs) = unending_join (command_code at c) (commands_code at cs) (unending_command c) (unending_commands cs)

    unending_choice : (x : Check) (a : List Instruction) → Unending a → (b : Alternative) → Unending (choice_code at x a b)
    unending_choice x a p no_else = (refl, p)
    unending_choice x a p (else_do cs) =
        let b = commands_code at cs in
        (refl, unending_join (guarded a b) b (unending_join a (Skip (length b) ∷ []) p (refl, tt)) (unending_commands cs))

-- ---- places of modules
length_module : (n : ℕ) (cs : Cmds) (ms : List Module) → length (module_code n cs ms ++ code_from (n + size cs) ms) ≡ size cs + length (code_from (n + size cs) ms)
length_module n cs ms =
    let at = place_from (n + size cs) ms in
    omega (arith, length-append (module_code n cs ms) (code_from (n + size cs) ms), length-append (commands_code at cs) (Return ∷ []), length_commands at cs)

length_positive : (n : ℕ) (ms : List Module) → 0 < length (code_from n ms)
length_positive n [] = omega arith
length_positive n (module_of l cs ∷ ms) = omega (arith, length_module n cs ms)

between : (b : Bool) (n m z : ℕ) → n ≤ z → (n ≤ m) × (m < z) → n < z → (n ≤ cond b n m) × (cond b n m < z)
between true n m z p q r = (omega arith, r)
between false n m z p q r = q

pub place_between : (ms : List Module) (n l : ℕ) → (n ≤ place_from n ms l) × (place_from n ms l < n + length (code_from n ms))
place_between [] n l = (omega arith, omega arith)
place_between (module_of k cs ∷ ms) n l =
    let p = place_between ms (n + size cs) l in
    let e = length_module n cs ms in
    between (eqb l k) n (place_from (n + size cs) ms l) (n + length (module_code n cs ms ++ code_from (n + size cs) ms)) (omega arith) (omega (arith, p.0), omega (arith, p.1)) (omega arith)

module _ (program : List Instruction) where
  -- ---- what stands at a place
  has_length : (n : ℕ) (a : List Instruction) → Has program n a → n ≤ length program → n + length a ≤ length program
  has_length n a h le = omega (arith, length-drop n program, ap length h.1, length-append a h.0)

  unbroken_upto : (n : ℕ) (a : List Instruction) → Has program n a → Unending a → (k : ℕ) → k ≤ length a → unbroken program n k ≡ true
  unbroken_upto n a h p zero le = refl
  unbroken_upto n a h p (suc k) le =
      and_from (unbroken program n k) (not (ends (get_or program (n + k) Return))) (unbroken_upto n a h p k (omega arith))
      (ap not (ap ends (sym (get_or-drop n program k Return) ∙ ap (λ (l : List Instruction). get_or l k Return) h.1) ∙ unending_at a k p (omega arith) h.0))

  -- ---- each instruction of a may stand where it stands, the first at n
  abbrev Good : ℕ → List Instruction → Type 0
  Good n [] = Unit {0}
  Good n (i ∷ a) = (fine_as program (length program) n i ≡ true) × Good (n + 1) a

  good_join : (a b : List Instruction) (n : ℕ) → Good n a → Good (n + length a) b → Good n (a ++ b)
  good_join [] b n p q = let e : n + 0 ≡ n = omega arith in subst (λ (m : ℕ). Good m b) e q
  good_join (i ∷ a) b n p q = let e : n + suc (length a) ≡ n + 1 + length a = omega arith in (p.0, good_join a b (n + 1) p.1 (subst (λ (m : ℕ). Good m b) e q))

  good_at : (a : List Instruction) (n k : ℕ) → Good n a → k < length a → fine_as program (length program) (n + k) (get_or a k Return) ≡ true
  good_at [] n k p h = let z : ⊥ = omega arith in absurd z
  good_at (i ∷ a) n zero p h = let e : n ≡ n + 0 = omega arith in subst (λ (m : ℕ). fine_as program (length program) m i ≡ true) e p.0
  good_at (i ∷ a) n (suc k) p h = let e : n + 1 + k ≡ n + suc k = omega arith in subst (λ (m : ℕ). fine_as program (length program) m (get_or a k Return) ≡ true) e (good_at a (n + 1) k p.1 (omega arith))

  -- an instruction that goes on with the next
  goes_on : (n : ℕ) → n + 1 < length program → ltb (n + 1) (length program) && true ≡ true
  goes_on n h = and_from (ltb (n + 1) (length program)) true (lt-ltb (n + 1) (length program) h) refl

  -- calls lead behind a, to places of the code
  abbrev Leads : (ℕ → ℕ) → ℕ → Type 0
  Leads at m = (l : ℕ) → (m ≤ at l) × (at l < length program)

  -- wherever a stands with something behind it
  abbrev Sits : (ℕ → ℕ) → List Instruction → Type 0
  Sits at a = (n : ℕ) → n + length a < length program → Leads at (n + length a) → Has program n a → Good n a

  module _ (at : ℕ → ℕ) where
    sits_none : Sits at []
    sits_none n lt go h = tt

    sits_join : (a b : List Instruction) → Sits at a → Sits at b → Sits at (a ++ b)
    sits_join a b p q n lt go h =
        let e = length-append a b in
        let m : n + length a + length b ≡ n + length (a ++ b) = omega arith in
        good_join a b n
        (p n (omega arith) (λ l. (omega (arith, (go l).0), (go l).1)) (has_left program n a b h))
        (q (n + length a) (omega arith) (λ l. (omega (arith, (go l).0), (go l).1)) (has_right program n a b h))

    sits_when : (x : Check) (a : List Instruction) → known_check x ≡ true → Unending a → Sits at a → Sits at (when_code x a)
    sits_when x a k u p n lt go h =
        let g = has_right program n (Test x (length a) ∷ []) a h in (
          and_from (known_check x) (ltb (n + 1 + length a) (length program) && unbroken program (n + 1) (length a)) k
              (and_from (ltb (n + 1 + length a) (length program)) (unbroken program (n + 1) (length a)) (lt-ltb (n + 1 + length a) (length program) (omega arith)) (unbroken_upto (n + 1) a g u (length a) (omega arith))),
          p (n + 1) (omega arith) (λ l. (omega (arith, (go l).0), (go l).1)) g,
        )

    sits_either : (x : Check) (a b : List Instruction) → known_check x ≡ true → Unending a → Unending b → Sits at a → Sits at b → Sits at (either_code x a b)
    sits_either x a b k u v p q n lt go h =
        let s = Skip (length b) ∷ [] in
        let lg : length (guarded a b) ≡ length a + 1 = length-append a s in
        let lw = length-append (guarded a b) b in
        let g = has_right program n (Test x (length (guarded a b)) ∷ []) (guarded a b ++ b) h in
        let gl = has_left program (n + 1) (guarded a b) b g in
        let gr = has_right program (n + 1) (guarded a b) b g in
        let gs = has_right program (n + 1) a s gl in
        let gb = has_right program (n + 1 + length a) s b (has_both (n + 1) a s b g) in (
          and_from (known_check x) (ltb (n + 1 + length (guarded a b)) (length program) && unbroken program (n + 1) (length (guarded a b))) k
              (and_from (ltb (n + 1 + length (guarded a b)) (length program)) (unbroken program (n + 1) (length (guarded a b))) (lt-ltb (n + 1 + length (guarded a b)) (length program) (omega arith)) (unbroken_upto (n + 1) (guarded a b) gl (unending_join a s u (refl, tt)) (length (guarded a b)) (omega arith))),
          good_join (guarded a b) b (n + 1)
              (good_join a s (n + 1) (p (n + 1) (omega arith) (λ l. (omega (arith, (go l).0), (go l).1)) (has_left program (n + 1) a s gl))
              (and_from (ltb (n + 1 + length a + 1 + length b) (length program)) (unbroken program (n + 1 + length a + 1) (length b)) (lt-ltb (n + 1 + length a + 1 + length b) (length program) (omega arith)) (unbroken_upto (n + 1 + length a + 1) b gb v (length b) (omega arith)), tt))
              (q (n + 1 + length (guarded a b)) (omega arith) (λ l. (omega (arith, (go l).0), (go l).1)) gr),
        )
      where
        has_both : (m : ℕ) (c d e : List Instruction) → Has program m ((c ++ d) ++ e) → Has program (m + length c) (d ++ e)
        has_both m c d e w = has_right program m c (d ++ e) (subst (λ (l : List Instruction). Has program m l) (append_assoc c d e) w)

    -- ---- loads and operators, whose cells are known; r stands behind them
    sits_plain : (i : Instruction) → ((n : ℕ) → n + 1 < length program → fine_as program (length program) n i ≡ true) → Sits at (i ∷ [])
    sits_plain i f n lt go h = (f n lt, tt)

    sits_bracket : (j : Option Operator) (l : LoadTree) (os : Ops) → Sits at (load_code l) → Sits at (ops_code os) → Sits at (bracket_code j (load_code l ++ ops_code os))
    sits_bracket j l os p q =
        sits_join (Open j ∷ []) ((load_code l ++ ops_code os) ++ (Close ∷ [])) (sits_plain (Open j) goes_on)
        (sits_join (load_code l ++ ops_code os) (Close ∷ []) (sits_join (load_code l) (ops_code os) p q) (sits_plain Close goes_on))

    -- with a known cell
    cell : (b : Bool) → b ≡ true → (n : ℕ) → n + 1 < length program → b && (ltb (n + 1) (length program) && true) ≡ true
    cell b e n h = and_from b (ltb (n + 1) (length program) && true) e (goes_on n h)

    mutual
      sits_load : (l : LoadTree) (r : List Kind) → AllKnown (spell_load l r) → Sits at (load_code l) × AllKnown r
      sits_load (number_loaded v) r k = (sits_plain (Load (Number v)) goes_on, k.1)
      sits_load (bit_loaded c x) r k = (sits_plain (Load (Bit c x)) (cell _ k.0), k.1)
      sits_load (word_loaded c x) r k = (sits_plain (Load (Word c x)) (cell _ k.0), k.1)
      sits_load (bracket_loaded l os) r k =
          let p = sits_load l (spell_ops os (bracket_closes ∷ r)) k.1 in
          let q = sits_ops os (bracket_closes ∷ r) p.1 in
          (sits_bracket None l os p.0 q.0, q.1.1)

      sits_ops : (os : Ops) (r : List Kind) → AllKnown (spell_ops os r) → Sits at (ops_code os) × AllKnown r
      sits_ops no_more r k = (sits_none, k)
      sits_ops (apply_then o x os) r k =
          let p = sits_operand o x (spell_ops os r) k.1 in
          let q = sits_ops os r p.1 in
          (sits_join (operand_code o x) (ops_code os) p.0 q.0, q.1)

      sits_operand : (o : Operator) (x : Operand) (r : List Kind) → AllKnown (spell_operand x r) → Sits at (operand_code o x) × AllKnown r
      sits_operand o (number_taken v) r k = (sits_plain (Apply o (Number v)) goes_on, k.1)
      sits_operand o (bit_taken c x) r k = (sits_plain (Apply o (Bit c x)) (cell _ k.0), k.1)
      sits_operand o (word_taken c x) r k = (sits_plain (Apply o (Word c x)) (cell _ k.0), k.1)
      sits_operand o (bracket_taken l os) r k =
          let p = sits_load l (spell_ops os (bracket_closes ∷ r)) k.1 in
          let q = sits_ops os (bracket_closes ∷ r) p.1 in
          (sits_bracket (Some o) l os p.0 q.0, q.1.1)

    sits_call : (l : ℕ) → Sits at (Call (at l) ∷ [])
    sits_call l n lt go h = (
      and_from (ltb n (at l) && ltb (at l) (length program)) true
          (and_from (ltb n (at l)) (ltb (at l) (length program)) (lt-ltb n (at l) (omega (arith, (go l).0))) (lt-ltb (at l) (length program) (go l).1)) refl,
      tt,
    )

    sits_act : (a : Act) (r : List Kind) → AllKnown (spell_act a r) → Sits at (act_code at a) × AllKnown r
    sits_act (bit_stored c x) r k = (sits_plain (StoreBit c x) (cell _ k.0), k.1)
    sits_act (word_stored c x) r k = (sits_plain (StoreWord c x) (cell _ k.0), k.1)
    sits_act (switched c on) r k = (sits_plain (Switch c on) (cell _ k.0), k.1)
    sits_act (called l) r k = (sits_call l, k.1)

    known_test : (t : TestTree) (r : List Kind) → AllKnown (spell_test t r) → (known_check (check_of t) ≡ true) × AllKnown r
    known_test (bit_tested c x) r k = k
    known_test (compared o (with_number v)) r k = (refl, k.1.1)
    known_test (compared o (with_word c x)) r k = k.1

    mutual
      sits_command : (c : Command) (r : List Kind) → AllKnown (spell_command c r) → Sits at (command_code at c) × AllKnown r
      sits_command (loading l) r k = sits_load l r k
      sits_command (applying o x) r k = sits_operand o x r k.1
      sits_command (acting a) r k = sits_act a r k
      sits_command (choosing t cs b) r k =
          let c = known_test t (spell_cmds cs (spell_alternative b (end_of_condition ∷ r))) k in
          let p = sits_commands cs (spell_alternative b (end_of_condition ∷ r)) c.1 in
          sits_choice (check_of t) (commands_code at cs) c.0 (unending_commands at cs) p.0 b r p.1

      sits_commands : (cs : Cmds) (r : List Kind) → AllKnown (spell_cmds cs r) → Sits at (commands_code at cs) × AllKnown r
      sits_commands done r k = (sits_none, k)
      sits_commands (and_then c cs) r k =
          let p = sits_command c (spell_cmds cs r) k in
          let q = sits_commands cs r p.1 in
          (sits_join (command_code at c) (commands_code at cs) p.0 q.0, q.1)

      sits_choice : (x : Check) (a : List Instruction) → known_check x ≡ true → Unending a → Sits at a → (b : Alternative) (r : List Kind) → AllKnown (spell_alternative b (end_of_condition ∷ r)) → Sits at (choice_code at x a b) × AllKnown r
      sits_choice x a c u p no_else r k = (sits_when x a c u p, k.1)
      sits_choice x a c u p (else_do cs) r k =
          let q = sits_commands cs (end_of_condition ∷ r) k.1 in
          (sits_either x a (commands_code at cs) c u (unending_commands at cs) p q.0, q.1.1)

  -- ---- modules, which stand at n
  good_modules : (ms : List Module) (n : ℕ) → AllKnown (spell_modules ms []) → n + length (code_from n ms) ≡ length program → Has program n (code_from n ms) → Good n (code_from n ms)
  good_modules [] n k e h = (refl, tt)
  good_modules (module_of l cs ∷ ms) n k e h =
      let at = place_from (n + size cs) ms in
      let a = commands_code at cs in
      let b = code_from (n + size cs) ms in
      let la : length a + 1 ≡ size cs = ap (λ m. m + 1) (length_commands at cs) in
      let lm : length (module_code n cs ms) ≡ length a + 1 = length-append a (Return ∷ []) in
      let lw = length-append (module_code n cs ms) b in
      let lb = length_positive (n + size cs) ms in
      let hl = has_left program n (module_code n cs ms) b h in
      let m : n + length (module_code n cs ms) ≡ n + size cs = omega arith in
      let p = sits_commands at cs (closing l ∷ spell_modules ms []) k.1 in
      good_join (module_code n cs ms) b n
      (good_join a (Return ∷ []) n (p.0 n (omega arith) (λ j. (omega (arith, (place_between ms (n + size cs) j).0), omega (arith, (place_between ms (n + size cs) j).1))) (has_left program n a (Return ∷ []) hl)) (refl, tt))
      (subst (λ (x : ℕ). Good x b) (sym m) (good_modules ms (n + size cs) p.1.1 (omega arith) (subst (λ (x : ℕ). Has program x b) m (has_right program n (module_code n cs ms) b h))))

  all_fine_upto : (m : ℕ) → ((k : ℕ) → k < m → fine program (length program) k ≡ true) → all_fine program (length program) m ≡ true
  all_fine_upto zero f = refl
  all_fine_upto (suc m) f = and_from (all_fine program (length program) m) (fine program (length program) m) (all_fine_upto m (λ k h. f k (omega arith))) (f m (omega arith))

pub sound_code : SoundCode
sound_code ms k le =
    let a = code ms in
    let n = length a in
    let g = good_modules a ms 0 k (omega arith) ([], sym (append-nil a)) in
    let f = λ (i : ℕ) (h : i < n). let e : 0 + i ≡ i = omega arith in subst (λ (m : ℕ). fine_as a n m (get_or a i Return) ≡ true) e (good_at a a 0 i g h) in
    and_from (leb n 2048) _ (le-leb n 2048 le)
    (and_from (ltb (place_of ms 1) n) _ (lt-ltb (place_of ms 1) n (omega (arith, (place_between ms 0 1).1)))
    (and_from (ltb (place_of ms 0) n) _ (lt-ltb (place_of ms 0) n (omega (arith, (place_between ms 0 0).1))) (all_fine_upto a n f)))
