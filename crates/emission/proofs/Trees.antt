-- The code by tokens of what modules are written as is the code of the modules. Assumes nothing.
use Rattle.std.proofs.Common.{◌≡◌, ℕ, suc, ◌+◌, Bool, true, false, cond, eqb, List, [], ◌∷◌, ◌++◌, length, sym, refl, ap, ◌∙◌, append_assoc, arith, length-append, Some, None, Option}
use Rattle.tokens.specs.declared.Operator.{Operator}
use Rattle.tokens.specs.Tokens.{Kind, bracket_closes, end_of_condition, end_of_level, return}
use Rattle.grammar.specs.Grammar.{Load as LoadTree, number_loaded, bit_loaded, word_loaded, bracket_loaded, Ops, no_more, apply_then, Operand as OperandTree, number_taken, bit_taken, word_taken, bracket_taken, Act, bit_stored, word_stored, switched, called, with_number, with_word, Test as TestTree, bit_tested, compared, Command, loading, applying, acting, choosing, Cmds, done, and_then, Alternative, no_else, else_do, Module, module_of, closing, spell_load, spell_ops, spell_operand, spell_act, spell_test, spell_command, spell_cmds, spell_alternative, spell_modules}
use Rattle.program.specs.declared.instruction.Check.{Check}
use Rattle.program.specs.declared.instruction.Instruction.{Instruction}
use Rattle.program.specs.declared.instruction.Instruction.TheVariants.{Return, Open, Close, Test, Skip, Call}
use Rattle.meaning.specs.Code.{bracket_code, guarded, load_code, ops_code, operand_code, check_of, act_code, command_code, commands_code, choice_code, size, place_from, module_code, code_from}
use Rattle.meaning.proofs.Sound.{length_commands}
use Rattle.emission.specs.declared.parts.Pending.TheVariants.{Operand}
use Rattle.emission.specs.Emission.{branch, place_in, instructions}
use Rattle.emission.specs.Claims.{CodeByTokens, PlacesByTokens}

-- how many instructions a run of commands has
abbrev sized : Cmds → ℕ
sized cs = length (commands_code (λ l. 0) cs)

abbrev sized_one : Command → ℕ
sized_one c = length (command_code (λ l. 0) c)

-- ---- what a tree adds to the branch that it stands in
branch_bracket : (j : Option Operator) (l : LoadTree) (os : Ops) (n m k : ℕ) → n ≡ length (load_code l) + m → m ≡ length (ops_code os) + (1 + k) → 1 + n ≡ length (bracket_code j (load_code l ++ ops_code os)) + k
branch_bracket j l os n m k e f = simp length-append (omega arith)

mutual
  branch_load : (l : LoadTree) (d : ℕ) (r : List Kind) → branch d (spell_load l r) ≡ length (load_code l) + branch d r
  branch_load (number_loaded v) d r = refl
  branch_load (bit_loaded c n) d r = refl
  branch_load (word_loaded c n) d r = refl
  branch_load (bracket_loaded l os) d r = branch_bracket None l os _ _ (branch d r) (branch_load l d (spell_ops os (bracket_closes ∷ r))) (branch_ops os d (bracket_closes ∷ r))

  branch_ops : (os : Ops) (d : ℕ) (r : List Kind) → branch d (spell_ops os r) ≡ length (ops_code os) + branch d r
  branch_ops no_more d r = omega arith
  branch_ops (apply_then o x os) d r = omega (arith, branch_operand o x d (spell_ops os r), branch_ops os d r, length-append (operand_code o x) (ops_code os))

  branch_operand : (o : Operator) (x : OperandTree) (d : ℕ) (r : List Kind) → branch d (spell_operand x r) ≡ length (operand_code o x) + branch d r
  branch_operand o (number_taken v) d r = refl
  branch_operand o (bit_taken c n) d r = refl
  branch_operand o (word_taken c n) d r = refl
  branch_operand o (bracket_taken l os) d r = branch_bracket (Some o) l os _ _ (branch d r) (branch_load l d (spell_ops os (bracket_closes ∷ r))) (branch_ops os d (bracket_closes ∷ r))

branch_act : (a : Act) (d : ℕ) (r : List Kind) → branch d (spell_act a r) ≡ length (act_code (λ l. 0) a) + branch d r
branch_act (bit_stored c n) d r = refl
branch_act (word_stored c n) d r = refl
branch_act (switched c on) d r = refl
branch_act (called l) d r = refl

branch_test : (t : TestTree) (d : ℕ) (r : List Kind) → branch d (spell_test t r) ≡ 1 + branch (suc d) r
branch_test (bit_tested c n) d r = refl
branch_test (compared o (with_number v)) d r = omega arith
branch_test (compared o (with_word c n)) d r = omega arith

mutual
  branch_command : (c : Command) (d : ℕ) (r : List Kind) → branch d (spell_command c r) ≡ sized_one c + branch d r
  branch_command (loading l) d r = branch_load l d r
  branch_command (applying o x) d r = omega (arith, branch_operand o x d r)
  branch_command (acting a) d r = branch_act a d r
  branch_command (choosing t cs b) d r =
      branch_test t d (spell_cmds cs (spell_alternative b (end_of_condition ∷ r)))
      ∙ branch_choice (check_of t) (commands_code (λ l. 0) cs) b d r (branch (suc d) (spell_cmds cs (spell_alternative b (end_of_condition ∷ r)))) (branch_cmds cs (suc d) (spell_alternative b (end_of_condition ∷ r)))

  pub branch_cmds : (cs : Cmds) (d : ℕ) (r : List Kind) → branch d (spell_cmds cs r) ≡ sized cs + branch d r
  branch_cmds done d r = omega arith
  branch_cmds (and_then c cs) d r = omega (arith, branch_command c d (spell_cmds cs r), branch_cmds cs d r, length-append (command_code (λ l. 0) c) (commands_code (λ l. 0) cs))

  -- behind a true branch a
  branch_choice : (x : Check) (a : List Instruction) (b : Alternative) (d : ℕ) (r : List Kind) (m : ℕ) → m ≡ length a + branch (suc d) (spell_alternative b (end_of_condition ∷ r)) → 1 + m ≡ length (choice_code (λ l. 0) x a b) + branch d r
  branch_choice x a no_else d r m e = omega arith
  branch_choice x a (else_do ds) d r m e =
      let z = commands_code (λ l. 0) ds in
      omega (arith, branch_cmds ds (suc d) (end_of_condition ∷ r), length-append (guarded a z) z, length-append a (Skip (length z) ∷ []))

-- ---- how far a tree moves the places behind it
module _ (l : ℕ) where
  moved : (n m : ℕ) (r : List Kind) → n ≡ m → place_in l n r ≡ place_in l m r
  moved n m r e = ap (λ k. place_in l k r) e

  place_bracket : (j : Option Operator) (t : LoadTree) (os : Ops) (n : ℕ) (r : List Kind) → ((m : ℕ) (q : List Kind) → place_in l m (spell_load t q) ≡ place_in l (m + length (load_code t)) q) → ((m : ℕ) (q : List Kind) → place_in l m (spell_ops os q) ≡ place_in l (m + length (ops_code os)) q) → place_in l (n + 1) (spell_load t (spell_ops os (bracket_closes ∷ r))) ≡ place_in l (n + length (bracket_code j (load_code t ++ ops_code os))) r
  place_bracket j t os n r f g =
      f (n + 1) (spell_ops os (bracket_closes ∷ r)) ∙ g (n + 1 + length (load_code t)) (bracket_closes ∷ r)
      ∙ moved (n + 1 + length (load_code t) + length (ops_code os) + 1) (n + length (bracket_code j (load_code t ++ ops_code os))) r (omega (arith, length-append (load_code t ++ ops_code os) (Close ∷ []), length-append (load_code t) (ops_code os)))

  mutual
    place_load : (t : LoadTree) (n : ℕ) (r : List Kind) → place_in l n (spell_load t r) ≡ place_in l (n + length (load_code t)) r
    place_load (number_loaded v) n r = refl
    place_load (bit_loaded c x) n r = refl
    place_load (word_loaded c x) n r = refl
    place_load (bracket_loaded t os) n r = place_bracket None t os n r (place_load t) (place_ops os)

    place_ops : (os : Ops) (n : ℕ) (r : List Kind) → place_in l n (spell_ops os r) ≡ place_in l (n + length (ops_code os)) r
    place_ops no_more n r = moved n (n + 0) r (omega arith)
    place_ops (apply_then o x os) n r =
        moved (n + 0) n (spell_operand x (spell_ops os r)) (omega arith) ∙ place_operand o x n (spell_ops os r)
        ∙ place_ops os (n + length (operand_code o x)) r
        ∙ moved (n + length (operand_code o x) + length (ops_code os)) (n + length (operand_code o x ++ ops_code os)) r (omega (arith, length-append (operand_code o x) (ops_code os)))

    place_operand : (o : Operator) (x : OperandTree) (n : ℕ) (r : List Kind) → place_in l n (spell_operand x r) ≡ place_in l (n + length (operand_code o x)) r
    place_operand o (number_taken v) n r = refl
    place_operand o (bit_taken c x) n r = refl
    place_operand o (word_taken c x) n r = refl
    place_operand o (bracket_taken t os) n r = place_bracket (Some o) t os n r (place_load t) (place_ops os)

  place_act : (a : Act) (n : ℕ) (r : List Kind) → place_in l n (spell_act a r) ≡ place_in l (n + length (act_code (λ k. 0) a)) r
  place_act (bit_stored c x) n r = refl
  place_act (word_stored c x) n r = refl
  place_act (switched c on) n r = refl
  place_act (called k) n r = refl

  place_test : (t : TestTree) (n : ℕ) (r : List Kind) → place_in l n (spell_test t r) ≡ place_in l (n + 1) r
  place_test (bit_tested c x) n r = refl
  place_test (compared o (with_number v)) n r = moved (n + 0 + 1) (n + 1) r (omega arith)
  place_test (compared o (with_word c x)) n r = moved (n + 0 + 1) (n + 1) r (omega arith)

  mutual
    place_command : (c : Command) (n : ℕ) (r : List Kind) → place_in l n (spell_command c r) ≡ place_in l (n + sized_one c) r
    place_command (loading t) n r = place_load t n r
    place_command (applying o x) n r = moved (n + 0) n (spell_operand x r) (omega arith) ∙ place_operand o x n r
    place_command (acting a) n r = place_act a n r
    place_command (choosing t cs b) n r =
        place_test t n (spell_cmds cs (spell_alternative b (end_of_condition ∷ r)))
        ∙ place_cmds cs (n + 1) (spell_alternative b (end_of_condition ∷ r))
        ∙ place_choice (check_of t) (commands_code (λ k. 0) cs) b n r

    pub place_cmds : (cs : Cmds) (n : ℕ) (r : List Kind) → place_in l n (spell_cmds cs r) ≡ place_in l (n + sized cs) r
    place_cmds done n r = moved n (n + 0) r (omega arith)
    place_cmds (and_then c cs) n r =
        place_command c n (spell_cmds cs r) ∙ place_cmds cs (n + sized_one c) r
        ∙ moved (n + sized_one c + sized cs) (n + length (command_code (λ k. 0) c ++ commands_code (λ k. 0) cs)) r (omega (arith, length-append (command_code (λ k. 0) c) (commands_code (λ k. 0) cs)))

    place_choice : (x : Check) (a : List Instruction) (b : Alternative) (n : ℕ) (r : List Kind) → place_in l (n + 1 + length a) (spell_alternative b (end_of_condition ∷ r)) ≡ place_in l (n + length (choice_code (λ k. 0) x a b)) r
    place_choice x a no_else n r = moved (n + 1 + length a + 0) (n + suc (length a)) r (omega arith)
    place_choice x a (else_do ds) n r =
        let z = commands_code (λ k. 0) ds in
        place_cmds ds (n + 1 + length a + 1) (end_of_condition ∷ r)
        ∙ moved (n + 1 + length a + 1 + length z + 0) (n + suc (length (guarded a z ++ z))) r (omega (arith, length-append (guarded a z) z, length-append a (Skip (length z) ∷ [])))

-- ---- the token that ends a module
abbrev ender : Bool → Bool → Kind
ender b c = cond b (end_of_level 1) (cond c (end_of_level 0) return)

place_ender : (b c : Bool) (l n : ℕ) (r : List Kind) → place_in l n (ender b c ∷ r) ≡ place_in l (n + 1) r
place_ender true c l n r = refl
place_ender false true l n r = refl
place_ender false false l n r = refl

made_ender : (b c : Bool) (n : ℕ) (r : List Kind) → instructions None n (ender b c ∷ r) ≡ Return ∷ instructions None (n + 1) r
made_ender true c n r = refl
made_ender false true n r = refl
made_ender false false n r = refl

places_from : (ms : List Module) (l n : ℕ) → place_in l n (spell_modules ms []) ≡ place_from n ms l
places_from [] l n = refl
places_from (module_of k cs ∷ ms) l n =
    ap (λ m. cond (eqb l k) n m)
    (place_cmds l cs (n + 0) (closing k ∷ spell_modules ms [])
    ∙ place_ender (eqb k 1) (eqb k 0) l (n + 0 + sized cs) (spell_modules ms [])
    ∙ places_from ms l (n + 0 + sized cs + 1)
    ∙ (let e : n + 0 + sized cs + 1 ≡ n + size cs = omega arith in ap (λ m. place_from m ms l) e))

pub places_by_tokens : PlacesByTokens
places_by_tokens ms l = places_from ms l 0

-- ---- the instructions of a tree, and those behind it
following : (n m : ℕ) (r : List Kind) → n ≡ m → instructions None n r ≡ instructions None m r
following n m r e = ap (λ k. instructions None k r) e

bracket_made : (j : Option Operator) (a b : List Instruction) (n m : ℕ) (r : List Kind) → m ≡ n + length (bracket_code j (a ++ b)) → Open j ∷ (a ++ (b ++ (Close ∷ instructions None m r))) ≡ bracket_code j (a ++ b) ++ instructions None (n + length (bracket_code j (a ++ b))) r
bracket_made j a b n m r e =
    ap (λ k. Open j ∷ k)
    (sym (append_assoc a b (Close ∷ instructions None m r))
    ∙ ap (λ k. (a ++ b) ++ (Close ∷ k)) (following m (n + length (bracket_code j (a ++ b))) r e)
    ∙ sym (append_assoc (a ++ b) (Close ∷ []) (instructions None (n + length (bracket_code j (a ++ b))) r)))

bracket_size : (j : Option Operator) (t : LoadTree) (os : Ops) (n : ℕ) → n + 1 + length (load_code t) + length (ops_code os) + 1 ≡ n + length (bracket_code j (load_code t ++ ops_code os))
bracket_size j t os n = omega (arith, length-append (load_code t ++ ops_code os) (Close ∷ []), length-append (load_code t) (ops_code os))

whole_bracket : (j : Option Operator) (t : LoadTree) (os : Ops) (n : ℕ) (r : List Kind) → ((m : ℕ) (q : List Kind) → instructions None m (spell_load t q) ≡ load_code t ++ instructions None (m + length (load_code t)) q) → ((m : ℕ) (q : List Kind) → instructions None m (spell_ops os q) ≡ ops_code os ++ instructions None (m + length (ops_code os)) q) → Open j ∷ instructions None (n + 1) (spell_load t (spell_ops os (bracket_closes ∷ r))) ≡ bracket_code j (load_code t ++ ops_code os) ++ instructions None (n + length (bracket_code j (load_code t ++ ops_code os))) r
whole_bracket j t os n r f g =
    ap (λ k. Open j ∷ k) (f (n + 1) (spell_ops os (bracket_closes ∷ r)) ∙ ap (λ k. load_code t ++ k) (g (n + 1 + length (load_code t)) (bracket_closes ∷ r)))
    ∙ bracket_made j (load_code t) (ops_code os) n (n + 1 + length (load_code t) + length (ops_code os) + 1) r (bracket_size j t os n)

mutual
  load_made : (t : LoadTree) (n : ℕ) (r : List Kind) → instructions None n (spell_load t r) ≡ load_code t ++ instructions None (n + length (load_code t)) r
  load_made (number_loaded v) n r = refl
  load_made (bit_loaded c x) n r = refl
  load_made (word_loaded c x) n r = refl
  load_made (bracket_loaded t os) n r = whole_bracket None t os n r (load_made t) (ops_made os)

  ops_made : (os : Ops) (n : ℕ) (r : List Kind) → instructions None n (spell_ops os r) ≡ ops_code os ++ instructions None (n + length (ops_code os)) r
  ops_made no_more n r = following n (n + 0) r (omega arith)
  ops_made (apply_then o x os) n r =
      operand_made o x (n + 0) (spell_ops os r)
      ∙ ap (λ k. operand_code o x ++ k) (ops_made os (n + 0 + length (operand_code o x)) r)
      ∙ sym (append_assoc (operand_code o x) (ops_code os) (instructions None (n + 0 + length (operand_code o x) + length (ops_code os)) r))
      ∙ ap (λ k. (operand_code o x ++ ops_code os) ++ k) (following (n + 0 + length (operand_code o x) + length (ops_code os)) (n + length (operand_code o x ++ ops_code os)) r (omega (arith, length-append (operand_code o x) (ops_code os))))

  operand_made : (o : Operator) (x : OperandTree) (n : ℕ) (r : List Kind) → instructions (Some (Operand o)) n (spell_operand x r) ≡ operand_code o x ++ instructions None (n + length (operand_code o x)) r
  operand_made o (number_taken v) n r = refl
  operand_made o (bit_taken c x) n r = refl
  operand_made o (word_taken c x) n r = refl
  operand_made o (bracket_taken t os) n r = whole_bracket (Some o) t os n r (load_made t) (ops_made os)

test_made : (t : TestTree) (n : ℕ) (r : List Kind) → instructions None n (spell_test t r) ≡ Test (check_of t) (branch 0 r) ∷ instructions None (n + 1) r
test_made (bit_tested c x) n r = refl
test_made (compared o (with_number v)) n r = ap (λ k. Test (check_of (compared o (with_number v))) (branch 0 r) ∷ k) (following (n + 0 + 1) (n + 1) r (omega arith))
test_made (compared o (with_word c x)) n r = ap (λ k. Test (check_of (compared o (with_word c x))) (branch 0 r) ∷ k) (following (n + 0 + 1) (n + 1) r (omega arith))

-- a condition put together, with its false branch b
when_made : (x : Check) (a : List Instruction) (k n m : ℕ) (r : List Kind) → k ≡ length a → n ≡ m → Test x k ∷ (a ++ instructions None n r) ≡ (Test x (length a) ∷ a) ++ instructions None m r
when_made x a k n m r e f = λ j. Test x (e j) ∷ (a ++ instructions None (f j) r)

either_made : (x : Check) (a b : List Instruction) (k i n m : ℕ) (r : List Kind) → k ≡ length (guarded a b) → i ≡ length b → n ≡ m → Test x k ∷ (a ++ (Skip i ∷ (b ++ instructions None n r))) ≡ (Test x (length (guarded a b)) ∷ (guarded a b ++ b)) ++ instructions None m r
either_made x a b k i n m r e f g =
    (λ j. Test x (e j) ∷ (a ++ (Skip (f j) ∷ (b ++ instructions None (g j) r))))
    ∙ ap (λ y. Test x (length (guarded a b)) ∷ y) (sym (append_assoc a (Skip (length b) ∷ []) (b ++ instructions None m r)) ∙ sym (append_assoc (guarded a b) b (instructions None m r)))

-- ---- commands, where at says where the calls go: to the labels behind
module _ (at : ℕ → ℕ) where
  act_made : (a : Act) (n : ℕ) (r : List Kind) → ((l : ℕ) → at l ≡ place_in l (n + length (act_code (λ k. 0) a)) r) → instructions None n (spell_act a r) ≡ act_code at a ++ instructions None (n + length (act_code (λ k. 0) a)) r
  act_made (bit_stored c x) n r h = refl
  act_made (word_stored c x) n r h = refl
  act_made (switched c on) n r h = refl
  act_made (called l) n r h = ap (λ p. Call p ∷ instructions None (n + 1) r) (sym (h l))

  mutual
    command_made : (c : Command) (n : ℕ) (r : List Kind) → ((l : ℕ) → at l ≡ place_in l (n + sized_one c) r) → instructions None n (spell_command c r) ≡ command_code at c ++ instructions None (n + sized_one c) r
    command_made (loading t) n r h = load_made t n r
    command_made (applying o x) n r h =
        operand_made o x (n + 0) r
        ∙ ap (λ k. operand_code o x ++ k) (following (n + 0 + length (operand_code o x)) (n + length (operand_code o x)) r (omega arith))
    command_made (acting a) n r h = act_made a n r h
    command_made (choosing t cs b) n r h =
        let q = spell_alternative b (end_of_condition ∷ r) in
        test_made t n (spell_cmds cs q)
        ∙ (λ j. Test (check_of t) (branch_cmds cs 0 q j) ∷ cmds_made cs (n + 1) q (λ l. h l ∙ sym (place_choice l (check_of t) (commands_code (λ k. 0) cs) b n r)) j)
        ∙ choice_made (check_of t) (commands_code at cs) (commands_code (λ k. 0) cs) (length_commands at cs) b n r h

    cmds_made : (cs : Cmds) (n : ℕ) (r : List Kind) → ((l : ℕ) → at l ≡ place_in l (n + sized cs) r) → instructions None n (spell_cmds cs r) ≡ commands_code at cs ++ instructions None (n + sized cs) r
    cmds_made done n r h = following n (n + 0) r (omega arith)
    cmds_made (and_then c cs) n r h =
        let e : n + sized_one c + sized cs ≡ n + length (command_code (λ k. 0) c ++ commands_code (λ k. 0) cs) = omega (arith, length-append (command_code (λ k. 0) c) (commands_code (λ k. 0) cs)) in
        let g = λ (l : ℕ). h l ∙ ap (λ m. place_in l m r) (sym e) in
        command_made c n (spell_cmds cs r) (λ l. g l ∙ sym (place_cmds l cs (n + sized_one c) r))
        ∙ ap (λ k. command_code at c ++ k) (cmds_made cs (n + sized_one c) r g)
        ∙ sym (append_assoc (command_code at c) (commands_code at cs) (instructions None (n + sized_one c + sized cs) r))
        ∙ ap (λ k. (command_code at c ++ commands_code at cs) ++ k) (following (n + sized_one c + sized cs) (n + length (command_code (λ k. 0) c ++ commands_code (λ k. 0) cs)) r e)

    -- a test with its true branch, whose code is a, or z where calls go nowhere
    choice_made : (x : Check) (a z : List Instruction) → length a ≡ length z → (b : Alternative) (n : ℕ) (r : List Kind) → ((l : ℕ) → at l ≡ place_in l (n + length (choice_code (λ k. 0) x z b)) r) → Test x (length z + branch 0 (spell_alternative b (end_of_condition ∷ r))) ∷ (a ++ instructions None (n + 1 + length z) (spell_alternative b (end_of_condition ∷ r))) ≡ choice_code at x a b ++ instructions None (n + length (choice_code (λ k. 0) x z b)) r
    choice_made x a z e no_else n r h = when_made x a (length z + 0) (n + 1 + length z + 0) (n + suc (length z)) r (omega arith) (omega arith)
    choice_made x a z e (else_do ds) n r h =
        let b = commands_code at ds in
        let y = commands_code (λ k. 0) ds in
        let i = branch 0 (spell_cmds ds (end_of_condition ∷ r)) in
        let s : n + 1 + length z + 1 + length y + 0 ≡ n + suc (length (guarded z y ++ y)) = omega (arith, length-append (guarded z y) y, length-append z (Skip (length y) ∷ [])) in
        ap (λ k. Test x (length z + 1) ∷ (a ++ (Skip i ∷ k))) (cmds_made ds (n + 1 + length z + 1) (end_of_condition ∷ r) (λ l. h l ∙ ap (λ m. place_in l m r) (sym s)))
        ∙ either_made x a b (length z + 1) i (n + 1 + length z + 1 + length y + 0) (n + suc (length (guarded z y ++ y))) r (omega (arith, length-append a (Skip (length b) ∷ []))) (omega (arith, branch_cmds ds 0 (end_of_condition ∷ r), length_commands at ds)) s

-- ---- modules
code_made : (ms : List Module) (n : ℕ) → instructions None n (spell_modules ms []) ++ (Return ∷ []) ≡ code_from n ms
code_made [] n = refl
code_made (module_of k cs ∷ ms) n =
    let rest = spell_modules ms [] in
    let at = place_from (n + size cs) ms in
    let s : n + 0 + sized cs + 1 ≡ n + size cs = omega arith in
    let goes = λ (l : ℕ). sym (places_from ms l (n + size cs)) ∙ ap (λ m. place_in l m rest) (sym s) ∙ sym (place_ender (eqb k 1) (eqb k 0) l (n + 0 + sized cs) rest) in
    ap (λ i. i ++ (Return ∷ []))
    (cmds_made at cs (n + 0) (closing k ∷ rest) goes
    ∙ ap (λ i. commands_code at cs ++ i) (made_ender (eqb k 1) (eqb k 0) (n + 0 + sized cs) rest)
    ∙ sym (append_assoc (commands_code at cs) (Return ∷ []) (instructions None (n + 0 + sized cs + 1) rest)))
    ∙ append_assoc (module_code n cs ms) (instructions None (n + 0 + sized cs + 1) rest) (Return ∷ [])
    ∙ ap (λ i. module_code n cs ms ++ i) (ap (λ m. instructions None m rest ++ (Return ∷ [])) s ∙ code_made ms (n + size cs))

pub code_by_tokens : CodeByTokens
code_by_tokens ms = code_made ms 0
