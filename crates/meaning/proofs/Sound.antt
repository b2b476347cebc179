-- The code of a list goes through the states that the list means. Assumes nothing.
use Rattle.std.proofs.Common.{◌≡◌, ℕ, zero, suc, ◌+◌, ◌≤◌, max, Bool, true, false, cond, eqb, List, [], ◌∷◌, ◌++◌, length, get_or, sym, refl, ap, ◌∙◌, subst, le_of_suc-le-suc, arith, length-append, ne_eqb, Some, None, Option}
use lib.Dec.{eqb-suc-suc}
use Rattle.tokens.specs.declared.Operator.{Operator}
use Rattle.tokens.specs.declared.Comparison.{Comparison}
use Rattle.grammar.specs.Grammar.{Load as LoadTree, number_loaded, bit_loaded, word_loaded, bracket_loaded, Ops, no_more, apply_then, Operand, number_taken, bit_taken, word_taken, bracket_taken, Act, bit_stored, word_stored, switched, called, Comparand, with_number, with_word, Test as TestTree, bit_tested, compared, Command, loading, applying, acting, choosing, Cmds, done, and_then, Alternative, no_else, else_do, Module, module_of}
use Rattle.program.specs.declared.instruction.Source.TheVariants.{Number, Bit, Word}
use Rattle.program.specs.declared.instruction.Check.{Check}
use Rattle.program.specs.declared.instruction.Instruction.{Instruction}
use Rattle.program.specs.declared.instruction.Instruction.TheVariants.{Load, Apply, StoreBit, StoreWord, Switch}
use Rattle.program.specs.Cells.{Sight, State, bit_value, word_value, turned_bit, turned_word, combined, with_op, store_bit_of, store_word_of, switch_bit_of}
use Rattle.program.specs.Machine.{Config, going, joined, met, tick, ticks}
use Rattle.meaning.specs.Meaning.{Trail, nothing, unchanged, thence, bracketed, load_trail, ops_trail, operand_trail, holds, act_trail, command_trail, commands_trail, choice_trail, meanings, trail}
use Rattle.meaning.specs.Code.{bracket_code, load_code, ops_code, operand_code, check_of, act_code, command_code, commands_code, choice_code, size, place_from, module_code, code_from, code, place_of}
use Rattle.meaning.specs.Nesting.{load_depth, ops_depth, operand_depth, act_depth, command_depth, commands_depth, alternative_depth, depth}
use Rattle.meaning.specs.Claims.{RunsAsMeant}
use Rattle.meaning.proofs.Fragments.{Has, has_left, has_right, Follows, Runs, runs_nothing, runs_single, runs_thence, runs_bracketed, runs_when, runs_either, Serves, runs_calling, Works, works_module}

-- ---- where the calls go does not change a length
length_act : (at : ℕ → ℕ) (a : Act) → length (act_code at a) ≡ length (act_code (λ l. 0) a)
length_act at (bit_stored c n) = refl
length_act at (word_stored c n) = refl
length_act at (switched c on) = refl
length_act at (called l) = refl

mutual
  length_command : (at : ℕ → ℕ) (c : Command) → length (command_code at c) ≡ length (command_code (λ l. 0) c)
  length_command at (loading l) = refl
  length_command at (applying o x) = refl
  length_command at (acting a) = length_act at a
  length_command at (choosing t cs b) = length_choice at (check_of t) (commands_code at cs) (commands_code (λ l. 0) cs) (length_commands at cs) b

  pub length_commands : (at : ℕ → ℕ) (cs : Cmds) → length (commands_code at cs) ≡ length (commands_code (λ l. 0) cs)
  length_commands at done = refl
  length_commands at (and_then c cs) = simp length-append (omega (arith, length_command at c, length_commands at cs))

  length_choice : (at : ℕ → ℕ) (x : Check) (a z : List Instruction) → length a ≡ length z → (b : Alternative) → length (choice_code at x a b) ≡ length (choice_code (λ l. 0) x z b)
  length_choice at x a z e no_else = omega arith
  length_choice at x a z e (else_do cs) = simp length-append (omega (arith, length_commands at cs))

-- ---- an instruction's check is met where the test is true
meets_compared : (i : Sight) (s : State) (o : Comparison) (x : Comparand) → met i s (check_of (compared o x)) ≡ holds i (compared o x) s
meets_compared i s o (with_number v) = refl
meets_compared i s o (with_word c n) = refl

meets : (i : Sight) (t : TestTree) (s : State) → met i s (check_of t) ≡ holds i t s
meets i (bit_tested c n) s = refl
meets i (compared o x) s = meets_compared i s o x

module _ (i : Sight) (room : ℕ) (program : List Instruction) where
  -- ---- loads and operators
  abbrev RunsSo : ℕ → List Instruction → Trail → Type 0
  RunsSo k a f = Runs i room program k a f

  runs_bracket : (o : Option Operator) (l : LoadTree) (os : Ops) → RunsSo (load_depth l) (load_code l) (load_trail i l) → RunsSo (ops_depth os) (ops_code os) (ops_trail i os) → RunsSo (1 + max (load_depth l) (ops_depth os)) (bracket_code o (load_code l ++ ops_code os)) (bracketed (joined o) (thence (load_trail i l) (ops_trail i os)))
  runs_bracket o l os p q = runs_bracketed i room program (load_code l ++ ops_code os) o (max (load_depth l) (ops_depth os)) (thence (load_trail i l) (ops_trail i os)) (runs_thence i room program (load_code l) (ops_code os) (load_depth l) (ops_depth os) (load_trail i l) (ops_trail i os) p q)

  mutual
    runs_load : (l : LoadTree) → RunsSo (load_depth l) (load_code l) (load_trail i l)
    runs_load (number_loaded v) = runs_single i room program (Load (Number v)) (λ s. with_op s v) (λ n es s. refl)
    runs_load (bit_loaded c b) = runs_single i room program (Load (Bit c b)) (λ s. with_op s (turned_bit b (bit_value i s c))) (λ n es s. refl)
    runs_load (word_loaded c b) = runs_single i room program (Load (Word c b)) (λ s. with_op s (turned_word b (word_value i s c))) (λ n es s. refl)
    runs_load (bracket_loaded l os) = runs_bracket None l os (runs_load l) (runs_ops os)

    runs_ops : (os : Ops) → RunsSo (ops_depth os) (ops_code os) (ops_trail i os)
    runs_ops no_more = runs_nothing i room program
    runs_ops (apply_then o x os) = runs_thence i room program (operand_code o x) (ops_code os) (operand_depth x) (ops_depth os) (operand_trail i o x) (ops_trail i os) (runs_operand o x) (runs_ops os)

    runs_operand : (o : Operator) (x : Operand) → RunsSo (operand_depth x) (operand_code o x) (operand_trail i o x)
    runs_operand o (number_taken v) = runs_single i room program (Apply o (Number v)) (λ s. with_op s (combined o s.op v)) (λ n es s. refl)
    runs_operand o (bit_taken c b) = runs_single i room program (Apply o (Bit c b)) (λ s. with_op s (combined o s.op (turned_bit b (bit_value i s c)))) (λ n es s. refl)
    runs_operand o (word_taken c b) = runs_single i room program (Apply o (Word c b)) (λ s. with_op s (combined o s.op (turned_word b (word_value i s c)))) (λ n es s. refl)
    runs_operand o (bracket_taken l os) = runs_bracket (Some o) l os (runs_load l) (runs_ops os)

  -- ---- commands, where each label's place serves its meaning
  module _ (at dep : ℕ → ℕ) (env : ℕ → Trail) (serve : (l : ℕ) → Serves i room program (dep l) (at l) (env l)) where
    runs_act : (a : Act) → RunsSo (act_depth dep a) (act_code at a) (act_trail env a)
    runs_act (bit_stored c b) = runs_single i room program (StoreBit c b) (λ s. store_bit_of s c b) (λ n es s. refl)
    runs_act (word_stored c b) = runs_single i room program (StoreWord c b) (λ s. store_word_of s c b) (λ n es s. refl)
    runs_act (switched c on) = runs_single i room program (Switch c on) (λ s. switch_bit_of s c on) (λ n es s. refl)
    runs_act (called l) = runs_calling i room program (dep l) (at l) (env l) (serve l)

    mutual
      runs_command : (c : Command) → RunsSo (command_depth dep c) (command_code at c) (command_trail i env c)
      runs_command (loading l) = runs_load l
      runs_command (applying o x) = runs_operand o x
      runs_command (acting a) = runs_act a
      runs_command (choosing t cs b) = runs_choice t (commands_code at cs) (commands_depth dep cs) (commands_trail i env cs) (runs_commands cs) b

      runs_commands : (cs : Cmds) → RunsSo (commands_depth dep cs) (commands_code at cs) (commands_trail i env cs)
      runs_commands done = runs_nothing i room program
      runs_commands (and_then c cs) = runs_thence i room program (command_code at c) (commands_code at cs) (command_depth dep c) (commands_depth dep cs) (command_trail i env c) (commands_trail i env cs) (runs_command c) (runs_commands cs)

      runs_choice : (t : TestTree) (a : List Instruction) (k : ℕ) (f : Trail) → RunsSo k a f → (b : Alternative) → RunsSo (max k (alternative_depth dep b)) (choice_code at (check_of t) a b) (choice_trail i env (holds i t) f b)
      runs_choice t a k f r no_else = λ n es s l h. runs_when i room program a (check_of t) (holds i t) k f (meets i t) r n es s (omega arith) h
      runs_choice t a k f r (else_do cs) = runs_either i room program a (commands_code at cs) (check_of t) (holds i t) k (commands_depth dep cs) f (commands_trail i env cs) (meets i t) r (runs_commands cs)

  -- ---- modules
  below : (n : ℕ) (cs : Cmds) (ms : List Module) → Has program n (module_code n cs ms ++ code_from (n + size cs) ms) → Has program (n + size cs) (code_from (n + size cs) ms)
  below n cs ms h =
      let e : n + length (module_code n cs ms) ≡ n + size cs = simp length-append (omega (arith, length_commands (place_from (n + size cs) ms) cs)) in
      subst (λ (k : ℕ). Has program k (code_from (n + size cs) ms)) e (has_right program n (module_code n cs ms) (code_from (n + size cs) ms) h)

  -- each label's place, among modules that stand at n
  abbrev WorksAt : ℕ → List Module → ℕ → Type 0
  WorksAt n ms l = Works i room program (depth ms l) (place_from n ms l) (meanings i ms l)

  works_first : (n : ℕ) (cs : Cmds) (ms : List Module) → Has program n (module_code n cs ms) → ((l : ℕ) → WorksAt (n + size cs) ms l) → (l : ℕ) (b : Bool) → Works i room program (cond b (commands_depth (depth ms) cs) (depth ms l)) (cond b n (place_from (n + size cs) ms l)) (cond b (thence (commands_trail i (meanings i ms) cs) unchanged) (meanings i ms l))
  works_first n cs ms h w l true = works_module i room program (commands_code (place_from (n + size cs) ms) cs) (commands_depth (depth ms) cs) n (commands_trail i (meanings i ms) cs) (runs_commands (place_from (n + size cs) ms) (depth ms) (meanings i ms) (λ k. (w k).0) cs) h
  works_first n cs ms h w l false = w l

  pub works : (n : ℕ) (ms : List Module) → Has program n (code_from n ms) → (l : ℕ) → WorksAt n ms l
  works n [] h l = works_module i room program [] 0 n nothing (runs_nothing i room program) h
  works n (module_of k cs ∷ ms) h l = works_first n cs ms (has_left program n (module_code n cs ms) (code_from (n + size cs) ms) h) (works (n + size cs) ms (below n cs ms h)) l (eqb l k)

  -- ---- from the states gone through to what k steps make
  pub first_tick : (k : ℕ) (c : Config) → ticks i room program (suc k) c ≡ ticks i room program k (tick i room program c)
  first_tick zero c = refl
  first_tick (suc k) c = ap (tick i room program) (first_tick k c)

  reaches : (ss : List State) (c d : Config) (z : State) → Follows i room program c ss d → d.over ≡ true → (k : ℕ) → k ≤ length ss → ((ticks i room program k c).state ≡ get_or (c.state ∷ ss) k z) × ((ticks i room program k c).over ≡ eqb k (length ss))
  reaches [] c d z p o zero h = (refl, ap (λ (x : Config). x.over) p ∙ o)
  reaches [] c d z p o (suc k) h = let b : ⊥ = omega arith in absurd b
  reaches (s ∷ ss) c d z p o zero h = (refl, p.0 ∙ sym (ne_eqb 0 (suc (length ss)) (λ e. omega arith)))
  reaches (s ∷ ss) c d z p o (suc k) h =
      let r = reaches ss (tick i room program c) d z p.2 o k (le_of_suc-le-suc h) in
      let e = first_tick k c in
      (ap (λ (x : Config). x.state) e ∙ r.0 ∙ ap (λ (x : State). get_or (x ∷ ss) k z) p.1, ap (λ (x : Config). x.over) e ∙ r.1 ∙ sym (eqb-suc-suc k (length ss)))

pub runs_as_meant : RunsAsMeant
runs_as_meant ms l i s room rest k d h =
    let program = code ms ++ rest in
    let t = (works i room program 0 ms (rest, refl) l).1 d s in
    let r = reaches i room program (trail ms l i s) (going (place_of ms l) [] s) t.0 s t.1 t.2 k h in
    record { state = r.0; over = r.1 }
