-- The sums ahead of a module's place are the figure and the chain of the module. Assumes nothing.
use Rattle.std.proofs.Common.{◌≡◌, ℕ, ◌+◌, ◌≤◌, max, Bool, true, false, cond, eqb, List, [], ◌∷◌, ◌++◌, length, refl, ap, subst, arith, length-append, Some, None, Option}
use Rattle.tokens.specs.declared.Operator.{Operator}
use Rattle.grammar.specs.Grammar.{Load as LoadTree, number_loaded, bit_loaded, word_loaded, bracket_loaded, Ops, no_more, apply_then, Operand, number_taken, bit_taken, word_taken, bracket_taken, Act, bit_stored, word_stored, switched, called, Command, loading, applying, acting, choosing, Cmds, done, and_then, Alternative, no_else, else_do, Module, module_of}
use Rattle.program.specs.declared.instruction.Source.TheVariants.{Number, Bit, Word}
use Rattle.program.specs.declared.instruction.Check.{Check}
use Rattle.program.specs.declared.instruction.Instruction.{Instruction}
use Rattle.program.specs.declared.instruction.Instruction.TheVariants.{Return, Load, Apply, StoreBit, StoreWord, Switch}
use Rattle.meaning.specs.Code.{bracket_code, load_code, ops_code, operand_code, check_of, act_code, command_code, commands_code, choice_code, size, place_from, module_code, code_from, code}
use Rattle.meaning.specs.Figure.{load_figure, ops_figure, operand_figure, act_figure, command_figure, commands_figure, choice_figure, figure}
use Rattle.meaning.specs.Nesting.{act_chain, command_chain, commands_chain, alternative_chain, chain}
use Rattle.meaning.proofs.Fragments.{Has, has_left, has_right}
use Rattle.meaning.proofs.Sound.{length_commands}
use Rattle.weights.specs.Ahead.{ahead}
use Rattle.weights.specs.Weights.{steps, modules}
use Rattle.weights.specs.Claims.{FiguresAgree, ChainsAgree}
use Rattle.weights.proofs.Rows.{unroll}
use Rattle.weights.proofs.Adding.{adding_steps, adding_modules, Adds, adds_as, adds_nothing, adds_single, adds_thence, adds_bracket, adds_when, adds_either, adds_call, adds_module}

-- ---- places
-- no module begins before the first
pub place_least : (n : ℕ) (ms : List Module) (l : ℕ) → n ≤ place_from n ms l
place_least n [] l = omega arith
place_least n (module_of k cs ∷ ms) l = by (eqb l k) (place_least (n + size cs) ms l)
  where
    by : (b : Bool) → n + size cs ≤ place_from (n + size cs) ms l → n ≤ cond b n (place_from (n + size cs) ms l)
    by true h = omega arith
    by false h = omega arith

below : (program : List Instruction) (n : ℕ) (cs : Cmds) (ms : List Module) → Has program n (module_code n cs ms ++ code_from (n + size cs) ms) → Has program (n + size cs) (code_from (n + size cs) ms)
below program n cs ms h =
    let e : n + length (module_code n cs ms) ≡ n + size cs = simp length-append (omega (arith, length_commands (place_from (n + size cs) ms) cs)) in
    subst (λ (k : ℕ). Has program k (code_from (n + size cs) ms)) e (has_right program n (module_code n cs ms) (code_from (n + size cs) ms) h)

-- ---- steps
module _ (program : List Instruction) (end : ℕ) where
  abbrev Takes : List Instruction → ℕ → Type 0
  Takes a c = Adds steps adding_steps program end a c

  takes_bracket : (j : Option Operator) (l : LoadTree) (os : Ops) → Takes (load_code l) (load_figure l) → Takes (ops_code os) (ops_figure os) → Takes (bracket_code j (load_code l ++ ops_code os)) (2 + (load_figure l + ops_figure os))
  takes_bracket j l os p q =
      let c = load_figure l + ops_figure os in
      adds_as steps adding_steps program end (bracket_code j (load_code l ++ ops_code os)) (1 + (c + 1)) (2 + c) (omega arith)
      (adds_bracket steps adding_steps program end j (load_code l ++ ops_code os) c
      (adds_thence steps adding_steps program end (load_code l) (ops_code os) (load_figure l) (ops_figure os) p q))

  mutual
    takes_load : (l : LoadTree) → Takes (load_code l) (load_figure l)
    takes_load (number_loaded v) = adds_single steps adding_steps program end (Load (Number v)) (λ n. tt) (λ n later. refl)
    takes_load (bit_loaded c b) = adds_single steps adding_steps program end (Load (Bit c b)) (λ n. tt) (λ n later. refl)
    takes_load (word_loaded c b) = adds_single steps adding_steps program end (Load (Word c b)) (λ n. tt) (λ n later. refl)
    takes_load (bracket_loaded l os) = takes_bracket None l os (takes_load l) (takes_ops os)

    takes_ops : (os : Ops) → Takes (ops_code os) (ops_figure os)
    takes_ops no_more = adds_nothing steps adding_steps program end
    takes_ops (apply_then o x os) = adds_thence steps adding_steps program end (operand_code o x) (ops_code os) (operand_figure x) (ops_figure os) (takes_operand o x) (takes_ops os)

    takes_operand : (o : Operator) (x : Operand) → Takes (operand_code o x) (operand_figure x)
    takes_operand o (number_taken v) = adds_single steps adding_steps program end (Apply o (Number v)) (λ n. tt) (λ n later. refl)
    takes_operand o (bit_taken c b) = adds_single steps adding_steps program end (Apply o (Bit c b)) (λ n. tt) (λ n later. refl)
    takes_operand o (word_taken c b) = adds_single steps adding_steps program end (Apply o (Word c b)) (λ n. tt) (λ n later. refl)
    takes_operand o (bracket_taken l os) = takes_bracket (Some o) l os (takes_load l) (takes_ops os)

  -- where each label's place is behind `end` and has its figure ahead
  module _ (at fig : ℕ → ℕ) (behind : (l : ℕ) → end ≤ at l) (each : (l : ℕ) → ahead steps program (at l) ≡ fig l) where
    takes_act : (a : Act) → Takes (act_code at a) (act_figure fig a)
    takes_act (bit_stored c b) = adds_single steps adding_steps program end (StoreBit c b) (λ n. tt) (λ n later. refl)
    takes_act (word_stored c b) = adds_single steps adding_steps program end (StoreWord c b) (λ n. tt) (λ n later. refl)
    takes_act (switched c on) = adds_single steps adding_steps program end (Switch c on) (λ n. tt) (λ n later. refl)
    takes_act (called l) = adds_call steps adding_steps program end (at l) (1 + fig l) (behind l) (ap (λ (k : ℕ). 1 + k) (each l))

    mutual
      takes_command : (c : Command) → Takes (command_code at c) (command_figure fig c)
      takes_command (loading l) = takes_load l
      takes_command (applying o x) = takes_operand o x
      takes_command (acting a) = takes_act a
      takes_command (choosing t cs b) = takes_choice (check_of t) (commands_code at cs) (commands_figure fig cs) (takes_commands cs) b

      takes_commands : (cs : Cmds) → Takes (commands_code at cs) (commands_figure fig cs)
      takes_commands done = adds_nothing steps adding_steps program end
      takes_commands (and_then c cs) = adds_thence steps adding_steps program end (command_code at c) (commands_code at cs) (command_figure fig c) (commands_figure fig cs) (takes_command c) (takes_commands cs)

      takes_choice : (x : Check) (a : List Instruction) (c : ℕ) → Takes a c → (b : Alternative) → Takes (choice_code at x a b) (choice_figure fig c b)
      takes_choice x a c p no_else = adds_when steps adding_steps program end x a c p
      takes_choice x a c p (else_do cs) = adds_either steps adding_steps program end x a (commands_code at cs) c (commands_figure fig cs) p (takes_commands cs)

-- ---- modules below
module _ (program : List Instruction) (end : ℕ) where
  abbrev CallsDown : List Instruction → ℕ → Type 0
  CallsDown a c = Adds modules adding_modules program end a c

  calls_bracket : (j : Option Operator) (l : LoadTree) (os : Ops) → CallsDown (load_code l) 0 → CallsDown (ops_code os) 0 → CallsDown (bracket_code j (load_code l ++ ops_code os)) 0
  calls_bracket j l os p q =
      adds_bracket modules adding_modules program end j (load_code l ++ ops_code os) 0
      (adds_thence modules adding_modules program end (load_code l) (ops_code os) 0 0 p q)

  mutual
    calls_load : (l : LoadTree) → CallsDown (load_code l) 0
    calls_load (number_loaded v) = adds_single modules adding_modules program end (Load (Number v)) (λ n. tt) (λ n later. refl)
    calls_load (bit_loaded c b) = adds_single modules adding_modules program end (Load (Bit c b)) (λ n. tt) (λ n later. refl)
    calls_load (word_loaded c b) = adds_single modules adding_modules program end (Load (Word c b)) (λ n. tt) (λ n later. refl)
    calls_load (bracket_loaded l os) = calls_bracket None l os (calls_load l) (calls_ops os)

    calls_ops : (os : Ops) → CallsDown (ops_code os) 0
    calls_ops no_more = adds_nothing modules adding_modules program end
    calls_ops (apply_then o x os) = adds_thence modules adding_modules program end (operand_code o x) (ops_code os) 0 0 (calls_operand o x) (calls_ops os)

    calls_operand : (o : Operator) (x : Operand) → CallsDown (operand_code o x) 0
    calls_operand o (number_taken v) = adds_single modules adding_modules program end (Apply o (Number v)) (λ n. tt) (λ n later. refl)
    calls_operand o (bit_taken c b) = adds_single modules adding_modules program end (Apply o (Bit c b)) (λ n. tt) (λ n later. refl)
    calls_operand o (word_taken c b) = adds_single modules adding_modules program end (Apply o (Word c b)) (λ n. tt) (λ n later. refl)
    calls_operand o (bracket_taken l os) = calls_bracket (Some o) l os (calls_load l) (calls_ops os)

  -- where each label's place is behind `end` and has its chain ahead
  module _ (at ch : ℕ → ℕ) (behind : (l : ℕ) → end ≤ at l) (each : (l : ℕ) → 1 + ahead modules program (at l) ≡ ch l) where
    calls_act : (a : Act) → CallsDown (act_code at a) (act_chain ch a)
    calls_act (bit_stored c b) = adds_single modules adding_modules program end (StoreBit c b) (λ n. tt) (λ n later. refl)
    calls_act (word_stored c b) = adds_single modules adding_modules program end (StoreWord c b) (λ n. tt) (λ n later. refl)
    calls_act (switched c on) = adds_single modules adding_modules program end (Switch c on) (λ n. tt) (λ n later. refl)
    calls_act (called l) = adds_call modules adding_modules program end (at l) (ch l) (behind l) (each l)

    mutual
      calls_command : (c : Command) → CallsDown (command_code at c) (command_chain ch c)
      calls_command (loading l) = calls_load l
      calls_command (applying o x) = calls_operand o x
      calls_command (acting a) = calls_act a
      calls_command (choosing t cs b) = calls_choice (check_of t) (commands_code at cs) (commands_chain ch cs) (calls_commands cs) b

      calls_commands : (cs : Cmds) → CallsDown (commands_code at cs) (commands_chain ch cs)
      calls_commands done = adds_nothing modules adding_modules program end
      calls_commands (and_then c cs) = adds_thence modules adding_modules program end (command_code at c) (commands_code at cs) (command_chain ch c) (commands_chain ch cs) (calls_command c) (calls_commands cs)

      calls_choice : (x : Check) (a : List Instruction) (c : ℕ) → CallsDown a c → (b : Alternative) → CallsDown (choice_code at x a b) (max c (alternative_chain ch b))
      calls_choice x a c p no_else = adds_as modules adding_modules program end (choice_code at x a no_else) (max 0 c) (max c 0) (omega arith) (adds_when modules adding_modules program end x a c p)
      calls_choice x a c p (else_do cs) =
          let d = commands_chain ch cs in
          adds_as modules adding_modules program end (choice_code at x a (else_do cs)) (max 0 (max (max c 0) d)) (max c d) (omega arith)
          (adds_either modules adding_modules program end x a (commands_code at cs) c d p (calls_commands cs))

-- ---- modules
module _ (program : List Instruction) where
  takes_first : (n : ℕ) (cs : Cmds) (ms : List Module) → Has program n (module_code n cs ms) → ((l : ℕ) → ahead steps program (place_from (n + size cs) ms l) ≡ figure ms l) → (l : ℕ) (b : Bool) → ahead steps program (cond b n (place_from (n + size cs) ms l)) ≡ cond b (commands_figure (figure ms) cs + 1) (figure ms l)
  takes_first n cs ms h each l true =
      let at = place_from (n + size cs) ms in
      adds_module steps adding_steps program (n + size cs) (commands_code at cs) (commands_figure (figure ms) cs) n (omega (arith, length_commands at cs))
      (takes_commands program (n + size cs) at (figure ms) (place_least (n + size cs) ms) each cs) h
  takes_first n cs ms h each l false = each l

  takes : (n : ℕ) (ms : List Module) → Has program n (code_from n ms) → (l : ℕ) → ahead steps program (place_from n ms l) ≡ figure ms l
  takes n [] h l = unroll steps program n Return h.0 h.1 tt
  takes n (module_of k cs ∷ ms) h l = takes_first n cs ms (has_left program n (module_code n cs ms) (code_from (n + size cs) ms) h) (takes (n + size cs) ms (below program n cs ms h)) l (eqb l k)

  calls_first : (n : ℕ) (cs : Cmds) (ms : List Module) → Has program n (module_code n cs ms) → ((l : ℕ) → 1 + ahead modules program (place_from (n + size cs) ms l) ≡ chain ms l) → (l : ℕ) (b : Bool) → 1 + ahead modules program (cond b n (place_from (n + size cs) ms l)) ≡ cond b (1 + commands_chain (chain ms) cs) (chain ms l)
  calls_first n cs ms h each l true =
      let at = place_from (n + size cs) ms in
      let c = commands_chain (chain ms) cs in
      let e : ahead modules program n ≡ max c 0 =
      adds_module modules adding_modules program (n + size cs) (commands_code at cs) c n (omega (arith, length_commands at cs))
      (calls_commands program (n + size cs) at (chain ms) (place_least (n + size cs) ms) each cs) h in
      omega (arith, e)
  calls_first n cs ms h each l false = each l

  calls_down : (n : ℕ) (ms : List Module) → Has program n (code_from n ms) → (l : ℕ) → 1 + ahead modules program (place_from n ms l) ≡ chain ms l
  calls_down n [] h l = ap (λ (k : ℕ). 1 + k) (unroll modules program n Return h.0 h.1 tt)
  calls_down n (module_of k cs ∷ ms) h l = calls_first n cs ms (has_left program n (module_code n cs ms) (code_from (n + size cs) ms) h) (calls_down (n + size cs) ms (below program n cs ms h)) l (eqb l k)

pub figures_agree : FiguresAgree
figures_agree ms l rest = takes (code ms ++ rest) 0 ms (rest, refl) l

pub chains_agree : ChainsAgree
chains_agree ms l rest = calls_down (code ms ++ rest) 0 ms (rest, refl) l
