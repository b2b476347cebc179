-- The code of a list: one instruction for each kind of step, in the order of the source. Assumes nothing.
use Rattle.std.specs.Prelude.{ℕ, ◌+◌, cond, List, [], ◌∷◌, ◌++◌, length, ◌==◌, Some, None, Option}
use Rattle.tokens.specs.declared.Operator.{Operator}
use Rattle.grammar.specs.Grammar.{Load as LoadTree, number_loaded, bit_loaded, word_loaded, bracket_loaded, Ops, no_more, apply_then, Operand, number_taken, bit_taken, word_taken, bracket_taken, Act, bit_stored, word_stored, switched, called, Comparand, with_number, with_word, Test as TestTree, bit_tested, compared, Command, loading, applying, acting, choosing, Cmds, done, and_then, Alternative, no_else, else_do, Module, module_of}
use Rattle.program.specs.declared.instruction.Source.{Source}
use Rattle.program.specs.declared.instruction.Source.TheVariants.{Number, Bit, Word}
use Rattle.program.specs.declared.instruction.Check.{Check}
use Rattle.program.specs.declared.instruction.Check.TheVariants.{Bit as BitCheck, Compare}
use Rattle.program.specs.declared.instruction.Instruction.{Instruction}
use Rattle.program.specs.declared.instruction.Instruction.TheVariants.{Return, Load, Apply, Open, Close, StoreBit, StoreWord, Switch, Test, Skip, Call}

-- ---- code made of others
abbrev pub bracket_code : Option Operator → List Instruction → List Instruction
bracket_code j inside = Open j ∷ (inside ++ (Close ∷ []))

-- a condition with a true branch only
abbrev pub when_code : Check → List Instruction → List Instruction
when_code x a = Test x (length a) ∷ a

-- a true branch and its `E`, which passes over the false branch
abbrev pub guarded : List Instruction → List Instruction → List Instruction
guarded a b = a ++ (Skip (length b) ∷ [])

-- a condition with both branches
abbrev pub either_code : Check → List Instruction → List Instruction → List Instruction
either_code x a b = Test x (length (guarded a b)) ∷ (guarded a b ++ b)

-- ---- loads and operators
abbrev mutual
  pub load_code : LoadTree → List Instruction
  load_code (number_loaded v) = Load (Number v) ∷ []
  load_code (bit_loaded c n) = Load (Bit c n) ∷ []
  load_code (word_loaded c n) = Load (Word c n) ∷ []
  load_code (bracket_loaded l os) = bracket_code None (load_code l ++ ops_code os)

  pub ops_code : Ops → List Instruction
  ops_code no_more = []
  ops_code (apply_then o x os) = operand_code o x ++ ops_code os

  pub operand_code : Operator → Operand → List Instruction
  operand_code o (number_taken v) = Apply o (Number v) ∷ []
  operand_code o (bit_taken c n) = Apply o (Bit c n) ∷ []
  operand_code o (word_taken c n) = Apply o (Word c n) ∷ []
  operand_code o (bracket_taken l os) = bracket_code (Some o) (load_code l ++ ops_code os)

-- ---- tests
abbrev pub comparand_source : Comparand → Source
comparand_source (with_number v) = Number v
comparand_source (with_word c n) = Word c n

abbrev pub check_of : TestTree → Check
check_of (bit_tested c n) = BitCheck c n
check_of (compared o x) = Compare o (comparand_source x)

-- ---- commands, under the place of each label
abbrev pub act_code : (ℕ → ℕ) → Act → List Instruction
act_code at (bit_stored c n) = StoreBit c n ∷ []
act_code at (word_stored c n) = StoreWord c n ∷ []
act_code at (switched c on) = Switch c on ∷ []
act_code at (called l) = Call (at l) ∷ []

abbrev mutual
  pub command_code : (ℕ → ℕ) → Command → List Instruction
  command_code at (loading l) = load_code l
  command_code at (applying o x) = operand_code o x
  command_code at (acting a) = act_code at a
  command_code at (choosing t cs b) = choice_code at (check_of t) (commands_code at cs) b

  pub commands_code : (ℕ → ℕ) → Cmds → List Instruction
  commands_code at done = []
  commands_code at (and_then c cs) = command_code at c ++ commands_code at cs

  -- with the true branch a
  pub choice_code : (ℕ → ℕ) → Check → List Instruction → Alternative → List Instruction
  choice_code at x a no_else = when_code x a
  choice_code at x a (else_do cs) = either_code x a (commands_code at cs)

-- ---- modules
-- how many instructions a module has; where its calls go does not count
abbrev pub size : Cmds → ℕ
size cs = length (commands_code (λ l. 0) cs) + 1

-- Where the first module with a label begins, if the first of all begins at n.
-- A label that is not there has the place behind all modules.
abbrev pub place_from : ℕ → List Module → ℕ → ℕ
place_from n [] l = n
place_from n (module_of k cs ∷ ms) l = cond (l == k) n (place_from (n + size cs) ms l)

-- the commands and the end of a module at n, whose calls go to the modules below it
abbrev pub module_code : ℕ → Cmds → List Module → List Instruction
module_code n cs ms = commands_code (place_from (n + size cs) ms) cs ++ (Return ∷ [])

-- the modules one after the other, the first at n, and one more `Return` behind them
abbrev pub code_from : ℕ → List Module → List Instruction
code_from n [] = Return ∷ []
code_from n (module_of k cs ∷ ms) = module_code n cs ms ++ code_from (n + size cs) ms

abbrev pub code : List Module → List Instruction
code ms = code_from 0 ms

abbrev pub place_of : List Module → ℕ → ℕ
place_of ms l = place_from 0 ms l
