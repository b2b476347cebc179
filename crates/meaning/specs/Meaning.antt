-- What a list means: the trail of a pass, that is its states after each step. Assumes nothing.
use Rattle.std.specs.Prelude.{ℕ, Bool, cond, List, [], ◌∷◌, ◌++◌, ◌==◌}
use Rattle.tokens.specs.declared.Operator.{Operator}
use Rattle.grammar.specs.Grammar.{Load, number_loaded, bit_loaded, word_loaded, bracket_loaded, Ops, no_more, apply_then, Operand, number_taken, bit_taken, word_taken, bracket_taken, Act, bit_stored, word_stored, switched, called, Comparand, with_number, with_word, Test, bit_tested, compared, Command, loading, applying, acting, choosing, Cmds, done, and_then, Alternative, no_else, else_do, Module, module_of}
use Rattle.program.specs.Cells.{Sight, State, bit_value, word_value, turned_bit, turned_word, combined, compares, with_op, store_bit_of, store_word_of, switch_bit_of}

-- from a state, the states after each step
abbrev pub Trail : Type 0
Trail = State → List State

-- the last state of a trail that began at s
abbrev pub last : State → List State → State
last s [] = s
last s (t ∷ ts) = last t ts

-- ---- trails made of others
abbrev pub nothing : Trail
nothing s = []

abbrev pub single : (State → State) → Trail
single f s = f s ∷ []

-- one step that changes nothing
abbrev pub unchanged : Trail
unchanged s = s ∷ []

-- one trail, and another from where it ended
abbrev pub thence : Trail → Trail → Trail
thence f g s = f s ++ g (last s (f s))

-- the step of a test, and one of two trails
abbrev pub chosen : (State → Bool) → Trail → Trail → Trail
chosen p f g s = s ∷ cond (p s) (f s) (g s)

-- `[`, the inside, and `]`, which makes OP of the saved OP and the value of the inside
abbrev pub bracketed : (ℕ → ℕ → ℕ) → Trail → Trail
bracketed j f s = s ∷ (f s ++ (with_op (last s (f s)) (j s.op (last s (f s)).op) ∷ []))

-- the step of a call, and the module
abbrev pub calling : Trail → Trail
calling f s = s ∷ f s

-- ---- loads and operators
-- a load bracket leaves the value of the inside
abbrev pub replaced : ℕ → ℕ → ℕ
replaced saved v = v

abbrev pub load_step : (State → ℕ) → Trail
load_step v = single (λ s. with_op s (v s))

abbrev pub operator_step : Operator → (State → ℕ) → Trail
operator_step o v = single (λ s. with_op s (combined o s.op (v s)))

abbrev mutual
  pub load_trail : Sight → Load → Trail
  load_trail i (number_loaded v) = load_step (λ s. v)
  load_trail i (bit_loaded c n) = load_step (λ s. turned_bit n (bit_value i s c))
  load_trail i (word_loaded c n) = load_step (λ s. turned_word n (word_value i s c))
  load_trail i (bracket_loaded l os) = bracketed replaced (thence (load_trail i l) (ops_trail i os))

  pub ops_trail : Sight → Ops → Trail
  ops_trail i no_more = nothing
  ops_trail i (apply_then o x os) = thence (operand_trail i o x) (ops_trail i os)

  -- an operator with its operand
  pub operand_trail : Sight → Operator → Operand → Trail
  operand_trail i o (number_taken v) = operator_step o (λ s. v)
  operand_trail i o (bit_taken c n) = operator_step o (λ s. turned_bit n (bit_value i s c))
  operand_trail i o (word_taken c n) = operator_step o (λ s. turned_word n (word_value i s c))
  operand_trail i o (bracket_taken l os) = bracketed (combined o) (thence (load_trail i l) (ops_trail i os))

-- ---- tests
abbrev pub comparand_value : Sight → Comparand → State → ℕ
comparand_value i (with_number v) s = v
comparand_value i (with_word c n) s = turned_word n (word_value i s c)

-- whether a test is true; a comparison has OP first
abbrev pub holds : Sight → Test → State → Bool
holds i (bit_tested c n) s = turned_bit n (bit_value i s c) == 1
holds i (compared o x) s = compares o s.op (comparand_value i x s)

-- ---- commands, under what each label means
abbrev pub act_trail : (ℕ → Trail) → Act → Trail
act_trail env (bit_stored c n) = single (λ s. store_bit_of s c n)
act_trail env (word_stored c n) = single (λ s. store_word_of s c n)
act_trail env (switched c on) = single (λ s. switch_bit_of s c on)
act_trail env (called l) = calling (env l)

-- an `E` is a step at the end of a true branch
abbrev mutual
  pub command_trail : Sight → (ℕ → Trail) → Command → Trail
  command_trail i env (loading l) = load_trail i l
  command_trail i env (applying o x) = operand_trail i o x
  command_trail i env (acting a) = act_trail env a
  command_trail i env (choosing t cs b) = choice_trail i env (holds i t) (commands_trail i env cs) b

  pub commands_trail : Sight → (ℕ → Trail) → Cmds → Trail
  commands_trail i env done = nothing
  commands_trail i env (and_then c cs) = thence (command_trail i env c) (commands_trail i env cs)

  -- with a true branch that goes through f
  pub choice_trail : Sight → (ℕ → Trail) → (State → Bool) → Trail → Alternative → Trail
  choice_trail i env p f no_else = chosen p f nothing
  choice_trail i env p f (else_do cs) = chosen p (thence f unchanged) (commands_trail i env cs)

-- ---- modules
-- What each label means: the commands of the first module with that label, whose calls go to the modules below it,
-- and the step of its end. A label that is not there means one step that changes nothing.
abbrev pub meanings : Sight → List Module → ℕ → Trail
meanings i [] l = unchanged
meanings i (module_of k cs ∷ ms) l = cond (l == k) (thence (commands_trail i (meanings i ms) cs) unchanged) (meanings i ms l)

-- the trail of a pass that begins at module l in state s
abbrev pub trail : List Module → ℕ → Sight → State → List State
trail ms l i s = meanings i ms l s
