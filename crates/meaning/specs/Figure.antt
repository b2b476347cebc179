-- The figure of a module: the most steps that a pass through it can take. Assumes nothing.
use Rattle.std.specs.Prelude.{ℕ, ◌+◌, max, cond, List, [], ◌∷◌, ◌==◌}
use Rattle.grammar.specs.Grammar.{Load, number_loaded, bit_loaded, word_loaded, bracket_loaded, Ops, no_more, apply_then, Operand, number_taken, bit_taken, word_taken, bracket_taken, Act, bit_stored, word_stored, switched, called, Command, loading, applying, acting, choosing, Cmds, done, and_then, Alternative, no_else, else_do, Module, module_of}

-- `[` and `]` are a step each
abbrev mutual
  pub load_figure : Load → ℕ
  load_figure (number_loaded v) = 1
  load_figure (bit_loaded c n) = 1
  load_figure (word_loaded c n) = 1
  load_figure (bracket_loaded l os) = 2 + (load_figure l + ops_figure os)

  pub ops_figure : Ops → ℕ
  ops_figure no_more = 0
  ops_figure (apply_then o x os) = operand_figure x + ops_figure os

  pub operand_figure : Operand → ℕ
  operand_figure (number_taken v) = 1
  operand_figure (bit_taken c n) = 1
  operand_figure (word_taken c n) = 1
  operand_figure (bracket_taken l os) = 2 + (load_figure l + ops_figure os)

-- under the figure of each label
abbrev pub act_figure : (ℕ → ℕ) → Act → ℕ
act_figure fig (bit_stored c n) = 1
act_figure fig (word_stored c n) = 1
act_figure fig (switched c on) = 1
act_figure fig (called l) = 1 + fig l

-- a condition counts 1 and the greater of its branches, the true one with its `E`
abbrev mutual
  pub command_figure : (ℕ → ℕ) → Command → ℕ
  command_figure fig (loading l) = load_figure l
  command_figure fig (applying o x) = operand_figure x
  command_figure fig (acting a) = act_figure fig a
  command_figure fig (choosing t cs b) = choice_figure fig (commands_figure fig cs) b

  pub commands_figure : (ℕ → ℕ) → Cmds → ℕ
  commands_figure fig done = 0
  commands_figure fig (and_then c cs) = command_figure fig c + commands_figure fig cs

  -- with a true branch of the figure n
  pub choice_figure : (ℕ → ℕ) → ℕ → Alternative → ℕ
  choice_figure fig n no_else = 1 + n
  choice_figure fig n (else_do cs) = 1 + max (n + 1) (commands_figure fig cs)

-- the commands and the end; a label that is not there counts 1
abbrev pub figure : List Module → ℕ → ℕ
figure [] l = 1
figure (module_of k cs ∷ ms) l = cond (l == k) (commands_figure (figure ms) cs + 1) (figure ms l)
