-- How many entries a pass needs, and how long its chains of calls are. Assumes nothing.
use Rattle.std.specs.Prelude.{ℕ, ◌+◌, max, cond, List, [], ◌∷◌, ◌==◌}
use Rattle.grammar.specs.Grammar.{Load, number_loaded, bit_loaded, word_loaded, bracket_loaded, Ops, no_more, apply_then, Operand, number_taken, bit_taken, word_taken, bracket_taken, Act, bit_stored, word_stored, switched, called, Command, loading, applying, acting, choosing, Cmds, done, and_then, Alternative, no_else, else_do, Module, module_of}

-- ---- entries: a bracket counts 1 and what is inside
abbrev mutual
  pub load_depth : Load → ℕ
  load_depth (number_loaded v) = 0
  load_depth (bit_loaded c n) = 0
  load_depth (word_loaded c n) = 0
  load_depth (bracket_loaded l os) = 1 + max (load_depth l) (ops_depth os)

  pub ops_depth : Ops → ℕ
  ops_depth no_more = 0
  ops_depth (apply_then o x os) = max (operand_depth x) (ops_depth os)

  pub operand_depth : Operand → ℕ
  operand_depth (number_taken v) = 0
  operand_depth (bit_taken c n) = 0
  operand_depth (word_taken c n) = 0
  operand_depth (bracket_taken l os) = 1 + max (load_depth l) (ops_depth os)

-- a call counts 1 and what the module called needs
abbrev pub act_depth : (ℕ → ℕ) → Act → ℕ
act_depth dep (bit_stored c n) = 0
act_depth dep (word_stored c n) = 0
act_depth dep (switched c on) = 0
act_depth dep (called l) = 1 + dep l

abbrev mutual
  pub command_depth : (ℕ → ℕ) → Command → ℕ
  command_depth dep (loading l) = load_depth l
  command_depth dep (applying o x) = operand_depth x
  command_depth dep (acting a) = act_depth dep a
  command_depth dep (choosing t cs b) = max (commands_depth dep cs) (alternative_depth dep b)

  pub commands_depth : (ℕ → ℕ) → Cmds → ℕ
  commands_depth dep done = 0
  commands_depth dep (and_then c cs) = max (command_depth dep c) (commands_depth dep cs)

  pub alternative_depth : (ℕ → ℕ) → Alternative → ℕ
  alternative_depth dep no_else = 0
  alternative_depth dep (else_do cs) = commands_depth dep cs

-- the most entries that a pass through a module has at a time
abbrev pub depth : List Module → ℕ → ℕ
depth [] l = 0
depth (module_of k cs ∷ ms) l = cond (l == k) (commands_depth (depth ms) cs) (depth ms l)

-- ---- chains of calls
abbrev pub act_chain : (ℕ → ℕ) → Act → ℕ
act_chain ch (bit_stored c n) = 0
act_chain ch (word_stored c n) = 0
act_chain ch (switched c on) = 0
act_chain ch (called l) = ch l

abbrev mutual
  pub command_chain : (ℕ → ℕ) → Command → ℕ
  command_chain ch (loading l) = 0
  command_chain ch (applying o x) = 0
  command_chain ch (acting a) = act_chain ch a
  command_chain ch (choosing t cs b) = max (commands_chain ch cs) (alternative_chain ch b)

  pub commands_chain : (ℕ → ℕ) → Cmds → ℕ
  commands_chain ch done = 0
  commands_chain ch (and_then c cs) = max (command_chain ch c) (commands_chain ch cs)

  pub alternative_chain : (ℕ → ℕ) → Alternative → ℕ
  alternative_chain ch no_else = 0
  alternative_chain ch (else_do cs) = commands_chain ch cs

-- the most modules that are one inside the other by calls, the first of them l; a label that is not there counts as one
abbrev pub chain : List Module → ℕ → ℕ
chain [] l = 1
chain (module_of k cs ∷ ms) l = cond (l == k) (1 + commands_chain (chain ms) cs) (chain ms l)
