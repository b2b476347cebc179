-- The limits, by nesting in trees: brackets nest to 8, conditions to 16, and there are at most 64 modules. Assumes nothing.
use Rattle.std.specs.Prelude.{ℕ, ◌+◌, ◌<◌, ◌↔◌, List, [], ◌∷◌}
use Rattle.grammar.specs.Grammar.{Load, number_loaded, bit_loaded, word_loaded, bracket_loaded, Ops, no_more, apply_then, Operand, number_taken, bit_taken, word_taken, bracket_taken, Command, loading, applying, acting, choosing, Cmds, done, and_then, Alternative, no_else, else_do, Module, module_of, spell}
use Rattle.grammar.specs.Limits.{WithinLimits}

-- inside b brackets
abbrev mutual
  pub SmallLoad : ℕ → Load → Type 0
  SmallLoad b (number_loaded v) = Unit {0}
  SmallLoad b (bit_loaded c n) = Unit {0}
  SmallLoad b (word_loaded c n) = Unit {0}
  SmallLoad b (bracket_loaded l os) = (b < 8) × SmallLoad (b + 1) l × SmallOps (b + 1) os

  pub SmallOps : ℕ → Ops → Type 0
  SmallOps b no_more = Unit {0}
  SmallOps b (apply_then o x os) = SmallOperand b x × SmallOps b os

  pub SmallOperand : ℕ → Operand → Type 0
  SmallOperand b (number_taken v) = Unit {0}
  SmallOperand b (bit_taken c n) = Unit {0}
  SmallOperand b (word_taken c n) = Unit {0}
  SmallOperand b (bracket_taken l os) = (b < 8) × SmallLoad (b + 1) l × SmallOps (b + 1) os

-- inside c conditions
abbrev mutual
  pub SmallCommand : ℕ → Command → Type 0
  SmallCommand c (loading l) = SmallLoad 0 l
  SmallCommand c (applying o x) = SmallOperand 0 x
  SmallCommand c (acting a) = Unit {0}
  SmallCommand c (choosing t cs b) = (c < 16) × SmallCmds (c + 1) cs × SmallAlternative (c + 1) b

  pub SmallCmds : ℕ → Cmds → Type 0
  SmallCmds c done = Unit {0}
  SmallCmds c (and_then x xs) = SmallCommand c x × SmallCmds c xs

  pub SmallAlternative : ℕ → Alternative → Type 0
  SmallAlternative c no_else = Unit {0}
  SmallAlternative c (else_do xs) = SmallCmds c xs

-- behind n modules
abbrev pub SmallModules : ℕ → List Module → Type 0
SmallModules n [] = Unit {0}
SmallModules n (module_of l cs ∷ ms) = (n < 64) × SmallCmds 0 cs × SmallModules (n + 1) ms

-- the tokens of modules are within the limits by counting exactly if the modules are by nesting
abbrev pub LimitsAgree : Type 0
LimitsAgree = (ms : List Module) → WithinLimits (spell ms) ↔ SmallModules 0 ms
