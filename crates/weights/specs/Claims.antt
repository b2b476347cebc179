-- What is claimed of the code of a list. Assumes nothing.
use Rattle.std.specs.Prelude.{◌≡◌, ℕ, ◌+◌, ◌-◌, min, List, ◌++◌}
use Rattle.grammar.specs.Grammar.{Module}
use Rattle.program.specs.declared.instruction.Instruction.{Instruction}
use Rattle.meaning.specs.Code.{code, place_of}
use Rattle.meaning.specs.Figure.{figure}
use Rattle.meaning.specs.Nesting.{chain}
use Rattle.weights.specs.declared.weight.Weight.{Weight}
use Rattle.weights.specs.Ahead.{ahead}
use Rattle.weights.specs.Weights.{steps, modules}

-- the instructions begin with the code of these modules, and the place is that of module l
pub record CodeOf (ms : List Module) (l : ℕ) (instructions : List Instruction) (place : ℕ) : Type 0 where
  pub rest : List Instruction
  pub begins : instructions ≡ code ms ++ rest
  pub entry : place ≡ place_of ms l

-- the figure of module l, held at 60,001, and how many modules its longest chain has below it, held at 9
pub record WeightOf (ms : List Module) (l : ℕ) (w : Weight) : Type 0 where
  pub by_figure : w.figure ≡ min 60001 (figure ms l)
  pub by_chain : w.chain ≡ min 9 (chain ms l - 1)

-- whichever list the instructions are the code of
abbrev pub Weighed : List Instruction → ℕ → Weight → Type 0
Weighed instructions place w = (ms : List Module) (l : ℕ) → CodeOf ms l instructions place → WeightOf ms l w

-- the most steps ahead of a module's place are the module's figure, whatever stands behind the code
abbrev pub FiguresAgree : Type 0
FiguresAgree = (ms : List Module) (l : ℕ) (rest : List Instruction) → ahead steps (code ms ++ rest) (place_of ms l) ≡ figure ms l

-- the most modules one below the other from a module's place on, and the module itself, are its longest chain
abbrev pub ChainsAgree : Type 0
ChainsAgree = (ms : List Module) (l : ℕ) (rest : List Instruction) → 1 + ahead modules (code ms ++ rest) (place_of ms l) ≡ chain ms l
