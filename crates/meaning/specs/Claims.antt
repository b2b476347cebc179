-- What is claimed of the code of a list. Assumes nothing.
use Rattle.std.specs.Prelude.{◌≡◌, ℕ, ◌+◌, ◌<◌, ◌≤◌, List, [], ◌∷◌, ◌++◌, length, ◌==◌, slice_index_or}
use Rattle.grammar.specs.Grammar.{Module}
use Rattle.grammar.specs.Depth.{SmallModules}
use Rattle.program.specs.declared.instruction.Instruction.{Instruction}
use Rattle.program.specs.Cells.{Sight, State}
use Rattle.program.specs.Machine.{Config, going, ticks}
use Rattle.meaning.specs.Meaning.{trail}
use Rattle.meaning.specs.Figure.{figure}
use Rattle.meaning.specs.Code.{code, place_of}
use Rattle.meaning.specs.Nesting.{depth, chain}

-- what k steps have made: the k-th state of the trail from s, and the end of the pass exactly at the trail's end
pub record Reached (s : State) (ss : List State) (k : ℕ) (c : Config) : Type 0 where
  pub state : c.state ≡ slice_index_or (s ∷ ss) k s
  pub over : c.over ≡ (k == length ss)

-- A machine with room enough that runs the code of the modules, whatever stands behind it, from the place of module l:
-- its states are those of the trail, one for each step, and it is over with the last and not before.
abbrev pub RunsAsMeant : Type 0
RunsAsMeant =
    (ms : List Module) (l : ℕ) (i : Sight) (s : State) (room : ℕ) (rest : List Instruction) (k : ℕ) →
    depth ms l ≤ room → k ≤ length (trail ms l i s) →
    Reached s (trail ms l i s) k (ticks i room (code ms ++ rest) k (going (place_of ms l) [] s))

-- no pass takes more steps than the figure says
abbrev pub WithinFigure : Type 0
WithinFigure = (ms : List Module) (l : ℕ) (i : Sight) (s : State) → length (trail ms l i s) ≤ figure ms l

-- within the limits, where n modules stand before these: each call of a chain, one less than its modules, needs an entry,
-- and the brackets 8 at most
abbrev pub DepthByChain : Type 0
DepthByChain = (ms : List Module) (n l : ℕ) → SmallModules n ms → depth ms l < chain ms l + 8

-- within the limits, 16 entries are enough for a module with chains of at most 8 modules below it
abbrev pub Shallow : Type 0
Shallow = (ms : List Module) (l : ℕ) → SmallModules 0 ms → chain ms l ≤ 9 → depth ms l ≤ 16
