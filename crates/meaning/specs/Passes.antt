-- What a pass that is run for a while comes to, by the trail of the list. Assumes nothing.
use Rattle.std.specs.Prelude.{◌≡◌, ℕ, ◌≤◌, min, false, List, ◌∷◌, ◌++◌, length, replicate, nat_le, slice_index_or}
use Rattle.grammar.specs.Grammar.{Module}
use Rattle.program.specs.declared.instruction.Instruction.{Instruction}
use Rattle.program.specs.Cells.{Sight, State}
use Rattle.program.specs.View.{state}
use Rattle.meaning.specs.declared.pass.Pass.{Pass}
use Rattle.meaning.specs.Meaning.{trail}
use Rattle.meaning.specs.Figure.{figure}
use Rattle.meaning.specs.Code.{code, place_of}
use Rattle.meaning.specs.Nesting.{depth}

-- the state that a pass begins in: OP is 0, and nothing is stored yet
abbrev pub beginning : List ℕ → List ℕ → State
beginning bs ts = record { op = 0; bytes = bs; timers = ts; stored = replicate 144 false }

-- the steps made are the lesser of the allowance and the trail's length, the state is the trail's after so many steps,
-- and the pass is over exactly if the allowance was enough for all of it
pub record Went (s : State) (ss : List State) (allowance : ℕ) (r : Pass) : Type 0 where
  pub steps : r.steps ≡ min allowance (length ss)
  pub reached : state r.cpu ≡ slice_index_or (s ∷ ss) r.steps s
  pub over : r.cpu.over ≡ nat_le (length ss) allowance

-- the record begins with the code of these modules, and the pass begins at module l, for which 16 entries are enough
pub record Compiled (ms : List Module) (l : ℕ) (instructions : List Instruction) (place : ℕ) : Type 0 where
  pub rest : List Instruction
  pub begins : instructions ≡ code ms ++ rest
  pub entry : place ≡ place_of ms l
  pub shallow : depth ms l ≤ 16

-- whichever list the record is the code of
pub record Meant (ms : List Module) (l : ℕ) (i : Sight) (s : State) (allowance : ℕ) (r : Pass) : Type 0 where
  pub went : Went s (trail ms l i s) allowance r
  pub bounded : r.steps ≤ figure ms l

abbrev pub AsMeant : List Instruction → ℕ → Sight → State → ℕ → Pass → Type 0
AsMeant instructions place i s allowance r =
    (ms : List Module) (l : ℕ) → Compiled ms l instructions place → Meant ms l i s allowance r
