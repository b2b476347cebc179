-- All that the machine knows of a list: the trails of its two levels, and their figures. Names no type of the code.
use Rattle.std.specs.Prelude.{ℕ, ◌<◌, ◌≤◌, List, ◌∷◌, length, slice_index_or}
use Rattle.program.specs.Cells.{Sight, State as Moment}
use Rattle.meaning.specs.Meaning.{last}
use Rattle.meaning.specs.Passes.{beginning}

-- the cells as they were when a sweep began
pub record Picture : Type 0 where
  pub inputs : List ℕ
  pub bytes : List ℕ
  pub timers : List ℕ

-- A trail is the list of the moments of a pass after each step: OP, bytes, timers, and which bytes the pass has stored.
pub record Plan : Type 0 where
  -- the trail of :001 on inputs and previous inputs, bytes and timers
  pub quick : Sight → List ℕ → List ℕ → List Moment
  -- the trail of :000 on a picture
  pub slow : Picture → List Moment
  pub quick_figure : ℕ
  pub slow_figure : ℕ

-- no trail is empty or longer than its figure
pub record Bounded (plan : Plan) : Type 0 where
  pub quick_some : (i : Sight) (bytes timers : List ℕ) → 0 < length (plan.quick i bytes timers)
  pub quick_few : (i : Sight) (bytes timers : List ℕ) → length (plan.quick i bytes timers) ≤ plan.quick_figure
  pub slow_some : (p : Picture) → 0 < length (plan.slow p)
  pub slow_few : (p : Picture) → length (plan.slow p) ≤ plan.slow_figure

-- where a pass over a picture begins: OP is 0, and nothing is stored yet
abbrev pub outset : Picture → Moment
outset p = beginning p.bytes p.timers

-- the moment after k steps of a pass over a picture
abbrev pub moment_after : Picture → List Moment → ℕ → Moment
moment_after p trail k = slice_index_or (outset p ∷ trail) k (outset p)

-- the moment after all its steps
abbrev pub outcome_of : Picture → List Moment → Moment
outcome_of p trail = last (outset p) trail
