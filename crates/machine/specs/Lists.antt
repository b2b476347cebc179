-- The plan of a list of modules. Names no type of the code.
use Rattle.std.specs.Prelude.{List}
use Rattle.grammar.specs.Grammar.{Module}
use Rattle.program.specs.Cells.{Sight}
use Rattle.meaning.specs.Meaning.{trail}
use Rattle.meaning.specs.Figure.{figure}
use Rattle.meaning.specs.Passes.{beginning}
use Rattle.machine.specs.Plan.{Picture, Plan, Bounded, outset}

-- What a pass over a picture sees. No V is reached from :000, so previous inputs do not matter; they are taken to be the inputs.
abbrev pub sight_in : Picture → Sight
sight_in p = record { inputs = p.inputs; previous = p.inputs }

abbrev pub plan_of : List Module → Plan
plan_of ms = record {
  quick = λ i bytes timers. trail ms 1 i (beginning bytes timers);
  slow = λ p. trail ms 0 (sight_in p) (outset p);
  quick_figure = figure ms 1;
  slow_figure = figure ms 0;
}

abbrev pub ListsBounded : Type 0
ListsBounded = (ms : List Module) → Bounded (plan_of ms)
