-- What compiling leaves, and what passes of a compiled list do. Assumes nothing.
use Rattle.std.specs.Prelude.{ℕ, ◌≤◌, List, [], length, Ok, Err, Result}
use Rattle.grammar.specs.Grammar.{Module}
use Rattle.program.specs.declared.instruction.Instruction.{Instruction}
use Rattle.program.specs.declared.record.Program.{Program}
use Rattle.program.specs.Cells.{Sight, State}
use Rattle.program.specs.Machine.{going, ticks}
use Rattle.meaning.specs.Meaning.{trail}
use Rattle.meaning.specs.Claims.{Reached}
use Rattle.linking.specs.declared.LinkFault.{LinkFault}
use Rattle.linking.specs.declared.figures.Figures.{Figures}
use Rattle.linking.specs.declared.compiled.Compiled.{Compiled}
use Rattle.linking.specs.Verdict.{Accepted}
use Rattle.linking.specs.Records.{RecordOf, two_empty}

-- the record of an accepted text is that of its modules, and a refusal leaves that of two empty modules
abbrev pub RecordAfter : List ℕ → Result Figures LinkFault → Compiled → Type 0
RecordAfter text (Ok f) c = (ms : List Module) → Accepted text ms f → RecordOf ms c.program c.figures
RecordAfter text (Err e) c = RecordOf two_empty c.program c.figures

-- passes of module l, which begin at this place of the instructions: with 16 entries, k steps give the trail's k-th state, the pass
-- is over with the last and not before, and there are at most as many as the figure says
pub record PassesAs (ms : List Module) (l : ℕ) (instructions : List Instruction) (place most : ℕ) : Type 0 where
  pub follows : (i : Sight) (s : State) (k : ℕ) → k ≤ length (trail ms l i s) → Reached s (trail ms l i s) k (ticks i 16 instructions k (going place [] s))
  pub bound : (i : Sight) (s : State) → length (trail ms l i s) ≤ most

-- the record of an accepted text goes through the trails of the text, within its figures
pub record Passes (ms : List Module) (p : Program) (f : Figures) : Type 0 where
  pub quick : PassesAs ms 1 p.code p.quick f.quick
  pub slow : PassesAs ms 0 p.code p.slow f.slow

abbrev pub RunsAsWritten : Type 0
RunsAsWritten = (text : List ℕ) (ms : List Module) (f : Figures) (p : Program) → Accepted text ms f → RecordOf ms p f → Passes ms p f
