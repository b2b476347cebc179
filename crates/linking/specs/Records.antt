-- The record of a list. Assumes nothing.
use Rattle.std.specs.Prelude.{◌≡◌, ℕ, List, [], ◌∷◌, length}
use Rattle.grammar.specs.Grammar.{done, Module, module_of}
use Rattle.program.specs.declared.record.Program.{Program}
use Rattle.program.specs.Sound.{padded}
use Rattle.meaning.specs.Code.{code, place_of}
use Rattle.meaning.specs.Figure.{figure}
use Rattle.linking.specs.declared.figures.Figures.{Figures}
use Rattle.linking.specs.Verdict.{Accepted}

-- the program is the code of the modules, with their places of :001 and :000, and the figures are theirs
pub record RecordOf (ms : List Module) (p : Program) (f : Figures) : Type 0 where
  pub instructions : p.code ≡ padded (code ms)
  pub len : p.len ≡ length (code ms)
  pub quick : p.quick ≡ place_of ms 1
  pub slow : p.slow ≡ place_of ms 0
  pub quick_figure : f.quick ≡ figure ms 1
  pub slow_figure : f.slow ≡ figure ms 0

-- some text that is accepted has this record
pub record OfSomeText (p : Program) (f : Figures) : Type 0 where
  pub text : List ℕ
  pub modules : List Module
  pub accepted : Accepted text modules f
  pub recorded : RecordOf modules p f

-- the modules of :001 J1 :000 J0
abbrev pub two_empty : List Module
two_empty = module_of 1 done ∷ module_of 0 done ∷ []
