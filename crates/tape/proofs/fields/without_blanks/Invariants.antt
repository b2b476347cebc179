use Rattle.std.proofs.Common.{◌≡◌, length}
use Rattle.tape.specs.Fields.{text_of}
use Rattle.tape.proofs.fields.without_blanks.Given as goal

abbrev pub invariant-loop-columns : goal.invariant-loop-columns
invariant-loop-columns l = text_of l.columns ≡ text_of l.initial.columns

abbrev pub decreases-loop-columns : goal.decreases-loop-columns
decreases-loop-columns l = length l.columns
