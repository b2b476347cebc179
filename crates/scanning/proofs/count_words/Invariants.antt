use Rattle.std.proofs.Common.{◌-◌, length}
use Rattle.scanning.proofs.Whole.{Counting}
use Rattle.scanning.proofs.count_words.Given as goal

abbrev pub invariant-loop-word : goal.invariant-loop-word
invariant-loop-word l = Counting l.text l.scanner.text.now l.n l.scanner.here

abbrev pub decreases-loop-word : goal.decreases-loop-word
decreases-loop-word l = length l.text - l.scanner.here.at
