use Rattle.std.proofs.Common.{◌≡◌, ◌-◌, length, Option}
use Rattle.scanning.specs.declared.Word.{Word}
use Rattle.scanning.specs.Scan.{origin}
use Rattle.reporting.specs.Search.{FirstFrom}
use Rattle.reporting.proofs.words.find_word.Given as goal

-- the scanner keeps its text, and what is found first from its cursor on is found first in the text
abbrev pub invariant-loop-word : goal.invariant-loop-word
invariant-loop-word g l =
    goal.F-IsAlwaysCallable g l.holds
    × (l.scanner.text.now ≡ l.text)
    × ((r : Option Word) → FirstFrom (goal.F-post g l.holds) l.text l.scanner.here r → FirstFrom (goal.F-post g l.holds) l.text origin r)

-- the bytes that are left
abbrev pub decreases-loop-word : goal.decreases-loop-word
decreases-loop-word g l = length l.text - l.scanner.here.at
