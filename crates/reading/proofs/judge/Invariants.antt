use Rattle.std.proofs.Common.{◌≡◌, ◌-◌, ◌≤◌, length}
use Rattle.scanning.specs.Scan.{scan_of}
use Rattle.scanning.proofs.Turns.{left_of}
use Rattle.reading.specs.Tally.{fresh, tallied}
use Rattle.reading.proofs.judge.Given as goal

abbrev pub invariant-loop-word : goal.invariant-loop-word
invariant-loop-word l =
    (l.scanner.text.now ≡ l.text)
    × (l.tally.count ≤ l.scanner.here.at)
    × (tallied l.tally (left_of l.text l.tally.count l.scanner.here) ≡ tallied fresh (scan_of l.text))

abbrev pub decreases-loop-word : goal.decreases-loop-word
decreases-loop-word l = length l.text - l.scanner.here.at
