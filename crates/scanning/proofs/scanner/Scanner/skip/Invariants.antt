use Rattle.std.proofs.Common.{◌≡◌, ◌-◌, ◌≤◌, length, drop}
use Rattle.scanning.specs.Scan.{Reached, skip_of}
use Rattle.scanning.specs.declared.Mode.TheVariants.{Between}
use Rattle.scanning.proofs.scanner.Scanner.skip.Given as goal

abbrev pub invariant-loop-at : goal.invariant-loop-at
invariant-loop-at l =
    (l.at ≤ length l.self.text.now)
    × Reached l.place l.at
    × (l.self.here.at ≤ l.at)
    × (skip_of l.mode l.place (drop l.at l.self.text.now) ≡ skip_of Between l.self.here.place (drop l.self.here.at l.self.text.now))

abbrev pub decreases-loop-at : goal.decreases-loop-at
decreases-loop-at l = length l.self.text.now - l.at
