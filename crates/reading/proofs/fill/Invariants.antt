use Rattle.std.proofs.Common.{◌≡◌, ◌≤◌, map, take, drop}
use Rattle.scanning.specs.Scan.{scan_of}
use Rattle.scanning.proofs.Turns.{left_of}
use Rattle.reading.specs.Items.{item, before, judged_all}
use Rattle.reading.proofs.fill.Given as goal

abbrev pub invariant-loop-slot : goal.invariant-loop-slot
invariant-loop-slot l =
    (l.scanner.text.now ≡ l.text)
    × (l.slot-index ≤ l.scanner.here.at)
    × (before (map item (take l.slot-index l.memory)) (judged_all (left_of l.text l.slot-index l.scanner.here)) ≡ judged_all (scan_of l.text))
    × (drop l.slot-index l.memory ≡ drop l.slot-index l.initial.memory)
