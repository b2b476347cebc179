use Rattle.std.proofs.Common.{◌≡◌, ◌^◌, ◌<◌}
use Rattle.panel.specs.Meaning.{after_puts, mask_of}
use Rattle.panel.proofs.sweeps.put_all.Given as goal

abbrev pub invariant-loop-word : goal.invariant-loop-word
invariant-loop-word g l =
    let m = g.P.Panel.meaning l.initial.panel in
    (g.P.Panel.meaning l.panel ≡ after_puts m l.words l.word)
    × ((g.P.Panel.meaning l.panel).output_answers ≡ m.output_answers)
    × (l.mask ≡ mask_of m.output_answers l.word)
    × (l.mask < 2 ^ l.word)
    × (g.P.Panel.rest l.panel ≡ g.P.Panel.rest l.initial.panel)
