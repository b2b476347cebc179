use Rattle.std.proofs.Common.{◌≡◌, ℕ, ◌-◌, ◌<◌, length, get_or}
use Rattle.panel.specs.Meaning.{first_silent}
use Rattle.panel.proofs.sweeps.read_all.Given as goal

abbrev pub invariant-loop-k : goal.invariant-loop-k
invariant-loop-k g l =
    let m = g.P.Panel.meaning l.initial.panel in
    (length l.word-items ≡ 8)
    × (g.P.Panel.meaning l.panel ≡ m)
    × (first_silent m.input_answers l.k (8 - l.k) ≡ first_silent m.input_answers 0 8)
    × ((j : ℕ) → j < l.k → get_or l.word-items j 0 ≡ get_or m.inputs j 0)
    × (g.P.Panel.rest l.panel ≡ g.P.Panel.rest l.initial.panel)
