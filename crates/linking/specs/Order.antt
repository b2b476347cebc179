-- Rules in an order: each says of a place whether it is at fault there, and an earlier rule counts before a later one. Assumes nothing.
use Rattle.std.specs.Prelude.{ℕ, zero, suc, List, [], ◌∷◌}
use Rattle.rules.specs.Findings.{NoneAt, First}

-- no rule is broken anywhere
abbrev pub NoneBroken : List (ℕ → Type 0) → Type 0
NoneBroken [] = Unit {0}
NoneBroken (R ∷ Rs) = NoneAt R × NoneBroken Rs

-- rule n is the first that is broken, counted from 0, and i is the first place where it is
abbrev pub FirstBroken : List (ℕ → Type 0) → ℕ → ℕ → Type 0
FirstBroken [] n i = ⊥
FirstBroken (R ∷ Rs) zero i = First R i
FirstBroken (R ∷ Rs) (suc n) i = NoneAt R × FirstBroken Rs n i
