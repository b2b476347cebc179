-- A rule says of each place of a text whether it is at fault there: what a search for the first such place answers.
use Rattle.std.specs.Prelude.{◌≡◌, ℕ, ◌<◌, Some, None, Option}

-- no place is at fault
abbrev pub NoneAt : (ℕ → Type 0) → Type 0
NoneAt P = (j : ℕ) → P j → ⊥

-- i is at fault, and no place before it
abbrev pub First : (ℕ → Type 0) → ℕ → Type 0
First P i = P i × ((j : ℕ) → j < i → P j → ⊥)

-- the first place at fault, or none
abbrev pub Found : (ℕ → Type 0) → Option ℕ → Type 0
Found P None = NoneAt P
Found P (Some i) = First P i

-- there is one answer only
abbrev pub OneFinding : (ℕ → Type 0) → Type 0
OneFinding P = (a b : Option ℕ) → Found P a → Found P b → a ≡ b
