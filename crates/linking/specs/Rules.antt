-- The rules of linking, for the tokens of a text and the modules that they spell. Assumes nothing.
use Rattle.std.specs.Prelude.{◌≡◌, ℕ, ◌<◌, ◌⊎◌, List, [], ◌∷◌}
use Rattle.tokens.specs.Tokens.{Kind, label}
use Rattle.grammar.specs.Grammar.{Module}
use Rattle.meaning.specs.Figure.{figure}
use Rattle.meaning.specs.Nesting.{chain}
use Rattle.rules.specs.Labels.{kind_at, Repeats, Unlinked}
use Rattle.rules.specs.Levels.{Misplaced}
use Rattle.rules.specs.Bytes.{Clash}

-- a chain of calls of more than 8 modules below module l, or a figure above 60,000; chains count their first module too
abbrev pub Heavy : List Module → ℕ → Type 0
Heavy ms l = (9 < chain ms l) ⊎ (60000 < figure ms l)

-- cause 13: the label of module 1, if it is too great, or else that of module 0
abbrev pub Overweight : List Kind → List Module → ℕ → Type 0
Overweight ks ms i = ((kind_at ks i ≡ label 1) × Heavy ms 1) ⊎ ((kind_at ks i ≡ label 0) × Heavy ms 0 × (Heavy ms 1 → ⊥))

-- causes 9 to 12, which the tokens alone decide
abbrev pub token_rules : List Kind → List (ℕ → Type 0)
token_rules ks = Repeats ks ∷ Unlinked ks ∷ Misplaced ks ∷ Clash ks ∷ []

-- causes 9 to 13, in their order
abbrev pub rules : List Kind → List Module → List (ℕ → Type 0)
rules ks ms = Repeats ks ∷ Unlinked ks ∷ Misplaced ks ∷ Clash ks ∷ Overweight ks ms ∷ []
