-- What holds of every text.
use Rattle.std.specs.Prelude.{◌≡◌, ℕ, ◌+◌, ◌<◌, List, length, Some, ◌≢◌}
use Rattle.tokens.specs.Tokens.{Kind, label, call}
use Rattle.rules.specs.Findings.{NoneAt}
use Rattle.rules.specs.Labels.{kind_at, Labelled, Repeats, Unlinked}
use Rattle.rules.specs.Levels.{home}

-- where no label repeats and no call is astray, every call of a label stands above it
abbrev pub CallsGoDown : Type 0
CallsGoDown =
    (ks : List Kind) → NoneAt (Repeats ks) → NoneAt (Unlinked ks) →
    (i k b : ℕ) → kind_at ks i ≡ call b → kind_at ks k ≡ label b → i < k

-- where no call is astray and no root is missing, every call has its label further down, and labels 0 and 1 are there
abbrev pub CallsLand : Type 0
CallsLand =
    (ks : List Kind) → NoneAt (Unlinked ks) →
    ((i n : ℕ) → kind_at ks i ≡ call n → Labelled ks n (i + 1) (length ks)) × Labelled ks 0 0 (length ks) × Labelled ks 1 0 (length ks)

-- a token stands in module m exactly if label m stands before it and no label between
pub record LastLabel (ks : List Kind) (i m : ℕ) : Type 0 where
  pub place : ℕ
  pub before : place < i
  pub is : kind_at ks place ≡ label m
  pub last : (j n : ℕ) → place < j → j < i → kind_at ks j ≢ label n

abbrev pub HomeIsLastLabel : Type 0
HomeIsLastLabel =
    (ks : List Kind) (i m : ℕ) → (home ks i ≡ Some m → LastLabel ks i m) × (LastLabel ks i m → home ks i ≡ Some m)
