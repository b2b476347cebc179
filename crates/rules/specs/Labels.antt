-- Labels and calls, by places in the kinds of a text's tokens: causes 9 and 10. Assumes nothing.
use Rattle.std.specs.Prelude.{◌≡◌, ℕ, ◌+◌, ◌<◌, ◌≤◌, ◌⊎◌, List, length, slice_index_or}
use Rattle.tokens.specs.Tokens.{Kind, bracket_opens, label, call}

-- what stands at i; past the end only brackets, which mean nothing here
abbrev pub kind_at : List Kind → ℕ → Kind
kind_at ks i = slice_index_or ks i bracket_opens

-- label n stands at i
abbrev pub IsLabel : List Kind → ℕ → ℕ → Type 0
IsLabel ks n i = kind_at ks i ≡ label n

-- label n stands somewhere from `from` on and before `to`
abbrev pub Labelled : List Kind → ℕ → ℕ → ℕ → Type 0
Labelled ks n from to = (k : ℕ) × (from ≤ k) × (k < to) × (kind_at ks k ≡ label n)

-- cause 9: the label at i stands further up too
abbrev pub Repeats : List Kind → ℕ → Type 0
Repeats ks i = (n : ℕ) × (kind_at ks i ≡ label n) × Labelled ks n 0 i

-- the call at i has no label further down
abbrev pub Astray : List Kind → ℕ → Type 0
Astray ks i = (n : ℕ) × (kind_at ks i ≡ call n) × (Labelled ks n (i + 1) (length ks) → ⊥)

-- i is the end of a text that lacks label 0 or label 1
abbrev pub Rootless : List Kind → ℕ → Type 0
Rootless ks i = (i ≡ length ks) × (Labelled ks 0 0 (length ks) × Labelled ks 1 0 (length ks) → ⊥)

-- cause 10
abbrev pub Unlinked : List Kind → ℕ → Type 0
Unlinked ks i = Astray ks i ⊎ Rootless ks i
