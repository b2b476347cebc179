-- What a panel means: eight input words, eight output words, and which of the sixteen answer. Names no type of the code.
use Rattle.std.specs.Prelude.{◌≡◌, ℕ, zero, suc, ◌+◌, ◌^◌, Bool, false, cond, List, map, length, Some, None, Option, nat_lt, slice_index, slice_index_or, slice_set}
use Rattle.std.specs.List.{range_with_len}

pub record Meaning : Type 0 where
  pub inputs : List ℕ
  pub outputs : List ℕ
  pub input_answers : List Bool
  pub output_answers : List Bool

pub record Sized (m : Meaning) : Type 0 where
  pub inputs_long : length m.inputs ≡ 8
  pub outputs_long : length m.outputs ≡ 8
  pub input_answers_long : length m.input_answers ≡ 8
  pub output_answers_long : length m.output_answers ≡ 8

-- the meaning with output word k replaced by w
abbrev pub with_output : Meaning → ℕ → ℕ → Meaning
with_output m k w = record {
  inputs = m.inputs;
  outputs = slice_set m.outputs k w;
  input_answers = m.input_answers;
  output_answers = m.output_answers;
}

-- a put replaces a word that answers; one that is silent, or that there is not, leaves the meaning
abbrev pub after_put : Meaning → ℕ → ℕ → Meaning
after_put m k w = cond (nat_lt k 8) (cond (slice_index_or m.output_answers k false) (with_output m k w) m) m

-- the first silent word of the n words from k on
abbrev pub first_silent : List Bool → ℕ → ℕ → Option ℕ
first_silent answers k zero = None
first_silent answers k (suc n) = cond (slice_index_or answers k false) (first_silent answers (k + 1) n) (Some k)

-- the eight input words
abbrev pub words_of : Meaning → List ℕ
words_of m = map (λ k. slice_index m.inputs k) (range_with_len 0 8)

-- the meaning after the puts of the words below n, in order
abbrev pub after_puts : Meaning → List ℕ → ℕ → Meaning
after_puts m words zero = m
after_puts m words (suc n) = after_put (after_puts m words n) n (slice_index words n)

-- bit k is set for each silent word k below n
abbrev pub mask_of : List Bool → ℕ → ℕ
mask_of answers zero = 0
mask_of answers (suc n) = mask_of answers n + cond (slice_index_or answers n false) 0 (2 ^ n)

-- output word k after the puts, by its place: what was put where the word answers, else what stood there
abbrev pub placed : Meaning → List ℕ → ℕ → ℕ
placed m words k = cond (slice_index_or m.output_answers k false) (slice_index words k) (slice_index m.outputs k)
