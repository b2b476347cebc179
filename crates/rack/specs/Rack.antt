-- What a rack means. Assumes nothing.
use Rattle.std.specs.Prelude.{ℕ, ◌/◌, refl, Bool, false, List, map, replicate, slice_index_or}
use Rattle.std.specs.List.{range_with_len}
use Rattle.panel.specs.Meaning.{Meaning, Sized}
use Rattle.rack.specs.declared.boards.Rack.{Rack}

-- words 2c and 2c + 1 are on card c
abbrev pub on_cards : List Bool → List Bool
on_cards cards = map (λ k. slice_index_or cards (k / 2) false) (range_with_len 0 8)

abbrev pub rack_meaning : Rack → Meaning
rack_meaning r = record {
  inputs = r.inputs;
  outputs = r.outputs;
  input_answers = on_cards r.cards;
  output_answers = on_cards r.cards;
}

-- a rack has eight words of each kind
pub sized_rack : (r : Rack) → Sized (rack_meaning r)
sized_rack r = record {
  inputs_long = r.sized.0;
  outputs_long = r.sized.1;
  input_answers_long = refl;
  output_answers_long = refl;
}

abbrev pub fresh : Meaning
fresh = record {
  inputs = replicate 8 0;
  outputs = replicate 8 0;
  input_answers = replicate 8 false;
  output_answers = replicate 8 false;
}

abbrev pub with_cards : Meaning → List Bool → Meaning
with_cards m cards = record {
  inputs = m.inputs;
  outputs = m.outputs;
  input_answers = on_cards cards;
  output_answers = on_cards cards;
}

abbrev pub with_inputs : Meaning → List ℕ → Meaning
with_inputs m words = record {
  inputs = words;
  outputs = m.outputs;
  input_answers = m.input_answers;
  output_answers = m.output_answers;
}
