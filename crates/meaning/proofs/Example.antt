-- The worked examples, by computing. Assumes nothing.
use Rattle.std.proofs.Common.{refl}
use Rattle.tokens.specs.Numbers.{value_of, number_of}
use Rattle.tokens.specs.Cells.{bit_of, word_of, word_like, switched_of}
use Rattle.tokens.specs.Tokens.{mark_of, load_of, store_of, plain_of, kind_of}
use Rattle.meaning.specs.Example.{TwoLevelsStand, NestedStands, ExamplesStand}

two_levels_stand : TwoLevelsStand
unfolding value_of bit_of word_of word_like switched_of mark_of load_of store_of plain_of kind_of
two_levels_stand = record {
  written = refl;
  figure_1 = refl;
  figure_0 = refl;
  steps_1_true = refl;
  steps_1_false = refl;
  steps_0 = refl;
  left_1_true = refl;
  left_1_false = refl;
  left_0 = refl;
  place_1 = refl;
  place_0 = refl;
  coded = refl;
}

nested_stands : NestedStands
unfolding value_of number_of word_of word_like mark_of load_of store_of plain_of kind_of
nested_stands = record {
  written = refl;
  figure_0 = refl;
  figure_3 = refl;
  ops = refl;
  left = refl;
  depth_0 = refl;
  chain_0 = refl;
  coded = refl;
}

pub examples_stand : ExamplesStand
examples_stand = record { two_levels = two_levels_stand; nested = nested_stands }
