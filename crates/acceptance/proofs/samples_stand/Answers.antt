use Rattle.std.proofs.Common.{refl}
use Rattle.scanning.specs.Text.{start}
use Rattle.tokens.specs.Numbers.{value_of, number_of}
use Rattle.tokens.specs.Cells.{bit_of, word_of, word_like, switched_of}
use Rattle.tokens.specs.Tokens.{mark_of, load_of, store_of, not_of, plain_of, kind_of}
use Rattle.reading.specs.declared.ReadFault.TheVariants.{Unlisted, OutOfRange}
use Rattle.acceptance.proofs.samples_stand.Goals as goal

pub returns : goal.returns
unfolding kind_of plain_of not_of store_of load_of mark_of switched_of word_like word_of bit_of number_of value_of
returns c = (
  refl,
  refl,
  (Unlisted start, refl, refl, refl),
  (OutOfRange start, refl, refl, refl),
  (Unlisted start, refl, refl, refl),
  refl,
  refl,
  (OutOfRange start, refl, refl, refl),
  (OutOfRange start, refl, refl, refl),
  (Unlisted start, refl, refl, refl),
)
