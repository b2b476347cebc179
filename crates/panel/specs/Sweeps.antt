-- What the eight reads answer. Assumes nothing.
use Rattle.std.specs.Prelude.{ℕ, List, Some, None, Ok, Err, Option, Result}
use Rattle.panel.specs.declared.PanelFault.{PanelFault}
use Rattle.panel.specs.declared.PanelFault.TheVariants.{Silent}
use Rattle.panel.specs.Meaning.{Meaning, first_silent, words_of}

abbrev pub words_unless : Option ℕ → List ℕ → Result (List ℕ) PanelFault
words_unless None words = Ok words
words_unless (Some k) words = Err (Silent k)

-- the eight words, or the first silent one by 15
abbrev pub read_all_of : Meaning → Result (List ℕ) PanelFault
read_all_of m = words_unless (first_silent m.input_answers 0 8) (words_of m)
