-- Number, layer and place of each fault. Assumes nothing.
use Rattle.std.specs.Prelude.{ℕ, refl}
use Rattle.faults.specs.declared.Layer.{Layer}
use Rattle.faults.specs.declared.Layer.TheVariants.{Grammar}
use Rattle.faults.specs.Layers.{CauseOfItsLayer}
use Rattle.faults.specs.declared.Place.{Place}
use Rattle.reading.specs.Faults.{cause_of as read_cause, layer_of as read_layer, place_of as read_place, causes_of_reading}
use Rattle.grammar.specs.declared.GrammarFault.{GrammarFault}
use Rattle.grammar.specs.declared.GrammarFault.TheVariants.{Reading, Unexpected, TooDeep}

abbrev pub cause_of : GrammarFault → ℕ
cause_of (Reading e) = read_cause e
cause_of (Unexpected p) = 7
cause_of (TooDeep p) = 8

abbrev pub layer_of : GrammarFault → Layer
layer_of (Reading e) = read_layer e
layer_of (Unexpected p) = Grammar
layer_of (TooDeep p) = Grammar

abbrev pub place_of : GrammarFault → Place
place_of (Reading e) = read_place e
place_of (Unexpected p) = p
place_of (TooDeep p) = p

-- the causes are those of the layers up to the grammar
pub causes_to_grammar : CauseOfItsLayer cause_of layer_of
causes_to_grammar (Reading e) = causes_of_reading e
causes_to_grammar (Unexpected p) = refl
causes_to_grammar (TooDeep p) = refl
