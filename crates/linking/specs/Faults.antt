-- Number, layer and place of each fault. Assumes nothing.
use Rattle.std.specs.Prelude.{ℕ, zero, suc, refl}
use Rattle.faults.specs.declared.Layer.{Layer}
use Rattle.faults.specs.declared.Layer.TheVariants.{Linking}
use Rattle.faults.specs.Layers.{CauseOfItsLayer}
use Rattle.faults.specs.declared.Place.{Place}
use Rattle.grammar.specs.Faults.{cause_of as grammar_cause, layer_of as grammar_layer, place_of as grammar_place, causes_to_grammar}
use Rattle.linking.specs.declared.LinkFault.{LinkFault}
use Rattle.linking.specs.declared.LinkFault.TheVariants.{Grammar, Repeated, Unlinked, Misplaced, Clashing, Overweight}

abbrev pub cause_of : LinkFault → ℕ
cause_of (Grammar e) = grammar_cause e
cause_of (Repeated p) = 9
cause_of (Unlinked p) = 10
cause_of (Misplaced p) = 11
cause_of (Clashing p) = 12
cause_of (Overweight p) = 13

abbrev pub layer_of : LinkFault → Layer
layer_of (Grammar e) = grammar_layer e
layer_of (Repeated p) = Linking
layer_of (Unlinked p) = Linking
layer_of (Misplaced p) = Linking
layer_of (Clashing p) = Linking
layer_of (Overweight p) = Linking

abbrev pub place_of : LinkFault → Place
place_of (Grammar e) = grammar_place e
place_of (Repeated p) = p
place_of (Unlinked p) = p
place_of (Misplaced p) = p
place_of (Clashing p) = p
place_of (Overweight p) = p

-- the causes are those of the layers up to linking
pub causes_to_linking : CauseOfItsLayer cause_of layer_of
causes_to_linking (Grammar e) = causes_to_grammar e
causes_to_linking (Repeated p) = refl
causes_to_linking (Unlinked p) = refl
causes_to_linking (Misplaced p) = refl
causes_to_linking (Clashing p) = refl
causes_to_linking (Overweight p) = refl

-- the fault of rule n, counted from 0, at a place
abbrev pub fault_of : ℕ → Place → LinkFault
fault_of zero p = Repeated p
fault_of (suc zero) p = Unlinked p
fault_of (suc (suc zero)) p = Misplaced p
fault_of (suc (suc (suc zero))) p = Clashing p
fault_of (suc (suc (suc (suc n)))) p = Overweight p
