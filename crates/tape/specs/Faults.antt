-- Number, layer and place of each fault of a tape. Assumes nothing.
use Rattle.std.specs.Prelude.{ℕ, refl}
use Rattle.faults.specs.declared.Layer.{Layer}
use Rattle.faults.specs.declared.Layer.TheVariants.{Panel}
use Rattle.faults.specs.Layers.{CauseOfItsLayer}
use Rattle.tape.specs.declared.TapeFault.{TapeFault}
use Rattle.tape.specs.declared.TapeFault.TheVariants.{Length, Line}

abbrev pub cause_of : TapeFault → ℕ
cause_of Length = 17
cause_of (Line n) = 17

abbrev pub layer_of : TapeFault → Layer
layer_of e = Panel

-- lines count from 1; a length that no tape has stands at line 0
abbrev pub place_of : TapeFault → ℕ
place_of Length = 0
place_of (Line n) = n

-- the cause is one of the panel layer
pub causes_of_tapes : CauseOfItsLayer cause_of layer_of
causes_of_tapes Length = refl
causes_of_tapes (Line n) = refl
