-- Number, layer and place of each fault of reading. Assumes nothing.
use Rattle.std.specs.Prelude.{ℕ, refl}
use Rattle.faults.specs.declared.Layer.{Layer}
use Rattle.faults.specs.declared.Layer.TheVariants.{Reading}
use Rattle.faults.specs.declared.Place.{Place}
use Rattle.faults.specs.Layers.{CauseOfItsLayer}
use Rattle.scanning.specs.declared.ScanFault.TheVariants.{TooLong, Byte, Unclosed}
use Rattle.reading.specs.declared.ReadFault.{ReadFault}
use Rattle.reading.specs.declared.ReadFault.TheVariants.{Scan, Unlisted, OutOfRange, TooMany}

abbrev pub cause_of : ReadFault → ℕ
cause_of (Scan TooLong) = 1
cause_of (Scan (Byte p)) = 2
cause_of (Scan (Unclosed p)) = 3
cause_of (Unlisted p) = 4
cause_of (OutOfRange p) = 5
cause_of (TooMany p) = 6

abbrev pub layer_of : ReadFault → Layer
layer_of e = Reading

-- a text that is too long has no place
abbrev pub nowhere : Place
nowhere = record { line = 0; column = 0 }

abbrev pub place_of : ReadFault → Place
place_of (Scan TooLong) = nowhere
place_of (Scan (Byte p)) = p
place_of (Scan (Unclosed p)) = p
place_of (Unlisted p) = p
place_of (OutOfRange p) = p
place_of (TooMany p) = p

-- the causes are those of the reading layer
pub causes_of_reading : CauseOfItsLayer cause_of layer_of
causes_of_reading (Scan TooLong) = refl
causes_of_reading (Scan (Byte p)) = refl
causes_of_reading (Scan (Unclosed p)) = refl
causes_of_reading (Unlisted p) = refl
causes_of_reading (OutOfRange p) = refl
causes_of_reading (TooMany p) = refl
