-- Number, layer and place of each fault of a panel. Assumes nothing.
use Rattle.std.specs.Prelude.{ℕ, refl}
use Rattle.faults.specs.declared.Layer.{Layer}
use Rattle.faults.specs.declared.Layer.TheVariants.{Panel}
use Rattle.faults.specs.Layers.{CauseOfItsLayer}
use Rattle.panel.specs.declared.PanelFault.{PanelFault}
use Rattle.panel.specs.declared.PanelFault.TheVariants.{NoSuchWord, Silent}

abbrev pub cause_of : PanelFault → ℕ
cause_of (NoSuchWord k) = 16
cause_of (Silent k) = 15

abbrev pub layer_of : PanelFault → Layer
layer_of e = Panel

-- the word that the fault names
abbrev pub place_of : PanelFault → ℕ
place_of (NoSuchWord k) = k
place_of (Silent k) = k

-- the causes are those of the panel layer
pub causes_of_panels : CauseOfItsLayer cause_of layer_of
causes_of_panels (NoSuchWord k) = refl
causes_of_panels (Silent k) = refl
