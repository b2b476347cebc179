-- The names of the layers, and the causes by which each refuses. Assumes nothing.
use Rattle.std.specs.Prelude.{Bool, List, ℕ, ◌&&◌, ◌||◌, ◌==◌, ◌≡◌, true, codes, nat_le}
use Rattle.faults.specs.declared.Layer.{Layer}
use Rattle.faults.specs.declared.Layer.TheVariants.{Reading, Grammar, Linking, Controller, Panel}

abbrev pub layer_name : Layer → List ℕ
layer_name Reading = codes "reading"
layer_name Grammar = codes "grammar"
layer_name Linking = codes "linking"
layer_name Controller = codes "controller"
layer_name Panel = codes "panel"

-- whether a layer refuses by a cause: 16 is shared by the panels and the controller's display
abbrev pub refuses : Layer → ℕ → Bool
refuses Reading n = nat_le 1 n && nat_le n 6
refuses Grammar n = nat_le 7 n && nat_le n 8
refuses Linking n = nat_le 9 n && nat_le n 13
refuses Controller n = n == 14 || n == 16
refuses Panel n = nat_le 15 n && nat_le n 17

-- every fault of a kind has a cause of its layer
abbrev pub CauseOfItsLayer : {F : Type 0} → (F → ℕ) → (F → Layer) → Type 0
CauseOfItsLayer {F} cause layer = (e : F) → refuses (layer e) (cause e) ≡ true
