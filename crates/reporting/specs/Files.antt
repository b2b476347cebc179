-- Files of a command. Assumes nothing.
use Rattle.std.specs.Prelude.{◌≡◌, Bool, true, List, ℕ, Ok, Result}
use Rattle.reporting.specs.declared.files.Source.{Source}

-- a file of that name was read, and a step that answers by `post` says that all is well with it
abbrev pub IsWell : {E : Type 0} → (Source → Result Bool E → Type 0) → List ℕ → Type 0
IsWell post name = (source : Source) × (source.name.now ≡ name) × post source (Ok true)
