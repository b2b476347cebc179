-- How a place is printed. Assumes nothing.
use Rattle.std.specs.Prelude.{ℕ, List, ◌∷◌, ◌++◌}
use Rattle.std.specs.Fmt.{decimal}
use Rattle.faults.specs.declared.Place.{Place}

-- the line, a colon, and the column
abbrev pub place_text : Place → List ℕ
place_text p = decimal p.line ++ (58 ∷ decimal p.column)
