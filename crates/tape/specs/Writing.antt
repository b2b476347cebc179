-- What is written for a number or for none. Assumes nothing.
use Rattle.std.specs.Prelude.{ℕ, Some, None, Option}
use Rattle.tape.specs.Format.{Entry, number, silent}

abbrev pub entry_from : Option ℕ → Entry
entry_from (Some n) = number n
entry_from None = silent
