-- What the first bytes of a part say of the rest. Assumes nothing.
use Rattle.std.proofs.lemmas.Bool.Decides.{nat_tests}
use Rattle.std.proofs.lemmas.List.{take_rest, get_or_past}

pub ruleset first_bytes = (nat_tests, take_rest, get_or_past)
