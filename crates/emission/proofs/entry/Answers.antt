use Rattle.emission.proofs.Trees.{places_by_tokens}
use Rattle.emission.proofs.entry.Goals as goal

pub returns : goal.returns
returns c = record { place = c.place_from.ensures.place; tree = places_by_tokens }
