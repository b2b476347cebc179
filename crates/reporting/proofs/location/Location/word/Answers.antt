use Rattle.std.proofs.Common.{rules}
use Rattle.reporting.proofs.Search.{first_by}
use Rattle.reporting.proofs.location.Location.word.Goals as goal

pub returns-clause-first : goal.returns-clause-first
returns-clause-first c = first_by (λ w b p. search rules) c.find_word.ensures.first
