use Rattle.std.proofs.Common.{refl, ◌∙◌}
use Rattle.std.proofs.lemmas.Bool.{both_ways}
use Rattle.rules.proofs.Seen.{kind_there}
use Rattle.rules.proofs.Places.{repeats_if, no_value}
use Rattle.rules.proofs.repeats.Goals as goal

pub returns-in-Some : goal.returns-in-Some
returns-in-Some c = repeats_if c.args.tokens.now c.args.i c.in-Some.n _ c.has_label.result c.requires ((c.in-Some.ensures c.in-Some.n).1 refl) c.has_label.ensures

pub returns-in-None : goal.returns-in-None
returns-in-None c = (λ t. absurd (both_ways _ refl t), λ p. absurd (no_value ((c.in-None.ensures p.0).0 (kind_there c.args.tokens.now c.args.i _ c.requires ∙ p.1))))
