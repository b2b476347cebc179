use Rattle.std.proofs.Common.{◌+◌, length, refl, ◌∙◌, subst, Decides}
use Rattle.std.proofs.lemmas.Bool.{both_ways}
use Rattle.std.proofs.lemmas.List.{take_rest}
use Rattle.grammar.specs.Verdict.{kinds_of}
use Rattle.rules.specs.Labels.{Labelled}
use Rattle.rules.proofs.Seen.{kind_there}
use Rattle.rules.proofs.Places.{astray_if, no_value}
use Rattle.rules.proofs.is_astray.Goals as goal

pub returns-in-Some : goal.returns-in-Some
returns-in-Some c = astray_if c.args.tokens.now c.args.i c.in-Some.n _ c.has_label.result c.requires ((c.in-Some.ensures c.in-Some.n).1 refl) (subst (λ us. Decides c.has_label.result (Labelled (kinds_of us) c.in-Some.n 0 (length (kinds_of us)))) (take_rest c.args.tokens.now (c.args.i + 1)) c.has_label.ensures)

pub returns-in-None : goal.returns-in-None
returns-in-None c = (λ t. absurd (both_ways _ refl t), λ p. absurd (no_value ((c.in-None.ensures p.0).0 (kind_there c.args.tokens.now c.args.i _ c.requires ∙ p.1))))
