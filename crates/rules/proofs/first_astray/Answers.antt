use Rattle.std.proofs.Common.{length, rules, arith}
use Rattle.std.proofs.lemmas.Iterator.{first_from_Range}
use Rattle.grammar.specs.Verdict.{kinds_of}
use Rattle.rules.specs.Labels.{Astray}
use Rattle.rules.proofs.Seen.{length_kinds}
use Rattle.rules.proofs.Searches.{first_of_range}
use Rattle.rules.proofs.Places.{astray_inside}
use Rattle.rules.proofs.first_astray.Goals as goal

pub returns : goal.returns
returns c =
    first_of_range (Astray (kinds_of c.args.tokens.now)) (length c.args.tokens.now) (λ k p. let lt = astray_inside (kinds_of c.args.tokens.now) k p in omega (arith, length_kinds c.args.tokens.now)) c.find.result
    (first_from_Range _ _ _ _ (Astray (kinds_of c.args.tokens.now)) (λ k. Astray (kinds_of c.args.tokens.now) k → ⊥) c.find.ensures.ran (λ x q k. search rules) (λ x q k. search rules))
