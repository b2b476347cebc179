use Rattle.std.proofs.Common.{length, rules, arith}
use Rattle.std.proofs.lemmas.Iterator.{first_from_Range}
use Rattle.grammar.specs.Verdict.{kinds_of}
use Rattle.rules.specs.Labels.{Repeats}
use Rattle.rules.proofs.Seen.{length_kinds}
use Rattle.rules.proofs.Searches.{first_of_range}
use Rattle.rules.proofs.Places.{repeats_inside}
use Rattle.rules.proofs.Unique.{one_finding}
use Rattle.rules.proofs.repeated_label.Goals as goal

pub returns-clause-first : goal.returns-clause-first
returns-clause-first c =
    first_of_range (Repeats (kinds_of c.args.tokens.now)) (length c.args.tokens.now) (λ k p. let lt = repeats_inside (kinds_of c.args.tokens.now) k p in omega (arith, length_kinds c.args.tokens.now)) c.find.result
    (first_from_Range _ _ _ _ (Repeats (kinds_of c.args.tokens.now)) (λ k. Repeats (kinds_of c.args.tokens.now) k → ⊥) c.find.ensures.ran (λ x q k. search rules) (λ x q k. search rules))

pub returns-clause-one : goal.returns-clause-one
returns-clause-one c = one_finding (Repeats (kinds_of c.args.tokens.now))
