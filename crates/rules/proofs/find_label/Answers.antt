use Rattle.std.proofs.Common.{◌≡◌, rules}
use Rattle.std.proofs.lemmas.Iterator.{IsFirst-from_position}
use Rattle.tokens.specs.Tokens.{bracket_opens, label}
use Rattle.grammar.specs.Verdict.{kinds_of}
use Rattle.rules.specs.Labels.{IsLabel}
use Rattle.rules.proofs.Searches.{kind_behind, over_kinds, first_place}
use Rattle.rules.proofs.Places.{label_inside}
use Rattle.rules.proofs.find_label.Goals as goal

pub returns-clause-first : goal.returns-clause-first
returns-clause-first c =
    first_place (λ k. k ≡ label c.args.n) (λ k. k ≡ label c.args.n → ⊥) (kinds_of c.args.tokens.now) bracket_opens (IsLabel (kinds_of c.args.tokens.now) c.args.n) (λ k lt e. e) (λ k lt e. e)
    (λ j p. label_inside _ j _ p) c.position.result
    (IsFirst-from_position {v = kind_behind} _ _ _ (λ k. k ≡ label c.args.n) (λ k. k ≡ label c.args.n → ⊥) c.position.ensures.ran (over_kinds c.args.tokens.now cc) (λ x q k. search rules) (λ x q k. search rules))
