use Rattle.std.proofs.Common.{◌≡◌, rules, arith}
use Rattle.std.proofs.lemmas.Iterator.{cases_from_any}
use Rattle.tokens.specs.Tokens.{bracket_opens, label}
use Rattle.grammar.specs.Verdict.{kinds_of}
use Rattle.rules.specs.Labels.{IsLabel}
use Rattle.rules.proofs.Searches.{kind_behind, over_kinds, any_place}
use Rattle.rules.proofs.has_label.Goals as goal

pub returns : goal.returns
returns c =
    let h =
    any_place (λ k. k ≡ label c.args.n) (λ k. k ≡ label c.args.n → ⊥) (kinds_of c.args.tokens.now) bracket_opens (IsLabel (kinds_of c.args.tokens.now) c.args.n) (λ k lt e. e) (λ k lt e. e) c.any.result
    (cases_from_any {v = kind_behind} _ _ _ (λ k. k ≡ label c.args.n) (λ k. k ≡ label c.args.n → ⊥) c.any.ensures.ran (over_kinds c.args.tokens.now cc) (λ x q k. search rules) (λ x q k. search rules)) in
    (λ t. let p = h.0 t in (p.0, omega arith, p.1, p.2), λ p. h.1 (p.0, p.2, p.3))
