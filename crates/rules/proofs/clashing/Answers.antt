use Rattle.std.proofs.Common.{◌≡◌, ◌<◌, ℕ, Option, None, length, get_or, ap, ◌∙◌, subst, rules, arith}
use Rattle.std.proofs.lemmas.Iterator.{IsFirst-from_position}
use Rattle.std.proofs.lemmas.Iterator.Consumers.{YieldsList-from_enumerate}
use Rattle.std.proofs.lemmas.Iterator.Adapters.{serves_from_places}
use Rattle.tokens.specs.Tokens.{Kind, bracket_opens}
use Rattle.grammar.specs.Verdict.{kinds_of}
use Rattle.rules.specs.Bytes.{Clash}
use Rattle.rules.proofs.Walks.{over_homes, counted, length-standing}
use Rattle.std.specs.List.{enumerate_from}
use Rattle.std.proofs.lemmas.List.FromFn.{length-enumerate_from, get_or-enumerate_from}
use Rattle.tokens.specs.declared.Token.{Token}
use Rattle.rules.specs.Walk.{standing, seen, left}
use Rattle.rules.proofs.Searches.{first_place}
use Rattle.rules.proofs.Overlaps.{clash_inside}
use Rattle.rules.proofs.Unique.{one_finding}
use Rattle.rules.proofs.clashing.Goals as goal

pub position-requires-clause-callable : goal.position-requires-clause-callable
position-requires-clause-callable c =
    serves_from_places (YieldsList-from_enumerate (over_homes c.args.tokens.now (ap left c.enumerate.ensures.source ∙ c.over.ensures.all)) c.enumerate.ensures.count) (λ x q k. search rules) (λ x k lt e. let p = counted c.args.tokens.now _ k lt e in search (rules, p.1, p.2, c.level-slow.ensures, c.level-quick.ensures))

pub returns-clause-one : goal.returns-clause-one
returns-clause-one c = one_finding (Clash (kinds_of c.args.tokens.now))

pub returns-clause-first : goal.returns-clause-first
returns-clause-first c =
    let ks = kinds_of c.args.tokens.now in
    let all = enumerate_from 0 (standing None ks) in
    let n = length-enumerate_from 0 (standing None ks) in
    let l = length-standing None ks in
    let d : ℕ × (Option ℕ × Kind) = (0, (None, bracket_opens)) in
    let at : (k : ℕ) → k < length all → (get_or all k d).0 ≡ k = λ k lt. ap (λ (z : ℕ × (Option ℕ × Kind)). z.0) (get_or-enumerate_from 0 (standing None ks) k d (omega (arith, n))) ∙ omega arith in
    first_place (λ x. Clash ks x.0) (λ x. Clash ks x.0 → ⊥) all d (Clash ks)
    (λ k lt y. subst (Clash ks) (at k lt) y)
    (λ k lt y. subst (λ (i : ℕ). Clash ks i → ⊥) (at k lt) y)
    (λ k p. let q = clash_inside ks k p in omega (arith, n, l))
    c.position.result
    (IsFirst-from_position {v = λ (p : ℕ × (Option ℕ × Token)). (p.0, seen p.1)} c.position.new.self _ _ (λ x. Clash ks x.0) (λ x. Clash ks x.0 → ⊥) c.position.ensures.ran (YieldsList-from_enumerate (over_homes c.args.tokens.now (ap left c.enumerate.ensures.source ∙ c.over.ensures.all)) c.enumerate.ensures.count) (λ x q k. search rules) (λ x q k. search rules))
