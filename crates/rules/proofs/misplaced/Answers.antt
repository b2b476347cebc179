use Rattle.std.proofs.Common.{◌≡◌, ℕ, true, Option, None, rules, arith}
use Rattle.std.proofs.lemmas.Iterator.{IsFirst-from_position}
use Rattle.tokens.specs.Tokens.{Kind, bracket_opens}
use Rattle.grammar.specs.Verdict.{kinds_of}
use Rattle.rules.specs.Levels.{Misplaced, Level1Alone}
use Rattle.rules.specs.Tables.{lit}
use Rattle.rules.specs.Walk.{standing, seen}
use Rattle.rules.proofs.Searches.{first_place}
use Rattle.rules.proofs.Places.{inside, home_is_last_label}
use Rattle.rules.proofs.Walks.{length-standing, over_homes, at_place}
use Rattle.rules.proofs.Passes.{on_level}
use Rattle.rules.proofs.misplaced.Goals as goal

pub returns-clause-first : goal.returns-clause-first
returns-clause-first c =
    let Yes = λ (x : Option ℕ × Kind). (lit c.level-slow.result.marks x.0 ≡ true) × Level1Alone x.1 in
    let No = λ (x : Option ℕ × Kind). (lit c.level-slow.result.marks x.0 ≡ true) × Level1Alone x.1 → ⊥ in
    first_place Yes No (standing None (kinds_of c.args.tokens.now)) (None, bracket_opens) (Misplaced (kinds_of c.args.tokens.now))
    (at_place c.args.tokens.now Yes (Misplaced (kinds_of c.args.tokens.now)) (λ k y. (y.1, (on_level _ 0 _ c.level-slow.ensures k).0 y.0)))
    (at_place c.args.tokens.now No (λ k. Misplaced (kinds_of c.args.tokens.now) k → ⊥) (λ k n p. n ((on_level _ 0 _ c.level-slow.ensures k).1 p.1, p.0)))
    (λ k p. let lt = inside Level1Alone (λ q. q) (kinds_of c.args.tokens.now) k p.0 in omega (arith, length-standing None (kinds_of c.args.tokens.now)))
    c.position.result
    (IsFirst-from_position {v = seen} c.position.new.self _ _ Yes No c.position.ensures.ran (over_homes c.args.tokens.now c.over.ensures.all) (λ x q k. search rules) (λ x q k. search rules))

pub returns-clause-homes : goal.returns-clause-homes
returns-clause-homes c = home_is_last_label
