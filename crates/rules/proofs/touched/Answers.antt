use Rattle.std.proofs.Common.{◌≡◌, ℕ, true, Option, None, rules, arith}
use Rattle.std.proofs.lemmas.Iterator.{cases_from_any}
use Rattle.tokens.specs.Tokens.{Kind, bracket_opens}
use Rattle.grammar.specs.Verdict.{kinds_of}
use Rattle.rules.specs.Tables.{lit, StoresAmong, Touches}
use Rattle.rules.specs.Walk.{standing, seen}
use Rattle.rules.proofs.Searches.{any_place}
use Rattle.rules.proofs.Walks.{length-standing, over_homes, at_place}
use Rattle.rules.proofs.touched.Goals as goal

pub returns : goal.returns
returns c =
    let Yes = λ (x : Option ℕ × Kind). (lit c.args.set.now.marks x.0 ≡ true) × StoresAmong x.1 c.args.bytes in
    let No = λ (x : Option ℕ × Kind). (lit c.args.set.now.marks x.0 ≡ true) × StoresAmong x.1 c.args.bytes → ⊥ in
    let P = Touches (kinds_of c.args.tokens.now) c.args.set.now.marks c.args.bytes in
    let h =
    any_place Yes No (standing None (kinds_of c.args.tokens.now)) (None, bracket_opens) P
    (at_place c.args.tokens.now Yes P (λ k y. y))
    (at_place c.args.tokens.now No (λ k. P k → ⊥) (λ k n. n))
    c.any.result
    (cases_from_any {v = seen} c.any.new.self _ _ Yes No c.any.ensures.ran (over_homes c.args.tokens.now c.over.ensures.all) (λ x q k. search rules) (λ x q k. search rules)) in
    let l = length-standing None (kinds_of c.args.tokens.now) in
    (λ t. let p = h.0 t in (p.0, omega (arith, p.1), p.2), λ p. h.1 (p.0, omega (arith, p.1), p.2))
