use Rattle.std.proofs.Common.{ℕ, ◌↔◌, subst, refl}
use Rattle.tokens.specs.Tokens.{Kind}
use Rattle.grammar.specs.Verdict.{kinds_of}
use Rattle.rules.specs.Bytes.{Stores}
use Rattle.rules.specs.Tables.{Within}
use Rattle.rules.proofs.Seen.{kind_there}
use Rattle.rules.proofs.Overlaps.{decides_clash, no_clash}
use Rattle.rules.proofs.clashes_at.Goals as goal
use Rattle.std.proofs.lemmas.Bool.{both_ways}

pub returns-in-Some : goal.returns-in-Some
returns-in-Some c =
    let stores = subst (λ (k : Kind). (b : ℕ) → Stores k b ↔ Within c.in-Some.bytes b) (kind_there c.args.tokens.now c.args.i _ c.requires.inside) c.in-Some.ensures in
    decides_clash c.args.tokens.now c.args.i c.requires.inside c.args.within c.requires.home c.in-Some.bytes stores _ _ c.requires.slow c.requires.quick c.clashes.result c.clashes.ensures

pub returns-in-None : goal.returns-in-None
returns-in-None c =
    (λ t. absurd (both_ways _ refl t), λ p. absurd (no_clash (kinds_of c.args.tokens.now) c.args.i _ c.stored_by.result (kind_there c.args.tokens.now c.args.i _ c.requires.inside) c.stored_by.ensures c.in-None.is p))
