use Rattle.std.proofs.Common.{ap, ◌∙◌}
use Rattle.reading.specs.declared.Placed.{Placed}
use Rattle.linking.proofs.Placing.{inside_place}
use Rattle.linking.proofs.parsed.ParsedText.place_of.Goals as goal

pub returns-in-Some : goal.returns-in-Some
returns-in-Some c =
    let l = c.in-Some.ensures.lookup in
    ap (λ (p : Placed). p.place) l.1 ∙ inside_place c.args.self.now.text.now c.args.self.now.tokens.now c.args.i _ l.3.0
