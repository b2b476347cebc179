use Rattle.std.proofs.Common.{◌∙◌, sym, rules, arith}
use Rattle.std.proofs.lemmas.Iterator.{YieldsList-from_map}
use Rattle.std.proofs.lemmas.Iterator.Consumers.{sum_by_from_yields_List, fits_by_from_yields_list}
use Rattle.grammar.specs.Verdict.{kinds_of}
use Rattle.emission.specs.Emission.{weight}
use Rattle.emission.proofs.Turns.{length_kinds, over_kinds, total-sum_by, total_small}
use Rattle.emission.proofs.count.Goals as goal

pub sum-requires-clause-fits : goal.sum-requires-clause-fits
sum-requires-clause-fits c =
    fits_by_from_yields_list weight (kinds_of c.args.tokens.now) c.map.result _
    (YieldsList-from_map _ weight (over_kinds c.args.tokens.now cc) c.map.ensures.closure (λ x r q k. search rules))
    (omega (arith, total-sum_by (kinds_of c.args.tokens.now), total_small (kinds_of c.args.tokens.now), length_kinds c.args.tokens.now, c.iter.ensures.bound, c.iter.ensures.len))

pub returns : goal.returns
returns c = record {
  total =
      sum_by_from_yields_List weight (kinds_of c.args.tokens.now) c.map.result _ c.sum.ensures.ran
      (YieldsList-from_map _ weight (over_kinds c.args.tokens.now cc) c.map.ensures.closure (λ x r q k. search rules))
      ∙ sym (total-sum_by (kinds_of c.args.tokens.now));
}
