use Rattle.std.proofs.Common.{◌≡◌, eqb, List, ℕ, [], None, Some, get_or, Bor, refl, rules, tests, sym, ap, ◌∙◌}
use Rattle.std.specs.Option.{unwrap_or, option_map}
use Rattle.std.proofs.lemmas.Iterator.Consumers.{nth_from_yields_List}
use Rattle.std.proofs.lemmas.Iterator.Splits.{YieldsList-from_slice_split}
use Rattle.std.proofs.lemmas.Option.{unwrap_or-slice_get}
use Rattle.std.specs.declared.option.Option.{Option}
use Rattle.reporting.proofs.Parts.{parts, line_is_part}
use Rattle.reporting.proofs.lines.line_of.Goals as goal

now_of : (r : Option (Bor (List ℕ))) (d : Bor (List ℕ)) → (unwrap_or r d).now ≡ unwrap_or (option_map (λ x. x.now) r) d.now
now_of None d = refl
now_of (Some x) d = refl

pub returns : goal.returns
returns c =
    let text = c.args.text.now in
    ap (λ r. r.now) c.unwrap_or.ensures
    ∙ now_of c.nth.result _
    ∙ ap (λ o. unwrap_or o [])
    (nth_from_yields_List c.nth.result _ _ c.nth.ensures.ran
    (YieldsList-from_slice_split _ (λ b. eqb b 10) text c.split.ensures.rest c.split.ensures.done c.split.ensures.closure (λ x b q k. search (rules, tests))))
    ∙ unwrap_or-slice_get (parts text) _ []
    ∙ ap (λ n. get_or (parts text) n []) c.saturating_sub-before.ensures
    ∙ sym (line_is_part c.args.line text)
