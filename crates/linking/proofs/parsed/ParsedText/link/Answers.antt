use Rattle.std.proofs.Common.{map, Err, sym, ap, ◌∙◌, subst}
use Rattle.std.proofs.lemmas.Result.{err_from_is_err_and}
use Rattle.reading.specs.Items.{item}
use Rattle.linking.specs.Judging.{Links}
use Rattle.linking.proofs.Joining.{known, room, linked, weight_fault}
use Rattle.linking.proofs.Verdicts.{token_fault}
use Rattle.linking.proofs.parsed.ParsedText.link.Goals as goal

pub returns-in_err-check_rules : goal.returns-in_err-check_rules
returns-in_err-check_rules c =
    let e = err_from_is_err_and c.from_residual.result c.from_residual.ensures.1 in
    subst (Links c.args.self.now.text.now) (sym (e.1 ∙ ap Err e.2))
    (token_fault c.args.self.now.text.now (map item c.args.self.now.tokens.now) c.requires.0 _ c.requires.1 c.in_err-check_rules.ensures)

pub assemble-program-requires : goal.assemble-program-requires
assemble-program-requires c = record {
  text = (c.requires.0, c.requires.1.spelled);
  known = known c.args.self.now.text.now (map item c.args.self.now.tokens.now) c.requires.1.read;
  room = room c.args.self.now.text.now (map item c.args.self.now.tokens.now) c.requires.0 c.requires.1;
}

pub returns-in_err-figures : goal.returns-in_err-figures
returns-in_err-figures c =
    let e = err_from_is_err_and c.from_residual-in_err-figures.result c.from_residual-in_err-figures.ensures.1 in
    subst (Links c.args.self.now.text.now) (sym (e.1 ∙ ap Err e.2))
    (weight_fault c.args.self.now.text.now (map item c.args.self.now.tokens.now) c.requires.0 c.requires.1 c.in_ok-check_rules.ensures _ (c.in_err-figures.ensures c.requires.0 c.requires.1.spelled))

pub returns : goal.returns
returns c = linked c.args.self.now.text.now (map item c.args.self.now.tokens.now) c.requires.0 c.requires.1 c.in_ok-check_rules.ensures c.assemble-program.result c.in_ok-figures.figures c.assemble-program.ensures (c.in_ok-figures.ensures c.requires.0 c.requires.1.spelled)

pub invariant_of-result : goal.invariant_of-result
invariant_of-result c =
    let l = linked c.args.self.now.text.now (map item c.args.self.now.tokens.now) c.requires.0 c.requires.1 c.in_ok-check_rules.ensures c.assemble-program.result c.in_ok-figures.figures c.assemble-program.ensures (c.in_ok-figures.ensures c.requires.0 c.requires.1.spelled) in
    record { compiled = ∣ record { text = c.args.self.now.text.now; modules = l.modules; accepted = l.accepted; recorded = l.recorded } ∣₁ }
