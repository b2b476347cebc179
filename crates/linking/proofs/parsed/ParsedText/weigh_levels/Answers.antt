use Rattle.std.proofs.Common.{Err, map, sym, ap, ◌∙◌, subst}
use Rattle.std.proofs.lemmas.Result.{err_from_is_err_and}
use Rattle.reading.specs.Items.{item}
use Rattle.grammar.specs.Verdict.{kinds_of}
use Rattle.linking.specs.Judging.{Weighed}
use Rattle.linking.proofs.Levels.{there_1, there_0, quick_code, slow_code, quick_fault, slow_fault, exact}
use Rattle.linking.proofs.parsed.ParsedText.weigh_levels.Goals as goal

pub level_figure-requires : goal.level_figure-requires
level_figure-requires c = there_1 (kinds_of c.args.self.now.tokens.now) c.requires.rooted

pub returns-in_err-quick : goal.returns-in_err-quick
returns-in_err-quick c = λ ms e.
    let text = c.args.self.now.text.now in
    let ts = map item c.args.self.now.tokens.now in
    let k = err_from_is_err_and c.from_residual.result c.from_residual.ensures.1 in
    let q = c.weigh.ensures.list ms 1 (quick_code (kinds_of c.args.self.now.tokens.now) c.args.program.now c.requires.program ms e _ c.quick.ensures.answer) in
    let f = c.in_err-quick.ensures in
    subst (Weighed text ts ms) (sym (k.1 ∙ ap Err (k.2 ∙ f.1.2))) (quick_fault text ts ms f.1.0 f.1.1 (f.0 ms 1 q))

pub level_figure-requires-2 : goal.level_figure-requires-2
level_figure-requires-2 c = there_0 (kinds_of c.args.self.now.tokens.now) c.requires.rooted

pub returns-in_err-slow : goal.returns-in_err-slow
returns-in_err-slow c = λ ms e.
    let text = c.args.self.now.text.now in
    let ts = map item c.args.self.now.tokens.now in
    let k = err_from_is_err_and c.from_residual-in_err-slow.result c.from_residual-in_err-slow.ensures.1 in
    let q = c.weigh.ensures.list ms 1 (quick_code (kinds_of c.args.self.now.tokens.now) c.args.program.now c.requires.program ms e _ c.quick.ensures.answer) in
    let s = c.weigh-2.ensures.list ms 0 (slow_code (kinds_of c.args.self.now.tokens.now) c.args.program.now c.requires.program ms e _ c.slow.ensures.answer) in
    let f = c.in_err-slow.ensures in
    subst (Weighed text ts ms) (sym (k.1 ∙ ap Err (k.2 ∙ f.1.2))) (slow_fault text ts ms f.1.0 f.1.1 (c.in_ok-quick.ensures.0 ms 1 q) (f.0 ms 0 s))

pub returns : goal.returns
returns c = λ ms e.
    let q = c.weigh.ensures.list ms 1 (quick_code (kinds_of c.args.self.now.tokens.now) c.args.program.now c.requires.program ms e _ c.quick.ensures.answer) in
    let s = c.weigh-2.ensures.list ms 0 (slow_code (kinds_of c.args.self.now.tokens.now) c.args.program.now c.requires.program ms e _ c.slow.ensures.answer) in
    let lq = c.in_ok-quick.ensures.0 ms 1 q in
    let ls = c.in_ok-slow.ensures.0 ms 0 s in
    record { quick_light = lq; slow_light = ls; quick = c.in_ok-quick.ensures.1 ∙ exact ms 1 c.weigh.result q lq; slow = c.in_ok-slow.ensures.1 ∙ exact ms 0 c.weigh-2.result s ls }
