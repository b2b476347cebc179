use Rattle.std.proofs.Common.{Ok, Err, sym, refl, ap, ◌∙◌, subst, arith}
use Rattle.std.proofs.lemmas.Result.{err_from_is_err_and}
use Rattle.reading.specs.Items.{written, Left}
use Rattle.reading.specs.Verdict.{Verdict}
use Rattle.reading.proofs.Layouts.{all_in_place}
use Rattle.reading.proofs.Verdicts.{verdict_of, one_verdict}
use Rattle.reading.proofs.Whole.{refused_whole, accepted_whole}
use Rattle.reading.proofs.read.Goals as goal

pub returns-in_err-count : goal.returns-in_err-count
returns-in_err-count c =
    let text = c.args.text.now in
    let old = c.args.memory.now in
    let e = err_from_is_err_and c.from_residual.result c.from_residual.ensures.1 in
    let same = refused_whole text c.in_err-count.field-0.0 (sym c.in_err-count.was ∙ c.judge.ensures) in
    let is = ap (written old) e.1 ∙ ap Err e.2 ∙ same in
    let judged = subst (Verdict text) (sym is) (verdict_of text) in
    record {
      is = is;
      left = subst (Left old old) (sym e.1) refl;
      size = c.told-memory;
      verdict = judged;
      one = one_verdict text;
      placed = all_in_place text (written old c.from_residual.result) judged;
    }

pub returns-in_err-fill : goal.returns-in_err-fill
returns-in_err-fill c =
    let a = accepted_whole c.args.text.now c.in_ok-count.count (sym c.in_ok-count.was ∙ c.judge.ensures) in
    let filled = c.fill.ensures a.tokens a.judged (omega (arith, a.few)) in
    absurd (cc (filled.0, c.in_err-fill.was))

pub returns : goal.returns
returns c =
    let text = c.args.text.now in
    let row = c.fill.new.memory in
    let a = accepted_whole text c.in_ok-count.count (sym c.in_ok-count.was ∙ c.judge.ensures) in
    let f = (c.fill.ensures a.tokens a.judged (omega (arith, a.few))).1 in
    let is = ap (λ n. written row (Ok n)) a.count ∙ f.all ∙ a.read in
    let judged = subst (Verdict text) (sym is) (verdict_of text) in
    record {
      is = is;
      left = subst (λ n. Left row c.args.memory.now (Ok n)) (sym a.count) f.left;
      size = omega arith;
      verdict = judged;
      one = one_verdict text;
      placed = all_in_place text (written row (Ok c.in_ok-count.count)) judged;
    }
