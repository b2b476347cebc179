use Rattle.std.proofs.Common.{◌≡◌, ◌+◌, ◌^◌, ◌<◌, false, cond, not, length, get_or, sym, ap, ◌∙◌, arith, lit≤}
use Rattle.panel.specs.Meaning.{Meaning, after_put, after_puts, mask_of}
use Rattle.panel.proofs.Steps.{after_puts_more, mask_more, put_silent, answers_kept, mask_silent, mask_answers, length_after, below}
use Rattle.panel.proofs.sweeps.put_all.Goals as goal
use Rattle.panel.proofs.sweeps.put_all.Goals.{then-is_err, else-is_err}

pub loop-word-preserved : goal.loop-word-preserved
loop-word-preserved g c =
    let m = g.P.Panel.meaning c.args.panel.now in
    let n = g.P.Panel.meaning c.loop-word.panel in
    let k = c.loop-word.word in
    let words = c.args.words.now in
    let silent = put_silent n k c.put.result c.loop-word-test.true c.put.ensures.answer ∙ ap (λ a. not (get_or a k false)) c.loop-word.invariant.1 in
    let turn : (c.if-is_err.mask ≡ c.loop-word.mask + cond (get_or m.output_answers k false) 0 (2 ^ k)) × (c.if-is_err.mask < 2 ^ (k + 1)) =
    elim c.if-is_err.branch [ then-is_err w ↦ mask_silent (get_or m.output_answers k false) c.loop-word.mask k _ c.loop-word.invariant.3 c.loop-word-test.true (w.if-is_err.ensures.value ∙ silent) w.mask-is | else-is_err w ↦ mask_answers (get_or m.output_answers k false) c.loop-word.mask k _ c.loop-word.invariant.3 (w.if-is_err.ensures.value ∙ silent) w.mask-is ] in (
      c.put.ensures.after ∙ ap (λ x. after_put x k (get_or words k 0)) c.loop-word.invariant.0 ∙ sym (after_puts_more m words k),
      ap (λ (x : Meaning). x.output_answers) c.put.ensures.after ∙ answers_kept n k _ ∙ c.loop-word.invariant.1,
      turn.0 ∙ ap (λ x. x + cond (get_or m.output_answers k false) 0 (2 ^ k)) c.loop-word.invariant.2 ∙ sym (mask_more m.output_answers k),
      turn.1,
      c.put.ensures.rest ∙ c.loop-word.invariant.4,
    )

pub returns : goal.returns
returns g c =
    let m = g.P.Panel.meaning c.args.panel.now in
    let words = c.args.words.now in
    let done : c.loop-word.word ≡ 8 = omega arith in
    let sized = g.met.P.Panel.sized c.loop-word.panel in
    let after = c.loop-word.invariant.0 ∙ ap (after_puts m words) done in
    let long = sym (length_after m words 8 (lit≤ tt)) ∙ ap (λ (x : Meaning). length x.outputs) (sym after) ∙ sized.outputs_long in
    record {
      mask = c.loop-word.invariant.2 ∙ ap (mask_of m.output_answers) done;
      after = after;
      rest = c.loop-word.invariant.4;
      places = λ k h. ap (λ (x : Meaning). get_or x.outputs k 0) after ∙ below m words long 8 (lit≤ tt) k h;
    }
