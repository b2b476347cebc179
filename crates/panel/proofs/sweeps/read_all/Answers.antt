use Rattle.std.proofs.Common.{◌≡◌, ◌-◌, ◌<◌, length, get_or, None, Ok, sym, ap, ◌∙◌, arith}
use Rattle.std.proofs.lemmas.List.{length-set}
use Rattle.std.proofs.lemmas.List.Edits.{fill_by_more}
use Rattle.std.proofs.lemmas.List.FromFn.{fill_by_all}
use Rattle.panel.specs.Meaning.{Meaning, first_silent, words_of}
use Rattle.panel.specs.Answers.{read_of}
use Rattle.panel.specs.Sweeps.{words_unless}
use Rattle.panel.proofs.Steps.{silent_answers, read_ok}
use Rattle.panel.proofs.sweeps.read_all.Goals as goal

pub loop-k-preserved : goal.loop-k-preserved
loop-k-preserved g c =
    let m = g.P.Panel.meaning c.args.panel.now in
    let k = c.loop-k.k in
    let q = read_ok m k c.in_ok-word.field-0 c.loop-k-test.true (c.in_ok-word.ensures.answer ∙ ap (λ (x : Meaning). read_of x k) c.loop-k.invariant.1) in
    let inside : k < length c.loop-k.word-items = omega arith in (
      length-set _ _ _ ∙ c.loop-k.invariant.0,
      c.read.ensures.after ∙ c.loop-k.invariant.1,
      sym (silent_answers m.input_answers k 8 c.loop-k-test.true q.0) ∙ c.loop-k.invariant.2,
      rw q.1 (fill_by_more (λ k. get_or m.inputs k 0) c.loop-k.word-items k 0 inside c.loop-k.invariant.3),
      c.read.ensures.rest ∙ c.loop-k.invariant.4,
    )

pub returns : goal.returns
returns g c =
    let m = g.P.Panel.meaning c.args.panel.now in
    let done : c.loop-k.k ≡ 8 = omega arith in
    let none : first_silent m.input_answers 0 8 ≡ None = sym c.loop-k.invariant.2 ∙ ap (λ k. first_silent m.input_answers k (8 - k)) done in
    let all = fill_by_all (λ k. get_or m.inputs k 0) c.loop-k.word-items 8 0 c.loop-k.invariant.0 (rw done at c.loop-k.invariant.3) in
    record { answer = ap Ok all ∙ ap (λ o. words_unless o (words_of m)) (sym none); after = c.loop-k.invariant.1; rest = c.loop-k.invariant.4 }
