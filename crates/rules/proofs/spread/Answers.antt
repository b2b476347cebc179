use Rattle.std.proofs.Common.{sym, refl, ap, ◌∙◌, arith}
use Rattle.rules.specs.Tables.{lit}
use Rattle.rules.proofs.Places.{no_value}
use Rattle.rules.proofs.Walks.{walk_from, turn, ended}
use Rattle.rules.proofs.Passes.{off_if, on_if, set_marked, more, passes_other, passes_unlit, passes_marked, marks_callee, spread_all}
use Rattle.rules.proofs.spread.Goals as goal
use Rattle.rules.proofs.spread.Goals.{else-has-via-then-has+else-insert, else-has-via-else-has}

pub loop-within-preserved : goal.loop-within-preserved
loop-within-preserved c =
    let here = turn c.args.tokens.now _ c.next.new.self (walk_from c.args.tokens.now c.over-within-items.ensures.all c.into_iter-within-iterator.ensures.into_iter_gives) c.loop-within.yielded c.loop-within.yielded_by c.next.result c.next.ensures.steps (c.in-Some.within, c.in-Some.token) c.in-Some.is in
    more c.loop-within.yielded _ refl refl (passes_other _ _ _ _ _ c.loop-within.invariant (λ n e. no_value (sym c.in_default.is ∙ (c.callee_of.ensures n).0 (here.1 ∙ e))))

pub loop-within-preserved-then-insert : goal.loop-within-preserved-then-insert
loop-within-preserved-then-insert c =
    let here = turn c.args.tokens.now _ c.next.new.self (walk_from c.args.tokens.now c.over-within-items.ensures.all c.into_iter-within-iterator.ensures.into_iter_gives) c.loop-within.yielded c.loop-within.yielded_by c.next.result c.next.ensures.steps (c.in-Some.within, c.in-Some.token) c.in-Some.is in
    more c.loop-within.yielded _ c.insert.ensures.marks refl
    (marks_callee _ _ _ _ _ c.loop-within.invariant c.in-Some-callee_of.n (omega arith) (sym here.1 ∙ (c.in-Some-callee_of.ensures c.in-Some-callee_of.n).1 refl) (ap (lit c.loop-within.set.marks) (sym here.0) ∙ sym c.has.ensures ∙ c.if-has.true) (off_if _ (sym c.insert.ensures.new ∙ c.if-insert.true)))

pub loop-within-preserved-else-has : goal.loop-within-preserved-else-has
loop-within-preserved-else-has c =
    let here = turn c.args.tokens.now _ c.next.new.self (walk_from c.args.tokens.now c.over-within-items.ensures.all c.into_iter-within-iterator.ensures.into_iter_gives) c.loop-within.yielded c.loop-within.yielded_by c.next.result c.next.ensures.steps (c.in-Some.within, c.in-Some.token) c.in-Some.is in
    elim c.else-has.branch [
      | else-has-via-then-has+else-insert w ↦
          let on = on_if _ (sym w.insert.ensures.new ∙ w.if-insert.false) in
          more c.loop-within.yielded _ (ap (λ z. z.marks) w.set-is ∙ w.insert.ensures.marks ∙ set_marked c.loop-within.set.marks c.in-Some-callee_of.n on) refl
          (passes_marked _ _ _ _ _ c.loop-within.invariant c.in-Some-callee_of.n (sym here.1 ∙ (c.in-Some-callee_of.ensures c.in-Some-callee_of.n).1 refl) on)
      | else-has-via-else-has w ↦ more c.loop-within.yielded _ (ap (λ z. z.marks) w.set-is) refl
          (passes_unlit _ _ _ _ _ c.loop-within.invariant (ap (lit c.loop-within.set.marks) (sym here.0) ∙ sym c.has.ensures ∙ w.if-has.false))
    ]

pub returns : goal.returns
returns c = spread_all _ _ _ _ _ c.loop-within.invariant (ended c.args.tokens.now _ c.next.new.self (walk_from c.args.tokens.now c.over-within-items.ensures.all c.into_iter-within-iterator.ensures.into_iter_gives) c.loop-within.yielded c.loop-within.yielded_by c.next.result c.next.ensures.steps c.in-None.is)
