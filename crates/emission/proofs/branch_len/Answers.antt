use Rattle.std.proofs.Common.{ℕ, ◌+◌, Some, sym, refl, ap, ◌∙◌, subst}
use Rattle.emission.proofs.Turns.{kind_at, Gone, gone_flat, gone_opening, gone_otherwise, gone_closing, ends_otherwise, ends_closing}
use Rattle.emission.proofs.branch_len.Goals as goal
use Rattle.emission.proofs.branch_len.Goals.{in-None, in-Some-Opening, in-Some-Otherwise+else-depth-eq0, in-Some-Closing-2}

pub returns-in-Some-Otherwise-clause-length : goal.returns-in-Some-Otherwise-clause-length
returns-in-Some-Otherwise-clause-length c =
    ends_otherwise _ _ _ _ c.loop-placed.invariant c.loop-placed-test.true _ (sym (kind_at c.args.tokens.now c.loop-placed.placed-index _ c.loop-placed-test.true)) _ c.weight_of.ensures (ap Some (sym c.in-Some-Otherwise.field-0-is) ∙ c.in-Some-Otherwise.ensures) c.if-depth-eq0.true

pub returns-in-Some-Closing-clause-length : goal.returns-in-Some-Closing-clause-length
returns-in-Some-Closing-clause-length c =
    ends_closing _ _ _ _ c.loop-placed.invariant c.loop-placed-test.true _ (sym (kind_at c.args.tokens.now c.loop-placed.placed-index _ c.loop-placed-test.true)) _ refl (ap Some (sym c.in-Some-Closing.field-0-is) ∙ c.in-Some-Closing.ensures) c.if-depth-eq0-2.true

pub loop-placed-preserved : goal.loop-placed-preserved
loop-placed-preserved c =
    let P : ℕ → Type 0 = λ d. Gone c.args.tokens.now (c.loop-placed.placed-index + 1) d (c.loop-placed.n + c.weight_of-n.result) in
    let e = sym (kind_at c.args.tokens.now c.loop-placed.placed-index _ c.loop-placed-test.true) in
    elim c.match-turn_of.branch [
      | in-None w ↦ subst P (sym w.depth-is) (gone_flat _ _ _ _ c.loop-placed.invariant c.loop-placed-test.true _ e _ c.weight_of-n.ensures w.in-None.ensures)
      | in-Some-Opening w ↦ subst P (sym w.depth-is) (gone_opening _ _ _ _ c.loop-placed.invariant c.loop-placed-test.true _ e _ c.weight_of-n.ensures (ap Some (sym w.in-Some-Opening.field-0-is) ∙ w.in-Some-Opening.ensures))
      | in-Some-Otherwise+else-depth-eq0 w ↦ subst P (sym w.depth-is) (gone_otherwise _ _ _ _ c.loop-placed.invariant c.loop-placed-test.true _ e _ c.weight_of-n.ensures (ap Some (sym w.in-Some-Otherwise.field-0-is) ∙ w.in-Some-Otherwise.ensures) w.if-depth-eq0.false)
      | in-Some-Closing-2 w ↦ subst P (sym w.depth-is) (gone_closing _ _ _ _ c.loop-placed.invariant c.loop-placed-test.true _ e _ c.weight_of-n.ensures (ap Some (sym w.in-Some-Closing.field-0-is) ∙ w.in-Some-Closing.ensures) w.if-depth-eq0-2.false)
    ]
