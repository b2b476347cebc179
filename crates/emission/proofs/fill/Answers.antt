use Rattle.std.proofs.Common.{◌+◌, ap, ◌∙◌, subst, arith}
use Rattle.grammar.specs.Verdict.{kinds_of}
use Rattle.emission.specs.Emission.{made}
use Rattle.emission.proofs.Turns.{kinds_behind, kinds_here}
use Rattle.emission.proofs.Fills.{Filled, filled_as, filled_some, filled_none}
use Rattle.emission.proofs.fill.Goals as goal
use Rattle.emission.proofs.fill.Goals.{in-Some, in_default}

pub loop-i-preserved : goal.loop-i-preserved
loop-i-preserved c =
    let ks = kinds_of c.args.tokens.now in
    let h = subst (λ r. Filled ks r c.args.code.now c.loop-i.code c.loop-i.pending c.loop-i.n) (kinds_here c.args.tokens.now c.loop-i.i _ c.loop-i-test.true) c.loop-i.invariant in
    let behind = kinds_behind c.args.tokens.now (c.loop-i.i + 1) in
    elim c.match-instruction.branch [
      | in-Some w ↦ filled_as _ _ _ _ _ _ _ _ w.code-is w.n-is (filled_some _ _ _ _ _ _ _ h _ (w.in-Some.ensures ∙ ap (made c.loop-i.pending c.loop-i.n _) behind) (omega (arith, h.sum, c.requires.room)) _ c.asks_for-pending.ensures)
      | in_default w ↦ filled_as _ _ _ _ _ _ _ _ w.code-is w.n-is (filled_none _ _ _ _ _ _ _ h (w.in_default.ensures ∙ ap (made c.loop-i.pending c.loop-i.n _) behind) _ c.asks_for-pending.ensures)
    ]
