use Rattle.std.proofs.Common.{sym, subst}
use Rattle.tokens.specs.Listed.{Verdict}
use Rattle.tokens.proofs.Verdicts.{verdict_of, one_verdict}
use Rattle.tokens.proofs.words.classify.Goals as goal

pub returns : goal.returns
returns c = record {
  is = c.look_up.ensures;
  verdict = subst (Verdict c.args.part.now) (sym c.look_up.ensures) (verdict_of c.args.part.now);
  one = one_verdict c.args.part.now;
}
