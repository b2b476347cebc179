use Rattle.tape.proofs.Plays.{plays}
use Rattle.tape.proofs.Tapes.{one_verdict, accepted}
use Rattle.tape.proofs.Tape.new.Goals as goal

pub returns-in_err-check-clause-verdict : goal.returns-in_err-check-clause-verdict
returns-in_err-check-clause-verdict c = one_verdict c.args.bytes.now

pub returns-in_err-check-clause-plays : goal.returns-in_err-check-clause-plays
returns-in_err-check-clause-plays c = plays c.args.bytes.now

pub invariant_of-result-clause-whole : goal.invariant_of-result-clause-whole
invariant_of-result-clause-whole c = ∣ accepted c.args.bytes.now c.in_ok-check.ensures ∣₁

pub returns-clause-verdict : goal.returns-clause-verdict
returns-clause-verdict c = one_verdict c.args.bytes.now

pub returns-clause-plays : goal.returns-clause-plays
returns-clause-plays c = plays c.args.bytes.now
