use Rattle.std.proofs.Common.{◌≡◌, length, true, false, rules, refl, arith}
use Rattle.std.proofs.lemmas.Iterator.{cases_from_all, YieldsList-from_range}
use Rattle.program.specs.Sound.{fine}
use Rattle.program.proofs.Soundness.{all_fine_places}
use Rattle.program.proofs.record.checks.are_all_fine.Goals as goal
use borrow.Author.Tests.{tests}

pub returns : goal.returns
returns c =
    let code = c.args.code.now in
    let len = length code in record {
      answer = all_fine_places code len c.all.result (cases_from_all _ _ _ (λ n. fine code len n ≡ true) (λ n. fine code len n ≡ false) c.all.ensures.ran (YieldsList-from_range 0 len len refl (omega arith)) (λ x q k. search (rules, tests)) (λ x q k. search (rules, tests)));
    }
