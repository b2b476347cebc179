use Rattle.std.proofs.Common.{◌≡◌, ◌+◌, true, false, rules, refl}
use Rattle.std.specs.List.{slice_range}
use Rattle.std.proofs.lemmas.Iterator.{cases_from_all, YieldsList-from_slice}
use Rattle.program.specs.Sound.{ends}
use Rattle.program.proofs.Soundness.{unbroken_slice}
use Rattle.program.proofs.record.checks.is_unbroken.Goals as goal
use borrow.Author.Tests.{tests}

pub returns : goal.returns
returns c =
    let code = c.args.code.now in
    let n = c.args.from in
    let count = c.args.count in
    let xs = slice_range code n (n + count) in record {
      answer = unbroken_slice code xs n count c.all.result c.requires refl (cases_from_all _ _ _ (λ i. ends i ≡ false) (λ i. ends i ≡ true) c.all.ensures.ran (YieldsList-from_slice xs cc) (λ x q k. search (rules, tests)) (λ x q k. search (rules, tests)));
    }
