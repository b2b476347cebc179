use Rattle.std.proofs.Common.{◌≡◌, ◌∙◌, rules, arith}
use Rattle.tape.specs.Says.{unless_bad}
use Rattle.tape.proofs.Tapes.{check_long, check_short}
use Rattle.tape.proofs.check.Goals as goal

pub returns-then-bytes-gt-LONGEST : goal.returns-then-bytes-gt-LONGEST
returns-then-bytes-gt-LONGEST c =
    check_long c.args.bytes.now (search rules)

pub returns : goal.returns
returns c =
    let e : c.map_or.result ≡ unless_bad c.first_bad_line.result = search rules in
    e ∙ check_short c.args.bytes.now c.first_bad_line.result (omega arith) c.if-bytes-ne0.false c.first_bad_line.ensures
