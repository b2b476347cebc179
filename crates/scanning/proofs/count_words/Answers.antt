use Rattle.std.proofs.Common.{◌≡◌, Ok, ap, ◌∙◌, rules}
use Rattle.scanning.specs.Scan.{scan_of, counted}
use Rattle.scanning.proofs.Whole.{counting_more}
use Rattle.scanning.proofs.Verdicts.{verdict_of, one_verdict}
use Rattle.scanning.proofs.count_words.Goals as goal

pub loop-word-preserved : goal.loop-word-preserved
loop-word-preserved c =
    let new = c.next_word.new.self in
    let came = c.in_ok-_word.was ∙ ap Ok c.in-Some.is in
    let call = c.next_word.ensures in
    counting_more c.args.text.now c.loop-word.scanner.text.now new.text.now c.loop-word.n c.loop-word.scanner.here new.here c.next_word.result c.in-Some._word c.loop-word.invariant (ap (λ t. t.now) call.same) came call.is call.goes new.ok.0

pub returns-in_err-_word : goal.returns-in_err-_word
returns-in_err-_word c =
    let text = c.args.text.now in
    let e : c.from_residual.result ≡ counted (scan_of text) = search rules in
    record { is = e; verdict = (scan_of text, e, verdict_of text); one = one_verdict text }

pub returns : goal.returns
returns c =
    let text = c.args.text.now in
    let e : Ok c.loop-word.n ≡ counted (scan_of text) = search rules in
    record { is = e; verdict = (scan_of text, e, verdict_of text); one = one_verdict text }
