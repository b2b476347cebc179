use Rattle.std.proofs.Common.{◌≡◌, Ok, sym, ap, ◌∙◌, subst, arith}
use Rattle.scanning.specs.Scan.{scan_of}
use Rattle.scanning.proofs.Turns.{left_of, turned}
use Rattle.reading.specs.Items.{spot}
use Rattle.reading.specs.Tally.{fresh, noted, tallied}
use Rattle.reading.proofs.Tallies.{tallied_more}
use Rattle.reading.proofs.judge.Goals as goal

pub loop-word-preserved : goal.loop-word-preserved
loop-word-preserved c =
    let text = c.args.text.now in
    let old = c.loop-word.scanner in
    let new = c.next_word.new.self in
    let tally = c.loop-word.tally in
    let w = c.in-Some.word in
    let came = c.in_ok-word.was ∙ ap Ok c.in-Some.is in
    let same = ap (λ t. t.now) c.next_word.ensures.same in
    let turn = turned text old.text.now new.text.now tally.count old.here new.here c.next_word.result w came c.loop-word.invariant.0 same c.next_word.ensures.goes c.next_word.ensures.is new.ok.0 c.loop-word.invariant.1 in
    let one = c.note.ensures in (
      same ∙ c.loop-word.invariant.0,
      omega (arith, turn.goes, ap (λ t. t.count) one),
      subst (λ t. tallied t (left_of text t.count new.here) ≡ tallied fresh (scan_of text)) (sym one)
          (sym (tallied_more tally (spot w) (left_of text (noted tally (spot w)).count new.here)) ∙ ap (tallied tally) (sym turn.more) ∙ c.loop-word.invariant.2),
    )
