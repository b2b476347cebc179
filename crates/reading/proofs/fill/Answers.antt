use Rattle.std.proofs.Common.{◌≡◌, ◌+◌, ◌<◌, ◌≤◌, map, length, take, Ok, sym, refl, ap, ◌∙◌, arith}
use Rattle.scanning.proofs.Turns.{left_of, turned}
use Rattle.reading.specs.Items.{item, shown, spot, token_at, before, judged_all}
use Rattle.reading.proofs.Rows.{judged_more, all_there, row_length, filled_with, stored, left_behind}
use Rattle.reading.proofs.fill.Goals as goal

pub loop-slot-preserved : goal.loop-slot-preserved
loop-slot-preserved c =
    let text = c.args.text.now in
    let old = c.loop-slot.scanner in
    let new = c.next_word.new.self in
    let n = c.loop-slot.slot-index in
    let row = c.loop-slot.memory in
    let word = c.in-Some.word in
    let x = c.in_ok-slot.field-0 in
    let rest = left_of text (n + 1) new.here in
    let same = ap (λ t. t.now) c.next_word.ensures.same in
    let came = c.in_ok-word.was ∙ ap Ok c.in-Some.is in
    let turn = turned text old.text.now new.text.now n old.here new.here c.next_word.result word came c.loop-slot.invariant.0 same c.next_word.ensures.goes c.next_word.ensures.is new.ok.0 c.loop-slot.invariant.1 in
    let room : n < length row = omega arith in
    let token : token_at (spot word) ≡ Ok (item x) = sym c.token_of.ensures ∙ ap shown c.in_ok-slot.was in (
      same ∙ c.loop-slot.invariant.0,
      omega (arith, turn.goes),
      stored n row x (judged_all rest) room
          ∙ ap (before (map item (take n row))) (sym (judged_more (spot word) (item x) rest token))
          ∙ ap (λ r. before (map item (take n row)) (judged_all r)) (sym turn.more)
          ∙ c.loop-slot.invariant.2,
      left_behind n row c.args.memory.now x c.loop-slot.invariant.3,
    )

pub returns : goal.returns
returns c ts whole fits =
    let n = c.loop-slot.slot-index in
    let row = c.loop-slot.memory in
    let room : n ≤ length row = omega arith in
    let long = row_length n row room in
    let all = all_there (map item (take n row)) (judged_all (left_of c.args.text.now n c.loop-slot.scanner.here)) ts (c.loop-slot.invariant.2 ∙ whole) (omega arith) in
    (refl, filled_with n row c.args.memory.now ts room all c.loop-slot.invariant.3)
