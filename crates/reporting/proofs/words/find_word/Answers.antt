use Rattle.std.proofs.Common.{◌≡◌, ◌∙◌, Some, None, Ok, ap}
use Rattle.reporting.specs.Search.{here, later}
use Rattle.reporting.proofs.Search.{told_of, came_next, none_left, none_read}
use Rattle.reporting.proofs.words.find_word.Goals as goal

pub returns-then-holds-clause-first : goal.returns-then-holds-clause-first
returns-then-holds-clause-first g c =
    let text = c.args.text.now in
    let old = c.loop-word.scanner in
    let new = c.next_word.new.self in
    let r = c.next_word.result in
    let word = c.in-Ok-Some.word in
    let told = told_of text old.text.now new.text.now old.here new.here r c.loop-word.invariant.1 (ap (λ t. t.now) c.next_word.ensures.same) c.next_word.ensures.is in
    let next = came_next text old.text.now new.text.now old.here new.here r word (c.in-Ok-Some.is ∙ ap Ok c.in-Ok-Some.field-0-is) told in
    c.loop-word.invariant.2 (Some word) (here word new.here next c.if-holds.ensures)

pub loop-word-preserved : goal.loop-word-preserved
loop-word-preserved g c =
    let text = c.args.text.now in
    let old = c.loop-word.scanner in
    let new = c.next_word.new.self in
    let r = c.next_word.result in
    let word = c.in-Ok-Some.word in
    let same = ap (λ t. t.now) c.next_word.ensures.same in
    let told = told_of text old.text.now new.text.now old.here new.here r c.loop-word.invariant.1 same c.next_word.ensures.is in
    let next = came_next text old.text.now new.text.now old.here new.here r word (c.in-Ok-Some.is ∙ ap Ok c.in-Ok-Some.field-0-is) told in (
      c.loop-word.invariant.0,
      same ∙ c.loop-word.invariant.1,
      λ first h. c.loop-word.invariant.2 first (later word new.here next c.if-holds.ensures h),
    )

pub returns-clause-first : goal.returns-clause-first
returns-clause-first g c =
    let text = c.args.text.now in
    let old = c.loop-word.scanner in
    let new = c.next_word.new.self in
    let r = c.next_word.result in
    let told = told_of text old.text.now new.text.now old.here new.here r c.loop-word.invariant.1 (ap (λ t. t.now) c.next_word.ensures.same) c.next_word.ensures.is in
    elim c.match-next_word.branch [
      | goal.in_default w ↦ let e : r ≡ Ok None = cc in c.loop-word.invariant.2 None (none_left text old.here new.here r e told)
      | goal.in_default-2 w ↦ c.loop-word.invariant.2 None (none_read text old.here new.here r w.in_default.field-0 w.in_default.is told)
    ]
