use Rattle.std.proofs.Common.{◌≡◌, ◌+◌, ◌-◌, ◌*◌, ◌<◌, length, ◌∙◌, arith}
use borrow.Rule.Slice.PartMut.{same_len_mid}
use Rattle.std.proofs.lemmas.List.{length-take, length-drop}
use Rattle.std.proofs.lemmas.Slice.{drop-put_mid}
use Rattle.tape.proofs.Written.{line_more, line_done}
use Rattle.tape.proofs.writing.write_line.Goals as goal

pub loop-k-preserved : goal.loop-k-preserved
loop-k-preserved c =
    let line = c.loop-k.line in
    let field = c.copy_from_slice.new.self in
    let k = c.loop-k.k in
    let j = 6 * k + 6 - 6 * k in
    let six : length field ≡ 6 = c.copy_from_slice.ensures.len ∙ simp (length-take, length-drop) (omega arith) in
    let inside : k < length c.args.entries.now = omega arith in (
      same_len_mid (6 * k) j line field c.copy_from_slice.ensures.len ∙ c.loop-k.invariant.0,
      line_more line field j k c.args.entries.now _ inside (omega arith) six (c.copy_from_slice.ensures.after ∙ c.write_field.ensures) c.loop-k.invariant.1,
      drop-put_mid (6 * k) j line field 48 (omega arith) (omega arith) (omega arith) ∙ c.loop-k.invariant.2,
    )

pub returns : goal.returns
returns c =
    let done : c.loop-k.k ≡ 8 = omega arith in
    line_done c.loop-k.line c.loop-k.k c.args.entries.now done c.told-entries c.loop-k.invariant.1 c.loop-k.invariant.2
