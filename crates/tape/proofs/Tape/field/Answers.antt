use Rattle.std.proofs.Common.{◌≡◌, ◌+◌, ◌-◌, ◌*◌, ◌/◌, ◌<◌, ◌≤◌, length, take, drop, ap, ◌∙◌, inl, inr, ⊎_elim, arith}
use Rattle.std.specs.Option.{option_flatten}
use Rattle.tape.specs.Fields.{field_of, entry_of}
use Rattle.tape.specs.Says.{line_at}
use Rattle.tape.specs.Writing.{entry_from}
use Rattle.tape.proofs.Calls.{outside, inside, handed}
use Rattle.tape.proofs.Tape.field.Goals as goal

pub returns-in_err-at : goal.returns-in_err-at
returns-in_err-at c =
    let t = c.args.self.now in
    let first = c.in_err-at.ensures in
    ap entry_from c.from_residual.ensures ∙ outside t.bytes.now t.line c.args.word (inl (omega arith))

pub returns-in_err-line : goal.returns-in_err-line
returns-in_err-line c =
    let t = c.args.self.now in
    let at = c.in_ok-at.ensures in
    let past : length t.bytes.now / 49 < t.line = ⊎_elim (λ h. omega arith) (λ h. omega arith) c.in_err-line.ensures.lookup.0 in
    ap entry_from c.from_residual-in_err-line.ensures ∙ outside t.bytes.now t.line c.args.word (inr past)

pub returns : goal.returns
returns c =
    let t = c.args.self.now in
    let bytes = t.bytes.now in
    let k = c.args.word in
    let at = c.in_ok-at.ensures in
    let columns = c.in_ok-line.ensures.lookup.0 in
    let line = c.in_ok-line.line.now in
    let six : 6 * k + 6 - 6 * k ≡ 6 = omega arith in
    let full : 49 * c.in_ok-at.field-0 + 49 - 49 * c.in_ok-at.field-0 ≡ 49 = omega arith in
    let here : line ≡ line_at bytes (t.line - 1) = columns.2 ∙ ap (λ n. take n (drop (49 * c.in_ok-at.field-0) bytes)) full ∙ ap (line_at bytes) at.1 in
    let inner : t.line ≤ length bytes / 49 = let within = columns.1 in omega arith in
    ap entry_from (c.flatten.ensures ∙ ap option_flatten c.ok.ensures.value)
    ∙ handed c.read_field.result _ c.read_field.ensures
    ∙ ap (λ n. entry_of (field_of (take n (drop (6 * k) line)))) six
    ∙ ap (λ ys. entry_of (field_of (take 6 (drop (6 * k) ys)))) here
    ∙ inside bytes t.line k (λ z. let some = at.0 in omega arith) inner c.requires
