use Rattle.std.proofs.Common.{◌≡◌, ℕ, length, get_or, option_map, Option, ap, ◌∙◌, rules, arith}
use Rattle.std.specs.Result.{result_ok}
use Rattle.tape.specs.Format.{number}
use Rattle.tape.specs.Writing.{entry_from}
use Rattle.tape.proofs.Columns.{says_dash, says_number}
use Rattle.tape.proofs.fields.read_field.Goals as goal

pub returns-in-45 : goal.returns-in-45
returns-in-45 c =
    let text = c.without_blanks.result.now in
    says_dash c.args.columns.now text c.without_blanks.ensures (omega arith) (search rules)

pub returns-in_default : goal.returns-in_default
returns-in_default c =
    let text = c.without_blanks.result.now in
    let other : length text ≡ 1 → get_or text 0 0 ≡ 45 → ⊥ = search rules in
    let read : option_map entry_from (result_ok c.ok_or.result) ≡ option_map number c.read_number.result = search rules in
    read ∙ ap (λ (o : Option ℕ). option_map number o) c.read_number.ensures ∙ says_number c.args.columns.now text c.without_blanks.ensures other
