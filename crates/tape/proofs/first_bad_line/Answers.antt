use Rattle.std.proofs.Common.{◌+◌, not, option_map, sym, ap, ◌∙◌, rules, lit<}
use borrow.Author.Tests.{tests}
use Rattle.std.proofs.lemmas.Iterator.Search.{position_from_yields_List}
use Rattle.tape.specs.Fields.{line_holds}
use Rattle.tape.proofs.Pieces.{YieldsList-from_chunks_exact}
use Rattle.tape.proofs.Tapes.{first_bad_at}
use Rattle.tape.proofs.first_bad_line.Goals as goal

pub returns-in_err-index : goal.returns-in_err-index
returns-in_err-index c =
    let bytes = c.args.bytes.now in
    let lines = YieldsList-from_chunks_exact 49 bytes (lit< tt) c.chunks_exact.ensures.rest c.chunks_exact.ensures.size in
    let at = first_bad_at bytes c.position.result (position_from_yields_List (λ l. not (line_holds l)) _ _ c.position.result c.position.ensures.ran lines (λ x b q k. search (rules, tests))) in
    c.from_residual.ensures ∙ ap (option_map (λ j. j + 1)) (sym (c.in_err-index.was)) ∙ at

pub returns : goal.returns
returns c =
    let bytes = c.args.bytes.now in
    let lines = YieldsList-from_chunks_exact 49 bytes (lit< tt) c.chunks_exact.ensures.rest c.chunks_exact.ensures.size in
    let at = first_bad_at bytes c.position.result (position_from_yields_List (λ l. not (line_holds l)) _ _ c.position.result c.position.ensures.ran lines (λ x b q k. search (rules, tests))) in
    ap (option_map (λ j. j + 1)) (sym (c.in_ok-index.was)) ∙ at
