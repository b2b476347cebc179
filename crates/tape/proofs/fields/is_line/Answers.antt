use Rattle.std.proofs.Common.{◌&&◌, eqb, get_or, sym, ap, ◌∙◌, rules, lit<}
use borrow.Author.Tests.{tests}
use Rattle.std.proofs.lemmas.Iterator.Search.{all_from_yields_List}
use Rattle.tape.specs.Fields.{field_of, stands}
use Rattle.tape.proofs.Lines.{holds_by_fields}
use Rattle.tape.proofs.Pieces.{YieldsList-from_chunks_exact}
use Rattle.tape.proofs.fields.is_line.Goals as goal

pub returns-then-all : goal.returns-then-all
returns-then-all c =
    let line = c.args.line.now in
    let fields = YieldsList-from_chunks_exact 6 line (lit< tt) c.chunks_exact.ensures.rest c.chunks_exact.ensures.size in
    let all = all_from_yields_List (λ f. stands (field_of f)) _ _ c.all.result c.all.ensures.ran fields (λ x b q k. search (rules, tests)) in
    sym (ap (λ b. b && eqb (get_or line 48 0) 10) c.if-all.true) ∙ holds_by_fields line c.all.result c.requires all

pub returns-else-all : goal.returns-else-all
returns-else-all c =
    let line = c.args.line.now in
    let fields = YieldsList-from_chunks_exact 6 line (lit< tt) c.chunks_exact.ensures.rest c.chunks_exact.ensures.size in
    let all = all_from_yields_List (λ f. stands (field_of f)) _ _ c.all.result c.all.ensures.ran fields (λ x b q k. search (rules, tests)) in
    c.if-all.false ∙ sym (ap (λ b. b && eqb (get_or line 48 0) 10) c.if-all.false) ∙ holds_by_fields line c.all.result c.requires all
