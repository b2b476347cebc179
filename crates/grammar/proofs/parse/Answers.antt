use Rattle.std.proofs.Common.{List, map, take, Err, sym, ap, ◌∙◌, subst}
use Rattle.std.proofs.lemmas.List.{length-map}
use Rattle.std.proofs.lemmas.Result.{err_from_is_err_and}
use Rattle.reading.specs.Items.{Item, item}
use Rattle.grammar.specs.Verdict.{Verdict, MemoryAfter}
use Rattle.grammar.proofs.Whole.{kept, filled, fault_verdict, whole_verdict, end_verdict}
use Rattle.grammar.proofs.parse.Goals as goal
use Rattle.grammar.proofs.parse.Goals.{In_ok-tokens}

pub returns-in_err-tokens-clause-memory : goal.returns-in_err-tokens-clause-memory
returns-in_err-tokens-clause-memory c =
    kept c.args.text.now c.read.new.memory c.args.memory.now c.in_err-tokens.field-0.0 c.in_err-tokens.ensures.verdict c.in_err-tokens.ensures.left

abbrev ts : In_ok-tokens → List Item
ts c = map item (take c.in_ok-tokens.tokens c.read.new.memory)

memory : (c : In_ok-tokens) → MemoryAfter c.args.text.now c.read.new.memory c.args.memory.now
memory c = filled c.args.text.now c.read.new.memory c.args.memory.now c.in_ok-tokens.tokens c.in_ok-tokens.ensures.verdict c.in_ok-tokens.ensures.left

pub returns-in_err-parser-clause-verdict : goal.returns-in_err-parser-clause-verdict
returns-in_err-parser-clause-verdict c =
    let d = (goal.at.returns-in_err-parser-clause-verdict c).In_ok-tokens in
    let text = c.args.text.now in
    let e = err_from_is_err_and c.from_residual-in_err-parser.result c.from_residual-in_err-parser.ensures.1 in
    subst (Verdict text) (sym (e.1 ∙ ap Err e.2))
    (fault_verdict text (ts d) c.in_ok-tokens.ensures.verdict c.in_err-parser.field-0.0 c.in_err-parser.ensures)

pub returns-in_err-parser-clause-memory : goal.returns-in_err-parser-clause-memory
returns-in_err-parser-clause-memory c = memory (goal.at.returns-in_err-parser-clause-memory c).In_ok-tokens

pub returns-in-Modules-clause-verdict : goal.returns-in-Modules-clause-verdict
returns-in-Modules-clause-verdict c =
    let d = (goal.at.returns-in-Modules-clause-verdict c).In_ok-tokens in
    let r = c.in_ok-tokens.ensures in
    whole_verdict c.args.text.now (ts d) r.verdict c.in_ok-parser.parser c.in_ok-parser.ensures c.in_ok-tokens.tokens c.modules.result
    (length-map (take c.in_ok-tokens.tokens c.read.new.memory) item ∙ sym r.left.0) c.modules.ensures c.in-Modules.ensures

pub returns-in-Modules-clause-memory : goal.returns-in-Modules-clause-memory
returns-in-Modules-clause-memory c = memory (goal.at.returns-in-Modules-clause-memory c).In_ok-tokens

pub returns-in_default-clause-verdict : goal.returns-in_default-clause-verdict
returns-in_default-clause-verdict c =
    let d = (goal.at.returns-in_default-clause-verdict c).In_ok-tokens in
    end_verdict c.args.text.now (ts d) c.in_ok-tokens.ensures.verdict c.in_ok-parser.parser c.in_ok-parser.ensures
    c.end_of.result c.end_of.ensures c.due.result c.due.ensures c.in_default.not-Modules

pub returns-in_default-clause-memory : goal.returns-in_default-clause-memory
returns-in_default-clause-memory c = memory (goal.at.returns-in_default-clause-memory c).In_ok-tokens
