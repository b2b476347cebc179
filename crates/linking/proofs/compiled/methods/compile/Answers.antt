use Rattle.std.proofs.Common.{List, Err, Result, sym, ap, ◌∙◌, subst}
use Rattle.std.proofs.lemmas.Result.{err_from_is_err_and}
use Rattle.grammar.specs.Grammar.{Module}
use Rattle.linking.specs.declared.LinkFault.{LinkFault}
use Rattle.linking.specs.declared.figures.Figures.{Figures}
use Rattle.linking.specs.Verdict.{Verdict}
use Rattle.linking.specs.Records.{RecordOf}
use Rattle.linking.specs.Passes.{RecordAfter}
use Rattle.linking.proofs.Passing.{runs_as_written}
use Rattle.linking.proofs.Verdicts.{one_verdict, one_list}
use Rattle.linking.proofs.compiled.methods.compile.Goals as goal

pub returns-in_err-into : goal.returns-in_err-into
returns-in_err-into c =
    let text = c.args.text.now in
    let e = err_from_is_err_and c.from_residual.result c.from_residual.ensures.1 in
    let is = sym (e.1 ∙ ap Err e.2) in
    record {
      verdict = subst (Verdict text) is c.in_err-into.ensures;
      one = one_verdict text;
      recorded = subst (λ (r : Result Figures LinkFault). RecordAfter text r c.empty.result) is c.empty.ensures.recorded;
      passes = runs_as_written;
    }

pub returns : goal.returns
returns c =
    let text = c.args.text.now in
    let l = c.in_ok-into.ensures in
    record {
      verdict = (l.modules, l.accepted);
      one = one_verdict text;
      recorded = λ ms a. subst (λ (ns : List Module). RecordOf ns c.in_ok-into.field-0.program c.in_ok-into.field-0.figures) (one_list text l.modules ms _ _ l.accepted a) l.recorded;
      passes = runs_as_written;
    }
