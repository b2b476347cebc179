use Rattle.std.proofs.Common.{subst}
use Rattle.std.proofs.lemmas.Bool.Decides.{not_from_Decides}
use Rattle.grammar.specs.Verdict.{kinds_of}
use Rattle.rules.specs.Findings.{NoneAt, First, Found}
use Rattle.rules.specs.Labels.{Astray, Unlinked}
use Rattle.rules.proofs.Seen.{length_kinds}
use Rattle.rules.proofs.Places.{astray_first, linked, rootless, downward, calls_land}
use Rattle.rules.proofs.Unique.{one_finding}
use Rattle.rules.proofs.unlinked.Goals as goal
use Rattle.rules.proofs.unlinked.Goals.{else-has_label-via-then-has_label+else-has_label-2, else-has_label-via-else-has_label}

pub returns-in-Some : goal.returns-in-Some
returns-in-Some c = record {
  first = astray_first (kinds_of c.args.tokens.now) c.first_astray.result c.in-Some.i c.in-Some.is c.first_astray.ensures;
  one = one_finding (Unlinked (kinds_of c.args.tokens.now));
  land = calls_land;
  down = downward;
}

pub returns-then-has_label-2 : goal.returns-then-has_label-2
returns-then-has_label-2 c =
    let ks = kinds_of c.args.tokens.now in
    let none : NoneAt (Astray ks) = subst (Found (Astray ks)) c.in_default.is c.first_astray.ensures in
    record {
      first = linked ks (c.has_label.ensures.0 c.if-has_label.true) (c.has_label-then-has_label.ensures.0 c.if-has_label-2.true) none;
      one = one_finding (Unlinked ks);
      land = calls_land;
      down = downward;
    }

pub returns-else-has_label : goal.returns-else-has_label
returns-else-has_label c =
    let ks = kinds_of c.args.tokens.now in
    let none : NoneAt (Astray ks) = subst (Found (Astray ks)) c.in_default.is c.first_astray.ensures in
    record {
      first = subst (First (Unlinked ks)) (length_kinds c.args.tokens.now)
          (rootless ks
          (elim c.else-has_label.branch [
            | else-has_label-via-then-has_label+else-has_label-2 w ↦ λ p. not_from_Decides _ w.has_label-then-has_label.ensures w.if-has_label-2.false p.1
            | else-has_label-via-else-has_label w ↦ λ p. not_from_Decides _ c.has_label.ensures w.if-has_label.false p.0
          ])
          none);
      one = one_finding (Unlinked ks);
      land = calls_land;
      down = downward;
    }
