use Rattle.std.proofs.Common.{ap}
use Rattle.linking.specs.declared.LinkFault.TheVariants.{Repeated, Unlinked, Misplaced, Clashing}
use Rattle.linking.proofs.parsed.ParsedText.check_rules.Goals as goal

pub returns-in-Some : goal.returns-in-Some
returns-in-Some c = record { rule = 0; index = c.in-Some.i; broken = c.in-Some.ensures.first; fault = ap Repeated c.place_of.ensures }

pub returns-in-Some-unlinked : goal.returns-in-Some-unlinked
returns-in-Some-unlinked c = record {
  rule = 1;
  index = c.in-Some-unlinked.i;
  broken = (c.in_default.ensures.first, c.in-Some-unlinked.ensures.first);
  fault = ap Unlinked c.place_of-in-Some-unlinked.ensures;
}

pub returns-in-Some-misplaced : goal.returns-in-Some-misplaced
returns-in-Some-misplaced c = record {
  rule = 2;
  index = c.in-Some-misplaced.i;
  broken = (c.in_default.ensures.first, (c.in_default-unlinked.ensures.first, c.in-Some-misplaced.ensures.first));
  fault = ap Misplaced c.place_of-in-Some-misplaced.ensures;
}

pub returns-in-Some-clashing : goal.returns-in-Some-clashing
returns-in-Some-clashing c = record {
  rule = 3;
  index = c.in-Some-clashing.i;
  broken = (c.in_default.ensures.first, (c.in_default-unlinked.ensures.first, (c.in_default-misplaced.ensures.first, c.in-Some-clashing.ensures.first)));
  fault = ap Clashing c.place_of-in-Some-clashing.ensures;
}
