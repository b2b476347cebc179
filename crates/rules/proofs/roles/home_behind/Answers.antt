use Rattle.std.proofs.Common.{◌∙◌}
use Rattle.rules.proofs.Seen.{option_or-after}
use Rattle.rules.proofs.roles.home_behind.Goals as goal

pub returns : goal.returns
returns c = c.or.ensures ∙ option_or-after _ _ c.args.within c.label_of.ensures
