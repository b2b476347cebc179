use Rattle.std.proofs.Common.{map}
use Rattle.reading.specs.Items.{item}
use Rattle.grammar.specs.Parsing.{Sofar}
use Rattle.grammar.specs.Verdict.{kinds}
use Rattle.grammar.proofs.parse_tokens.Given as goal

abbrev pub invariant-loop-token : goal.invariant-loop-token
invariant-loop-token l = Sofar (kinds (map item l.tokens)) l.token-index l.parser
