-- A walk over the tokens of a text, with the module that each stands in.
use Rattle.std.specs.Prelude.{ℕ, List, [], ◌∷◌, Option}
use Rattle.std.specs.Slice.Iter.{iter_rest}
use Rattle.tokens.specs.Tokens.{Kind, lexeme}
use Rattle.tokens.specs.declared.Token.{Token}
use Rattle.rules.specs.declared.modules.Walk.{Walk}
use Rattle.grammar.specs.Verdict.{kinds_of}
use Rattle.rules.specs.Levels.{after}

-- tokens in their order, each with the module that it stands in, where the first stands in h
abbrev pub standing : Option ℕ → List Kind → List (Option ℕ × Kind)
standing h [] = []
standing h (k ∷ ks) = (h, k) ∷ standing (after k h) ks

-- what is left of it
abbrev pub left : Walk → List (Option ℕ × Kind)
left s = standing s.within (kinds_of (iter_rest s.rest))

-- a step of it
abbrev pub seen : Option ℕ × Token → Option ℕ × Kind
seen s = (s.0, (lexeme s.1).kind)
