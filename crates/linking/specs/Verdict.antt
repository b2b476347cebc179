-- Which answer the rules give for a text, from its bytes. Nothing here says how a text is compiled. Assumes nothing.
use Rattle.std.specs.Prelude.{◌≡◌, ℕ, List, Ok, Err, Result}
use Rattle.faults.specs.declared.Place.{Place}
use Rattle.reading.specs.Items.{Item}
use Rattle.reading.specs.Verdict.{Verdict as Read}
use Rattle.grammar.specs.Grammar.{Module, spell}
use Rattle.grammar.specs.Limits.{WithinLimits}
use Rattle.grammar.specs.Verdict.{kinds, place_at, Verdict as Parsed}
use Rattle.meaning.specs.Figure.{figure}
use Rattle.linking.specs.declared.LinkFault.{LinkFault}
use Rattle.linking.specs.declared.LinkFault.TheVariants.{Grammar, Repeated, Unlinked, Misplaced, Clashing, Overweight}
use Rattle.linking.specs.declared.figures.Figures.{Figures}
use Rattle.linking.specs.Order.{NoneBroken, FirstBroken}
use Rattle.linking.specs.Rules.{rules}

-- the text has these tokens, and they are what the modules are written as, within the limits
pub record Written (text : List ℕ) (tokens : List Item) (ms : List Module) : Type 0 where
  pub read : Read text (Ok tokens)
  pub spelled : spell ms ≡ kinds tokens
  pub within : WithinLimits (kinds tokens)

-- the text is a list of these modules that breaks no rule, and these are its figures
pub record Accepted (text : List ℕ) (ms : List Module) (f : Figures) : Type 0 where
  pub tokens : List Item
  pub written : Written text tokens ms
  pub lawful : NoneBroken (rules (kinds tokens) ms)
  pub quick : f.quick ≡ figure ms 1
  pub slow : f.slow ≡ figure ms 0

-- the text is a list, rule n is the first that it breaks, and p is the first place where it does
pub record Broken (n : ℕ) (text : List ℕ) (p : Place) : Type 0 where
  pub tokens : List Item
  pub modules : List Module
  pub index : ℕ
  pub written : Written text tokens modules
  pub broken : FirstBroken (rules (kinds tokens) modules) n index
  pub place : p ≡ place_at text tokens index

abbrev pub Verdict : List ℕ → Result Figures LinkFault → Type 0
Verdict text (Ok f) = (ms : List Module) × Accepted text ms f
Verdict text (Err (Grammar e)) = Parsed text (Err e)
Verdict text (Err (Repeated p)) = Broken 0 text p
Verdict text (Err (Unlinked p)) = Broken 1 text p
Verdict text (Err (Misplaced p)) = Broken 2 text p
Verdict text (Err (Clashing p)) = Broken 3 text p
Verdict text (Err (Overweight p)) = Broken 4 text p

-- and it is the only one
abbrev pub OneVerdict : List ℕ → Type 0
OneVerdict text = (a b : Result Figures LinkFault) → Verdict text a → Verdict text b → a ≡ b
