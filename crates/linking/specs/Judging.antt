-- What the parts of compiling answer. Assumes nothing.
use Rattle.std.specs.Prelude.{◌≡◌, ℕ, List, length, Ok, Err, Result}
use Rattle.faults.specs.declared.Place.{Place}
use Rattle.tokens.specs.Tokens.{Kind}
use Rattle.reading.specs.Items.{Item}
use Rattle.grammar.specs.Grammar.{Module}
use Rattle.grammar.specs.Verdict.{kinds, place_at}
use Rattle.program.specs.declared.record.Program.{Program}
use Rattle.program.specs.Sound.{padded}
use Rattle.emission.specs.Emission.{emitted, place_in}
use Rattle.meaning.specs.Figure.{figure}
use Rattle.rules.specs.Findings.{First}
use Rattle.rules.specs.Labels.{IsLabel}
use Rattle.weights.specs.declared.weight.Weight.{Weight}
use Rattle.weights.specs.Claims.{WeightOf}
use Rattle.linking.specs.declared.LinkFault.{LinkFault}
use Rattle.linking.specs.declared.LinkFault.TheVariants.{Overweight as TooGreat}
use Rattle.linking.specs.declared.figures.Figures.{Figures}
use Rattle.linking.specs.Faults.{fault_of}
use Rattle.linking.specs.Order.{NoneBroken, FirstBroken}
use Rattle.linking.specs.declared.compiled.Compiled.{Compiled}
use Rattle.linking.specs.Rules.{Heavy, Overweight, token_rules}
use Rattle.linking.specs.Verdict.{Written, Accepted, Verdict}
use Rattle.linking.specs.Records.{RecordOf}

-- rule n is the first that is broken, and the fault names it and its first place
pub record FaultAt (rules : List (ℕ → Type 0)) (text : List ℕ) (ts : List Item) (e : LinkFault) : Type 0 where
  pub rule : ℕ
  pub index : ℕ
  pub broken : FirstBroken rules rule index
  pub fault : e ≡ fault_of rule (place_at text ts index)

-- causes 9 to 12
abbrev pub Ruled : List ℕ → List Item → Result (Unit {0}) LinkFault → Type 0
Ruled text ts (Ok u) = NoneBroken (token_rules (kinds ts))
Ruled text ts (Err e) = FaultAt (token_rules (kinds ts)) text ts e

-- p is the first place where label n stands
pub record LabelPlace (text : List ℕ) (ts : List Item) (n : ℕ) (p : Place) : Type 0 where
  pub index : ℕ
  pub first : First (IsLabel (kinds ts) n) index
  pub place : p ≡ place_at text ts index

-- cause 13, for modules
pub record Light (ms : List Module) (f : Figures) : Type 0 where
  pub quick_light : Heavy ms 1 → ⊥
  pub slow_light : Heavy ms 0 → ⊥
  pub quick : f.quick ≡ figure ms 1
  pub slow : f.slow ≡ figure ms 0

pub record FaultIn (R : ℕ → Type 0) (text : List ℕ) (ts : List Item) (e : LinkFault) : Type 0 where
  pub index : ℕ
  pub broken : First R index
  pub fault : e ≡ fault_of 4 (place_at text ts index)

-- the figure of level n by the weight of its module, which is not too great, or cause 13 at its label
abbrev pub LevelWeighed : List ℕ → List Item → ℕ → Weight → Result ℕ LinkFault → Type 0
LevelWeighed text ts n w (Ok f) = ((ms : List Module) (l : ℕ) → WeightOf ms l w → Heavy ms l → ⊥) × f ≡ w.figure
LevelWeighed text ts n w (Err e) = ((ms : List Module) (l : ℕ) → WeightOf ms l w → Heavy ms l) × ((p : Place) × LabelPlace text ts n p × e ≡ TooGreat p)

abbrev pub Weighed : List ℕ → List Item → List Module → Result Figures LinkFault → Type 0
Weighed text ts ms (Ok f) = Light ms f
Weighed text ts ms (Err e) = FaultIn (Overweight (kinds ts) ms) text ts e

-- the program has the instructions of the tokens, and the places of :001 and :000
pub record Assembled (ks : List Kind) (p : Program) : Type 0 where
  pub instructions : p.code ≡ padded (emitted ks)
  pub len : p.len ≡ length (emitted ks)
  pub quick : p.quick ≡ place_in 1 0 ks
  pub slow : p.slow ≡ place_in 0 0 ks

-- the tokens are those of the text, and spell some modules
abbrev pub ListText : List ℕ → List Item → Type 0
ListText text ts = (ms : List Module) × Written text ts ms

-- some modules of the text have this record
pub record LinkedAs (text : List ℕ) (p : Program) (f : Figures) : Type 0 where
  pub modules : List Module
  pub accepted : Accepted text modules f
  pub recorded : RecordOf modules p f

abbrev pub Links : List ℕ → Result Compiled LinkFault → Type 0
Links text (Ok c) = LinkedAs text c.program c.figures
Links text (Err e) = Verdict text (Err e)
