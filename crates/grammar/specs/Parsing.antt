-- The parser's state, read as the stack of what is due. Assumes nothing.
use Rattle.std.specs.Prelude.{◌≡◌, ℕ, zero, suc, ◌<◌, Bool, List, [], ◌∷◌, length, take, Some, None, Ok, Err, Option, Result, slice_index_or}
use Rattle.faults.specs.declared.Place.{Place}
use Rattle.tokens.specs.Tokens.{Kind}
use Rattle.reading.specs.Items.{Item, blank_item}
use Rattle.stack.specs.Entries.{without_newest, with_newest}
use Rattle.grammar.specs.declared.GrammarFault.{GrammarFault}
use Rattle.grammar.specs.declared.GrammarFault.TheVariants.{Reading, Unexpected, TooDeep}
use Rattle.grammar.specs.declared.table.Ending.{Ending}
use Rattle.grammar.specs.declared.table.Branch.{Branch}
use Rattle.grammar.specs.declared.table.Branch.TheVariants.{Then, Otherwise}
use Rattle.grammar.specs.declared.table.Block.TheVariants.{Body, Branch as Inside}
use Rattle.grammar.specs.declared.table.Pending.{Pending}
use Rattle.grammar.specs.declared.table.Pending.TheVariants.{First, Operand, Comparand}
use Rattle.grammar.specs.declared.table.Want.{Want}
use Rattle.grammar.specs.declared.table.Want.TheVariants.{Modules, Commands, Pending as Pending!, Rest}
use Rattle.grammar.specs.declared.table.Move.{Move}
use Rattle.grammar.specs.declared.table.Move.TheVariants.{Fill, Begin, Nest, Operate, Unnest, Enter, Test, Compare, Turn, Leave, Finish}
use Rattle.grammar.specs.Limits.{brackets_after, modules_after, open_brackets, open_conditions, begun_modules, room_for, Clear}
use Rattle.grammar.specs.Machine.{role_of, run, start}
use Rattle.grammar.specs.Verdict.{kinds, Stops, Exceeds}

-- what is open: the value that is pending, the brackets, the body of a module, how many modules have begun, and the
-- conditions, the innermost first
pub record State : Type 0 where
  pub pending : Option Pending
  pub brackets : ℕ
  pub body : Option Ending
  pub modules : ℕ
  pub conditions : List Branch

abbrev pub outer : Option Ending → List Want
outer None = Modules ∷ []
outer (Some e) = Commands (Body e) ∷ Modules ∷ []

abbrev pub branches : List Branch → List Want → List Want
branches [] s = s
branches (b ∷ bs) s = Commands (Inside b) ∷ branches bs s

abbrev pub rests : ℕ → List Want → List Want
rests zero s = s
rests (suc n) s = Rest ∷ rests n s

abbrev pub under : Option Pending → List Want → List Want
under None s = s
under (Some p) s = Pending! p ∷ s

-- what is pending, b open brackets, open conditions and a module's body, the innermost first
abbrev pub wants : Option Pending → ℕ → List Branch → Option Ending → List Want
wants p b bs e = under p (rests b (branches bs (outer e)))

abbrev pub wants_of : State → List Want
wants_of s = wants s.pending s.brackets s.conditions s.body

abbrev pub head_of : List Want → Want
head_of [] = Modules
head_of (w ∷ s) = w

abbrev pub tail_from : List Want → List Want
tail_from [] = []
tail_from (w ∷ s) = s

abbrev pub fresh : State
fresh = record { pending = None; brackets = 0; body = None; modules = 0; conditions = [] }

-- what a move does to the parts of the state
abbrev pub pending_after : Move → Option Pending → Option Pending
pending_after Fill p = None
pending_after Begin p = Some First
pending_after Nest p = Some First
pending_after Operate p = Some Operand
pending_after Compare p = Some Comparand
pending_after m p = p

abbrev pub body_after : Move → Option Ending → Option Ending
body_after (Enter e) o = Some e
body_after Finish o = None
body_after m o = o

abbrev pub branches_after : Move → List Branch → List Branch
branches_after Test bs = Then ∷ bs
branches_after Compare bs = Then ∷ bs
branches_after Turn bs = with_newest Otherwise bs
branches_after Leave bs = without_newest bs
branches_after m bs = bs

abbrev pub state_after : Move → State → State
state_after m s = record {
  pending = pending_after m s.pending;
  brackets = brackets_after (role_of m) s.brackets;
  body = body_after m s.body;
  modules = modules_after (role_of m) s.modules;
  conditions = branches_after m s.conditions;
}

-- whether a move passes no limit
abbrev pub has_room : Move → State → Bool
has_room m s = room_for (role_of m) s.brackets (length s.conditions) s.modules

-- what a move needs: a bracket is closed where one is open
abbrev pub Ready : Move → ℕ → Type 0
Ready Unnest b = 0 < b
Ready m b = Unit {0}

-- the first i tokens begin a text within the limits, and the state is what they lead to
pub record Sofar (ks : List Kind) (i : ℕ) (s : State) : Type 0 where
  pub ran : run start (take i ks) ≡ Some (wants_of s)
  pub brackets : s.brackets ≡ open_brackets (take i ks)
  pub conditions : length s.conditions ≡ open_conditions (take i ks)
  pub modules : s.modules ≡ begun_modules (take i ks)
  pub clear : Clear ks i

-- the token at index is at fault, and stands at p
pub record AtFault (F : List Kind → ℕ → Type 0) (ts : List Item) (p : Place) : Type 0 where
  pub index : ℕ
  pub inside : index < length ts
  pub fault : F (kinds ts) index
  pub place : p ≡ (slice_index_or ts index blank_item).place

-- what comes of the tokens of a text
abbrev pub Parsed : List Item → Result State GrammarFault → Type 0
Parsed ts (Ok s) = Sofar (kinds ts) (length ts) s
Parsed ts (Err (Reading e)) = ⊥
Parsed ts (Err (Unexpected p)) = AtFault Stops ts p
Parsed ts (Err (TooDeep p)) = AtFault Exceeds ts p
