-- The table machine: a stack of what is due, the next first, and what each token does to it. Assumes nothing.
use Rattle.std.specs.Prelude.{◌≡◌, ℕ, cond, List, [], ◌∷◌, Some, None, Option, ◌==◌}
use Rattle.tokens.specs.Tokens.{Kind, bracket_opens, bracket_closes, number, load_number, load_bit, load_word, store_bit, store_word, switch, test, operator, comparison, otherwise, end_of_condition, end_of_level, return, label, call}
use Rattle.grammar.specs.declared.table.Ending.{Ending}
use Rattle.grammar.specs.declared.table.Ending.TheVariants.{Return, Level0, Level1}
use Rattle.grammar.specs.declared.table.Class.{Class}
use Rattle.grammar.specs.declared.table.Class.TheVariants.{Label, End, LoadNumber, LoadBit, LoadWord, Number, Operator, Open, Close, Action, BitTest, Comparison, Else, EndIf}
use Rattle.grammar.specs.declared.table.Branch.{Branch}
use Rattle.grammar.specs.declared.table.Branch.TheVariants.{Then, Otherwise}
use Rattle.grammar.specs.declared.table.Block.{Block}
use Rattle.grammar.specs.declared.table.Block.TheVariants.{Body, Branch as Inside}
use Rattle.grammar.specs.declared.table.Want.{Want}
use Rattle.grammar.specs.declared.table.Pending.{Pending}
use Rattle.grammar.specs.declared.table.Pending.TheVariants.{First, Operand as Operand!, Comparand as Comparand! }
use Rattle.grammar.specs.declared.table.Want.TheVariants.{Modules, Commands, Pending as Pending!, Rest}
use Rattle.grammar.specs.declared.table.Move.{Move}
use Rattle.grammar.specs.declared.table.Move.TheVariants.{Keep, Fill, Begin, Nest, Operate, Unnest, Enter, Test as Test!, Compare, Turn, Leave, Finish}
use Rattle.grammar.specs.Grammar.{Load, Ops, Operand, Comparand, Cmds, Alternative, Module, spell_load, spell_ops, spell_operand, spell_comparand, spell_cmds, spell_alternative, spell_modules}
use Rattle.grammar.specs.Limits.{Role, plain, opens_bracket, closes_bracket, opens_condition, closes_condition, opens_module, role}

-- how a module with this label ends
abbrev pub ending : ℕ → Ending
ending n = cond (n == 1) Level1 (cond (n == 0) Level0 Return)

-- a token by its part in the grammar, if it has one
abbrev pub class_of : Kind → Option Class
class_of bracket_opens = Some Open
class_of bracket_closes = Some Close
class_of (number v) = Some Number
class_of (load_number v) = Some LoadNumber
class_of (load_bit c n) = Some LoadBit
class_of (load_word c n) = Some LoadWord
class_of (store_bit c n) = Some Action
class_of (store_word c n) = Some Action
class_of (switch c on) = Some Action
class_of (test c n) = Some BitTest
class_of (operator o) = Some Operator
class_of (comparison o) = Some Comparison
class_of otherwise = Some Else
class_of end_of_condition = Some EndIf
class_of (end_of_level v) = cond (v == 1) (Some (End Level1)) (cond (v == 0) (Some (End Level0)) None)
class_of return = Some (End Return)
class_of (label n) = Some (Label (ending n))
class_of (call n) = Some Action

-- what ends a run of commands
abbrev pub Tail : Block → Type 0
Tail (Body e) = Unit {0}
Tail (Inside Then) = Alternative
Tail (Inside Otherwise) = Unit {0}

abbrev pub ender : Ending → Kind
ender Return = return
ender Level0 = end_of_level 0
ender Level1 = end_of_level 1

abbrev pub spell_tail : (l : Block) → Tail l → List Kind → List Kind
spell_tail (Body e) x rest = ender e ∷ rest
spell_tail (Inside Then) x rest = spell_alternative x (end_of_condition ∷ rest)
spell_tail (Inside Otherwise) x rest = end_of_condition ∷ rest

-- what is due, as a tree, and its tokens
abbrev pub Tree : Want → Type 0
Tree Modules = List Module
Tree (Commands l) = Cmds × Tail l
Tree (Pending! First) = Load
Tree Rest = Ops
Tree (Pending! Operand!) = Operand
Tree (Pending! Comparand!) = Comparand

abbrev pub spell_tree : (w : Want) → Tree w → List Kind → List Kind
spell_tree Modules ms rest = spell_modules ms rest
spell_tree (Commands l) x rest = spell_cmds x.0 (spell_tail l x.1 rest)
spell_tree (Pending! First) x rest = spell_load x rest
spell_tree Rest os rest = spell_ops os (bracket_closes ∷ rest)
spell_tree (Pending! Operand!) x rest = spell_operand x rest
spell_tree (Pending! Comparand!) x rest = spell_comparand x rest

abbrev pub Forest : List Want → Type 0
Forest [] = Unit {0}
Forest (w ∷ s) = Tree w × Forest s

abbrev pub spell_forest : (s : List Want) → Forest s → List Kind
spell_forest [] f = []
spell_forest (w ∷ s) f = spell_tree w f.0 (spell_forest s f.1)

-- what is due behind k, made into what is due before it
abbrev pub Back : List Want → Kind → List Want → Type 0
Back s k s' = (f : Forest s') → (g : Forest s) × (spell_forest s g ≡ k ∷ spell_forest s' f)

-- what a move makes of the stack with w on s
abbrev pub applied : Move → Want → List Want → List Want
applied Keep w s = w ∷ s
applied Fill w s = s
applied Begin w s = Pending! First ∷ Rest ∷ w ∷ s
applied Nest w s = Pending! First ∷ Rest ∷ s
applied Operate w s = Pending! Operand! ∷ w ∷ s
applied Unnest w s = s
applied (Enter e) w s = Commands (Body e) ∷ w ∷ s
applied Test! w s = Commands (Inside Then) ∷ w ∷ s
applied Compare w s = Pending! Comparand! ∷ Commands (Inside Then) ∷ w ∷ s
applied Turn w s = Commands (Inside Otherwise) ∷ s
applied Leave w s = s
applied Finish w s = s

-- the role of the tokens that make a move
abbrev pub role_of : Move → Role
role_of Begin = opens_bracket
role_of Nest = opens_bracket
role_of Unnest = closes_bracket
role_of (Enter e) = opens_module
role_of Test! = opens_condition
role_of Compare = opens_condition
role_of Leave = closes_condition
role_of m = plain

-- the moves that are made where w is due
pub data Fits : Want → Move → Type 0 where
  keeps : {l : Block} → Fits (Commands l) Keep
  fills : {p : Pending} → Fits (Pending! p) Fill
  begins : {l : Block} → Fits (Commands l) Begin
  nests_first : Fits (Pending! First) Nest
  nests_operand : Fits (Pending! Operand!) Nest
  operates : {l : Block} → Fits (Commands l) Operate
  operates_rest : Fits Rest Operate
  unnests : Fits Rest Unnest
  enters : {e : Ending} → Fits Modules (Enter e)
  tests : {l : Block} → Fits (Commands l) Test!
  compares : {l : Block} → Fits (Commands l) Compare
  turns : Fits (Commands (Inside Then)) Turn
  leaves : {b : Branch} → Fits (Commands (Inside b)) Leave
  finishes : {e : Ending} → Fits (Commands (Body e)) Finish

-- the table: the move of a token of a class where w is due, if a text goes on so
abbrev pub rule_of : Want → Class → Option Move
rule_of Modules (Label e) = Some (Enter e)
rule_of (Commands l) LoadNumber = Some Keep
rule_of (Commands l) LoadBit = Some Keep
rule_of (Commands l) LoadWord = Some Keep
rule_of (Commands l) Action = Some Keep
rule_of (Commands l) Operator = Some Operate
rule_of (Commands l) Open = Some Begin
rule_of (Commands l) BitTest = Some Test!
rule_of (Commands l) Comparison = Some Compare
rule_of (Commands (Inside Then)) Else = Some Turn
rule_of (Commands (Inside b)) EndIf = Some Leave
rule_of (Commands (Body Return)) (End Return) = Some Finish
rule_of (Commands (Body Level0)) (End Level0) = Some Finish
rule_of (Commands (Body Level1)) (End Level1) = Some Finish
rule_of (Pending! p) LoadWord = Some Fill
rule_of (Pending! First) LoadNumber = Some Fill
rule_of (Pending! First) LoadBit = Some Fill
rule_of (Pending! First) Open = Some Nest
rule_of (Pending! Operand!) Number = Some Fill
rule_of (Pending! Operand!) LoadBit = Some Fill
rule_of (Pending! Operand!) Open = Some Nest
rule_of (Pending! Comparand!) Number = Some Fill
rule_of Rest Operator = Some Operate
rule_of Rest Close = Some Unnest
rule_of w c = None

abbrev pub ruled : Want → Option Class → Option Move
ruled w None = None
ruled w (Some c) = rule_of w c

-- the move of a token where w is due
abbrev pub move_of : Want → Kind → Option Move
move_of w k = ruled w (class_of k)

-- what an entry of the table owes to the grammar
abbrev pub Entry : Want → Kind → Option Move → Type 0
Entry w k None = Unit {0}
Entry w k (Some m) = Fits w m × (role_of m ≡ role k) × ((s : List Want) → Back (w ∷ s) k (applied m w s))

abbrev pub moved : Option Move → Want → List Want → Option (List Want)
moved None w s = None
moved (Some m) w s = Some (applied m w s)

abbrev pub step : List Want → Kind → Option (List Want)
step [] k = None
step (w ∷ s) k = moved (move_of w k) w s

abbrev pub then_run : Option (List Want) → (List Want → Option (List Want)) → Option (List Want)
then_run None f = None
then_run (Some s) f = f s

abbrev pub run : List Want → List Kind → Option (List Want)
run s [] = Some s
run s (k ∷ ks) = then_run (step s k) (λ s'. run s' ks)

abbrev pub start : List Want
start = Modules ∷ []
