-- The code of a list by its tokens: which instruction a token makes, from the token before it and from those behind it. Assumes nothing.
use Rattle.std.specs.Prelude.{ℕ, zero, suc, ◌+◌, Bool, cond, ◌&&◌, List, [], ◌∷◌, ◌++◌, length, drop, Some, None, Option, nat_le, nat_lt}
use Rattle.tokens.specs.Tokens.{Kind, labels, bracket_opens, bracket_closes, number, load_number, load_bit, load_word, store_bit, store_word, switch, test, operator, comparison, otherwise, end_of_condition, end_of_level, return, label, call}
use Rattle.program.specs.declared.instruction.Source.{Source}
use Rattle.program.specs.declared.instruction.Source.TheVariants.{Number, Bit, Word}
use Rattle.program.specs.declared.instruction.Check.TheVariants.{Bit as BitCheck, Compare}
use Rattle.program.specs.declared.instruction.Instruction.{Instruction}
use Rattle.program.specs.declared.instruction.Instruction.TheVariants.{Return, Load, Apply, Open, Close, StoreBit, StoreWord, Switch, Test, Skip, Call}
use Rattle.emission.specs.declared.parts.Pending.{Pending}
use Rattle.emission.specs.declared.parts.Pending.TheVariants.{Operand, Comparand}
use Rattle.emission.specs.declared.parts.Turn.{Turn}
use Rattle.emission.specs.declared.parts.Turn.TheVariants.{Opening, Otherwise, Closing}

-- how many instructions a token makes: an operator and a comparison are part of their operand's
abbrev pub weight : Kind → ℕ
weight bracket_opens = 1
weight bracket_closes = 1
weight (number v) = 1
weight (load_number v) = 1
weight (load_bit c n) = 1
weight (load_word c n) = 1
weight (store_bit c n) = 1
weight (store_word c n) = 1
weight (switch c on) = 1
weight (test c n) = 1
weight (operator o) = 0
weight (comparison o) = 0
weight otherwise = 1
weight end_of_condition = 0
weight (end_of_level v) = 1
weight return = 1
weight (label n) = 0
weight (call n) = 1

-- how many instructions tokens make
abbrev pub total : List Kind → ℕ
total [] = 0
total (k ∷ ks) = weight k + total ks

-- what a token asks of the next
abbrev pub asks : Kind → Option Pending
asks bracket_opens = None
asks bracket_closes = None
asks (number v) = None
asks (load_number v) = None
asks (load_bit c n) = None
asks (load_word c n) = None
asks (store_bit c n) = None
asks (store_word c n) = None
asks (switch c on) = None
asks (test c n) = None
asks (operator o) = Some (Operand o)
asks (comparison o) = Some (Comparand o)
asks otherwise = None
asks end_of_condition = None
asks (end_of_level v) = None
asks return = None
asks (label n) = None
asks (call n) = None

-- its part in conditions
abbrev pub turn : Kind → Option Turn
turn bracket_opens = None
turn bracket_closes = None
turn (number v) = None
turn (load_number v) = None
turn (load_bit c n) = None
turn (load_word c n) = None
turn (store_bit c n) = None
turn (store_word c n) = None
turn (switch c on) = None
turn (test c n) = Some Opening
turn (operator o) = None
turn (comparison o) = Some Opening
turn otherwise = Some Otherwise
turn end_of_condition = Some Closing
turn (end_of_level v) = None
turn return = None
turn (label n) = None
turn (call n) = None

-- inside d more conditions: what a token of w instructions adds to a branch, and what those behind it add
abbrev pub further : Option Turn → ℕ → ℕ → (ℕ → ℕ) → ℕ
further None w d f = w + f d
further (Some Opening) w d f = w + f (suc d)
further (Some Otherwise) w zero f = w
further (Some Otherwise) w (suc d) f = w + f (suc d)
further (Some Closing) w zero f = 0
further (Some Closing) w (suc d) f = w + f d

-- how many instructions stand from here to the `Z` of the condition, or to its `E`, that one included
abbrev pub branch : ℕ → List Kind → ℕ
branch d [] = 0
branch d (k ∷ ks) = further (turn k) (weight k) d (λ e. branch e ks)

-- where module l begins, if the first instruction of the tokens has the place n; behind all where there is none
abbrev pub place_in : ℕ → ℕ → List Kind → ℕ
place_in l n [] = n
place_in l n (k ∷ ks) = cond (labels l k) n (place_in l (n + weight k) ks)

-- a value: it is loaded, or taken by the operator or the comparison before it, whose false branch lies k on
abbrev pub taking : Option Pending → Source → ℕ → Instruction
taking None x k = Load x
taking (Some (Operand o)) x k = Apply o x
taking (Some (Comparand o)) x k = Test (Compare o x) k

abbrev pub opening : Option Pending → Instruction
opening None = Open None
opening (Some (Operand o)) = Open (Some o)
opening (Some (Comparand o)) = Open None

-- the instruction of a token at place n, where p is pending and ks stand behind it
abbrev pub made : Option Pending → ℕ → Kind → List Kind → Option Instruction
made p n bracket_opens ks = Some (opening p)
made p n bracket_closes ks = Some Close
made p n (number v) ks = Some (taking p (Number v) (branch 0 ks))
made p n (load_number v) ks = Some (taking p (Number v) (branch 0 ks))
made p n (load_bit c x) ks = Some (taking p (Bit c x) (branch 0 ks))
made p n (load_word c x) ks = Some (taking p (Word c x) (branch 0 ks))
made p n (store_bit c x) ks = Some (StoreBit c x)
made p n (store_word c x) ks = Some (StoreWord c x)
made p n (switch c on) ks = Some (Switch c on)
made p n (test c x) ks = Some (Test (BitCheck c x) (branch 0 ks))
made p n (operator o) ks = None
made p n (comparison o) ks = None
made p n otherwise ks = Some (Skip (branch 0 ks))
made p n end_of_condition ks = None
made p n (end_of_level v) ks = Some Return
made p n return ks = Some Return
made p n (label l) ks = None
made p n (call l) ks = Some (Call (place_in l (n + 1) ks))

abbrev pub before : Option Instruction → List Instruction → List Instruction
before None is = is
before (Some i) is = i ∷ is

-- the instructions of tokens whose first has the place n, where p is pending
abbrev pub instructions : Option Pending → ℕ → List Kind → List Instruction
instructions p n [] = []
instructions p n (k ∷ ks) = before (made p n k ks) (instructions (asks k) (n + weight k) ks)

-- the code of a list, with one more `Return` behind its modules
abbrev pub emitted : List Kind → List Instruction
emitted ks = instructions None 0 ks ++ (Return ∷ [])

-- at most 2,048 tokens and 2,048 instructions
abbrev pub fits : List Kind → Bool
fits ks = nat_le (length ks) 2048 && nat_lt (total ks) 2048

-- how long the code is, if it has room
abbrev pub code_length : List Kind → Option ℕ
code_length ks = cond (fits ks) (Some (total ks + 1)) None

-- memory that the code was written to: the code at its front and the rest as it was; all as it was where there is no room
abbrev pub written_over : List Kind → List Instruction → List Instruction
written_over ks old = cond (fits ks) (emitted ks ++ drop (total ks + 1) old) old
