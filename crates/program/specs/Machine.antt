-- The machine: what one instruction does, and what many do one after the other. Assumes nothing.
use Rattle.std.specs.Prelude.{ℕ, zero, suc, ◌+◌, Bool, true, false, cond, List, [], ◌∷◌, length, ◌==◌, nat_lt, slice_index_or, Some, None, Option}
use Rattle.tokens.specs.declared.Operator.{Operator}
use Rattle.program.specs.declared.instruction.Source.{Source}
use Rattle.program.specs.declared.instruction.Source.TheVariants.{Number, Bit, Word}
use Rattle.program.specs.declared.instruction.Check.{Check}
use Rattle.program.specs.declared.instruction.Check.TheVariants.{Bit as BitCheck, Compare}
use Rattle.program.specs.declared.instruction.Instruction.{Instruction}
use Rattle.program.specs.declared.instruction.Instruction.TheVariants.{Return, Load, Apply, Open, Close, StoreBit, StoreWord, Switch, Test, Skip, Call}
use Rattle.program.specs.declared.instruction.Entry.{Entry}
use Rattle.program.specs.declared.instruction.Entry.TheVariants.{Back, Saved}
use Rattle.program.specs.Cells.{Sight, State, bit_value, word_value, turned_bit, turned_word, combined, compares, with_op, store_bit_of, store_word_of, switch_bit_of}

abbrev pub source_value : Sight → State → Source → ℕ
source_value i s (Number v) = v
source_value i s (Bit c n) = turned_bit n (bit_value i s c)
source_value i s (Word c n) = turned_word n (word_value i s c)

-- what the saved OP and the value of a bracket make, by the operator before the bracket, if there is one
abbrev pub joined : Option Operator → ℕ → ℕ → ℕ
joined None saved v = v
joined (Some o) saved v = combined o saved v

-- whether a condition is met
abbrev pub met : Sight → State → Check → Bool
met i s (BitCheck c n) = turned_bit n (bit_value i s c) == 1
met i s (Compare o x) = compares o s.op (source_value i s x)

-- the next instruction's place, the entries with the newest first, and the state; over once the pass has ended
pub record Config : Type 0 where
  pub place : ℕ
  pub entries : List Entry
  pub state : State
  pub over : Bool

abbrev pub going : ℕ → List Entry → State → Config
going n es s = record { place = n; entries = es; state = s; over = false }

abbrev pub stopped : ℕ → List Entry → State → Config
stopped n es s = record { place = n; entries = es; state = s; over = true }

-- goes on at m with one entry more; a machine with no room for it stops
abbrev pub saving : ℕ → Entry → ℕ → ℕ → List Entry → State → Config
saving room e m n es s = cond (nat_lt (length es) room) (going m (e ∷ es) s) (stopped n es s)

-- the end of a module: back to where it was called from, or the end of the pass
abbrev pub returning : ℕ → List Entry → State → Config
returning n [] s = stopped n [] s
returning n (Back m ∷ es) s = going m es s
returning n (Saved v j ∷ es) s = stopped n (Saved v j ∷ es) s

-- the end of a bracket
abbrev pub closing : ℕ → List Entry → State → Config
closing n [] s = stopped n [] s
closing n (Back m ∷ es) s = stopped n (Back m ∷ es) s
closing n (Saved v j ∷ es) s = going (n + 1) es (with_op s (joined j v s.op))

-- an instruction at place n
abbrev pub act : Sight → ℕ → Instruction → ℕ → List Entry → State → Config
act i room Return n es s = returning n es s
act i room (Load x) n es s = going (n + 1) es (with_op s (source_value i s x))
act i room (Apply o x) n es s = going (n + 1) es (with_op s (combined o s.op (source_value i s x)))
act i room (Open j) n es s = saving room (Saved s.op j) (n + 1) n es s
act i room Close n es s = closing n es s
act i room (StoreBit c k) n es s = going (n + 1) es (store_bit_of s c k)
act i room (StoreWord c k) n es s = going (n + 1) es (store_word_of s c k)
act i room (Switch c on) n es s = going (n + 1) es (switch_bit_of s c on)
act i room (Test x k) n es s = going (cond (met i s x) (n + 1) (n + 1 + k)) es s
act i room (Skip k) n es s = going (n + 1 + k) es s
act i room (Call m) n es s = saving room (Back (n + 1)) m n es s

-- one step; once the pass is over nothing changes. Behind the last instruction stands `Return`.
abbrev pub tick : Sight → ℕ → List Instruction → Config → Config
tick i room code c = cond c.over c (act i room (slice_index_or code c.place Return) c.place c.entries c.state)

-- k steps
abbrev pub ticks : Sight → ℕ → List Instruction → ℕ → Config → Config
ticks i room code zero c = c
ticks i room code (suc k) c = tick i room code (ticks i room code k c)
