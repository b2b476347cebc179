-- What the machine's values stand for. Assumes nothing.
use Rattle.std.specs.Prelude.{◌≡◌, ℕ, true, false, List, [], replicate}
use Rattle.stack.specs.declared.stacks.Stack.{Stack}
use Rattle.stack.specs.Entries.{room, lender}
use Rattle.program.specs.declared.instruction.Instruction.{Instruction}
use Rattle.program.specs.declared.instruction.Entry.{Entry}
use Rattle.program.specs.declared.cpu.Cpu.{Cpu}
use Rattle.program.specs.declared.sight.Sight.{Sight as Seen}
use Rattle.program.specs.Cells.{Sight, State}
use Rattle.program.specs.Machine.{Config, act, saving}
use Rattle.program.specs.Sound.{known, inside}

-- what a pass sees
abbrev pub seen : Seen → Sight
seen s = record { inputs = s.inputs; previous = s.previous }

-- what a pass changes
abbrev pub state : Cpu → State
state c = record { op = c.op; bytes = c.bytes; timers = c.timers; stored = c.stored }

-- the machine with the entries of its stack
abbrev pub view : Cpu → List Entry → Config
view c es = record { place = c.place; entries = es; state = state c; over = c.over }

-- the machine after an instruction, with room for this many entries
abbrev pub acts : Sight → ℕ → Instruction → Cpu → List Entry → Config
acts i most x c es = act i most x c.place es (state c)

-- the machine after it has saved an entry and gone on at m
abbrev pub saves : ℕ → Entry → ℕ → Cpu → List Entry → Config
saves most e m c es = saving most e m c.place es (state c)

abbrev pub cpu_of : Config → Cpu
cpu_of c = record {
  op = c.state.op;
  bytes = c.state.bytes;
  timers = c.state.timers;
  stored = c.state.stored;
  place = c.place;
  over = c.over;
}

-- the machine with another state
abbrev pub with_state : Cpu → State → Cpu
with_state c s = record { op = s.op; bytes = s.bytes; timers = s.timers; stored = s.stored; place = c.place; over = c.over }

-- the machine after an instruction that leaves the stack alone
abbrev pub alone : Sight → Instruction → Cpu → Cpu
alone i x c = cpu_of (act i 0 x c.place [] (state c))

-- no inputs, for an instruction that does not look at them
abbrev pub no_inputs : Sight
no_inputs = record { inputs = []; previous = [] }

-- the machine after an instruction that leaves the stack alone and does not look at the inputs
abbrev pub by_itself : Instruction → Cpu → Cpu
by_itself x c = alone no_inputs x c

-- The machine can make this step: the pass is not over, and the instruction may stand at its place in some code of the
-- record.
pub record CanMake (x : Instruction) (c : Cpu) : Type 0 where
  pub live : c.over ≡ false
  pub known : known x ≡ true
  pub inside : inside 2048 c.place x ≡ true

-- a stack over the same slots, by the same loan
pub record SameSlots (old new : Stack Entry) : Type 0 where
  pub room : room new ≡ room old
  pub lender : lender new ≡ lender old

-- before its first step, at this place
abbrev pub fresh : List ℕ → List ℕ → ℕ → Cpu
fresh bs ts n = record { op = 0; bytes = bs; timers = ts; stored = replicate 144 false; place = n; over = false }
