-- What lies ahead of each place of a code, summed up from the code's end. Assumes nothing.
use Rattle.std.specs.Prelude.{ℕ, ◌+◌, ◌-◌, List, [], ◌∷◌, get_or, slice_index_or}
use Rattle.program.specs.declared.instruction.Instruction.{Instruction}
use Rattle.program.specs.declared.instruction.Instruction.TheVariants.{Return, Load, Apply, Open, Close, StoreBit, StoreWord, Switch, Test, Skip, Call}

-- how what lies ahead of a place is summed up, from what lies ahead of the places that its instruction leads to
pub record Rule (A : Type 0) : Type 0 where
  -- at `Return`, and behind the code, where `Return` stands too
  pub ends : A
  -- an instruction that leads to one place
  pub goes : A → A
  -- a test: of the next place, and of the place behind what it passes over
  pub tests : A → A → A
  -- a call: of the module's place, and of the next place
  pub calls : A → A → A

-- ahead of place n with this instruction, where the places behind n have what `later` says
abbrev pub ahead_of : {A : Type 0} → Rule A → ℕ → Instruction → (ℕ → A) → A
ahead_of r n Return later = r.ends
ahead_of r n (Load x) later = r.goes (later (n + 1))
ahead_of r n (Apply o x) later = r.goes (later (n + 1))
ahead_of r n (Open j) later = r.goes (later (n + 1))
ahead_of r n Close later = r.goes (later (n + 1))
ahead_of r n (StoreBit c k) later = r.goes (later (n + 1))
ahead_of r n (StoreWord c k) later = r.goes (later (n + 1))
ahead_of r n (Switch c on) later = r.goes (later (n + 1))
ahead_of r n (Test x k) later = r.tests (later (n + 1)) (later (n + 1 + k))
ahead_of r n (Skip k) later = r.goes (later (n + 1 + k))
ahead_of r n (Call m) later = r.calls (later m) (later (n + 1))

-- of each place of the code, the first of which is place n; calls lead downward
abbrev pub aheads : {A : Type 0} → Rule A → ℕ → List Instruction → List A
aheads r n [] = []
aheads r n (x ∷ xs) = ahead_of r n x (λ p. get_or (aheads r (n + 1) xs) (p - (n + 1)) r.ends) ∷ aheads r (n + 1) xs

abbrev pub ahead : {A : Type 0} → Rule A → List Instruction → ℕ → A
ahead r code n = slice_index_or (aheads r 0 code) n r.ends
