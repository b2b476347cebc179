-- Chains of calls, by the list. Assumes nothing.
use Rattle.std.specs.Prelude.{◌≡◌, ℕ, suc, ◌-◌, ◌≤◌, ◌⊎◌, List, [], ◌∷◌}
use Rattle.grammar.specs.Grammar.{Act, bit_stored, word_stored, switched, called, Command, loading, applying, acting, choosing, Cmds, done, and_then, Alternative, no_else, else_do, Module, module_of}
use Rattle.meaning.specs.Nesting.{chain}

-- ---- a call of label m among commands, in any branch
abbrev pub CallsAct : Act → ℕ → Type 0
CallsAct (bit_stored c n) m = ⊥
CallsAct (word_stored c n) m = ⊥
CallsAct (switched c on) m = ⊥
CallsAct (called l) m = m ≡ l

abbrev mutual
  pub CallsCommand : Command → ℕ → Type 0
  CallsCommand (loading l) m = ⊥
  CallsCommand (applying o x) m = ⊥
  CallsCommand (acting a) m = CallsAct a m
  CallsCommand (choosing t cs b) m = CallsCommands cs m ⊎ CallsAlternative b m

  pub CallsCommands : Cmds → ℕ → Type 0
  CallsCommands done m = ⊥
  CallsCommands (and_then c cs) m = CallsCommand c m ⊎ CallsCommands cs m

  pub CallsAlternative : Alternative → ℕ → Type 0
  CallsAlternative no_else m = ⊥
  CallsAlternative (else_do cs) m = CallsCommands cs m

-- ---- modules
-- a module with label l and these commands is among them
abbrev pub Among : List Module → ℕ → Cmds → Type 0
Among [] l cs = ⊥
Among (module_of k ds ∷ ms) l cs = ((l ≡ k) × (cs ≡ ds)) ⊎ Among ms l cs

-- a module with label l is among them
abbrev pub Labelled : List Module → ℕ → Type 0
Labelled ms l = (cs : Cmds) × Among ms l cs

-- no label stands twice, and each call is of a module further down
abbrev pub Linked : List Module → Type 0
Linked [] = Unit {0}
Linked (module_of k cs ∷ ms) = (Labelled ms k → ⊥) × ((m : ℕ) → CallsCommands cs m → Labelled ms m) × Linked ms

-- module l calls module m
abbrev pub Calls : List Module → ℕ → ℕ → Type 0
Calls ms l m = (cs : Cmds) × Among ms l cs × CallsCommands cs m

-- ---- a chain of calls from module l on, with so many modules below l
pub data Chain (ms : List Module) : ℕ → ℕ → Type 0 where
  ends : {l : ℕ} → Chain ms l 0
  calls : {l m k : ℕ} → Calls ms l m → Chain ms m k → Chain ms l (suc k)

-- there is a chain with n modules below l, and none with more
pub record Longest (ms : List Module) (l n : ℕ) : Type 0 where
  pub exists : Chain ms l n
  pub most : (k : ℕ) → Chain ms l k → k ≤ n

abbrev pub LongestChain : Type 0
LongestChain = (ms : List Module) → Linked ms → (l : ℕ) → Longest ms l (chain ms l - 1)
