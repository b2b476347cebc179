-- How many entries a pass needs within the limits. Assumes nothing.
use Rattle.std.proofs.Common.{ℕ, ◌+◌, ◌<◌, ◌≤◌, Bool, true, false, cond, eqb, List, [], ◌∷◌, arith}
use Rattle.grammar.specs.Grammar.{Load, number_loaded, bit_loaded, word_loaded, bracket_loaded, Ops, no_more, apply_then, Operand, number_taken, bit_taken, word_taken, bracket_taken, Act, bit_stored, word_stored, switched, called, Command, loading, applying, acting, choosing, Cmds, done, and_then, Alternative, no_else, else_do, Module, module_of}
use Rattle.grammar.specs.Depth.{SmallLoad, SmallOps, SmallOperand, SmallCommand, SmallCmds, SmallAlternative}
use Rattle.meaning.specs.Nesting.{load_depth, ops_depth, operand_depth, act_depth, command_depth, commands_depth, alternative_depth, depth, act_chain, command_chain, commands_chain, alternative_chain, chain}
use Rattle.meaning.specs.Claims.{DepthByChain, Shallow}

-- inside b brackets there is room for 8 less b
mutual
  shallow_load : (b : ℕ) (l : Load) → b ≤ 8 → SmallLoad b l → b + load_depth l ≤ 8
  shallow_load b (number_loaded v) h p = omega arith
  shallow_load b (bit_loaded c n) h p = omega arith
  shallow_load b (word_loaded c n) h p = omega arith
  shallow_load b (bracket_loaded l os) h p = omega (arith, shallow_load (b + 1) l (omega arith) p.1, shallow_ops (b + 1) os (omega arith) p.2)

  shallow_ops : (b : ℕ) (os : Ops) → b ≤ 8 → SmallOps b os → b + ops_depth os ≤ 8
  shallow_ops b no_more h p = omega arith
  shallow_ops b (apply_then o x os) h p = omega (arith, shallow_operand b x h p.0, shallow_ops b os h p.1)

  shallow_operand : (b : ℕ) (x : Operand) → b ≤ 8 → SmallOperand b x → b + operand_depth x ≤ 8
  shallow_operand b (number_taken v) h p = omega arith
  shallow_operand b (bit_taken c n) h p = omega arith
  shallow_operand b (word_taken c n) h p = omega arith
  shallow_operand b (bracket_taken l os) h p = omega (arith, shallow_load (b + 1) l (omega arith) p.1, shallow_ops (b + 1) os (omega arith) p.2)

-- brackets hold no calls, so a command adds 8 entries at most to those of its calls
module _ (dep ch : ℕ → ℕ) (each : (l : ℕ) → dep l < ch l + 8) where
  shallow_act : (a : Act) → act_depth dep a ≤ act_chain ch a + 8
  shallow_act (bit_stored c n) = omega arith
  shallow_act (word_stored c n) = omega arith
  shallow_act (switched c on) = omega arith
  shallow_act (called l) = omega (arith, each l)

  mutual
    shallow_command : (n : ℕ) (c : Command) → SmallCommand n c → command_depth dep c ≤ command_chain ch c + 8
    shallow_command n (loading l) p = omega (arith, shallow_load 0 l (omega arith) p)
    shallow_command n (applying o x) p = omega (arith, shallow_operand 0 x (omega arith) p)
    shallow_command n (acting a) p = shallow_act a
    shallow_command n (choosing t cs b) p = omega (arith, shallow_cmds (n + 1) cs p.1, shallow_alternative (n + 1) b p.2)

    shallow_cmds : (n : ℕ) (cs : Cmds) → SmallCmds n cs → commands_depth dep cs ≤ commands_chain ch cs + 8
    shallow_cmds n done p = omega arith
    shallow_cmds n (and_then c cs) p = omega (arith, shallow_command n c p.0, shallow_cmds n cs p.1)

    shallow_alternative : (n : ℕ) (b : Alternative) → SmallAlternative n b → alternative_depth dep b ≤ alternative_chain ch b + 8
    shallow_alternative n no_else p = omega arith
    shallow_alternative n (else_do cs) p = shallow_cmds n cs p

shallow_first : (cs : Cmds) (ms : List Module) → SmallCmds 0 cs → ((l : ℕ) → depth ms l < chain ms l + 8) → (l : ℕ) (b : Bool) → cond b (commands_depth (depth ms) cs) (depth ms l) < cond b (1 + commands_chain (chain ms) cs) (chain ms l) + 8
shallow_first cs ms p h l true = omega (arith, shallow_cmds (depth ms) (chain ms) h 0 cs p)
shallow_first cs ms p h l false = h l

pub depth_by_chain : DepthByChain
depth_by_chain [] n l p = omega arith
depth_by_chain (module_of k cs ∷ ms) n l p = shallow_first cs ms p.1 (λ j. depth_by_chain ms (n + 1) j p.2) l (eqb l k)

pub shallow : Shallow
shallow ms l p h = omega (arith, depth_by_chain ms 0 l p)
