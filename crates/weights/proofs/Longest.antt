-- The chain of a module is its longest chain of calls. Assumes nothing.
use Rattle.std.proofs.Common.{◌≡◌, ℕ, zero, suc, ◌+◌, ◌-◌, ◌<◌, ◌≤◌, max, Bool, true, false, cond, eqb, ◌⊎◌, List, [], ◌∷◌, sym, refl, ap, ◌∙◌, subst, inl, inr, arith}
use Rattle.std.proofs.lemmas.Bool.{cases_lt, cases_eq, eq-eqb, ne_eqb, cond-true, cond-false}
use Rattle.grammar.specs.Grammar.{Act, bit_stored, word_stored, switched, called, Command, loading, applying, acting, choosing, Cmds, done, and_then, Alternative, no_else, else_do, Module, module_of}
use Rattle.meaning.specs.Nesting.{act_chain, command_chain, commands_chain, alternative_chain, chain}
use Rattle.weights.specs.Chains.{CallsAct, CallsCommand, CallsCommands, CallsAlternative, Among, Labelled, Linked, Calls, Chain, ends, calls, LongestChain}

-- ---- among commands, where each label has a chain
module _ (ch : ℕ → ℕ) where
  -- what is called counts
  least_act : (a : Act) (m : ℕ) → CallsAct a m → ch m ≤ act_chain ch a
  least_act (bit_stored c n) m p = absurd p
  least_act (word_stored c n) m p = absurd p
  least_act (switched c on) m p = absurd p
  least_act (called l) m p = omega (arith, ap ch p)

  mutual
    least_command : (c : Command) (m : ℕ) → CallsCommand c m → ch m ≤ command_chain ch c
    least_command (loading l) m p = absurd p
    least_command (applying o x) m p = absurd p
    least_command (acting a) m p = least_act a m p
    least_command (choosing t cs b) m (inl p) = omega (arith, least_commands cs m p)
    least_command (choosing t cs b) m (inr p) = omega (arith, least_alternative b m p)

    least_commands : (cs : Cmds) (m : ℕ) → CallsCommands cs m → ch m ≤ commands_chain ch cs
    least_commands done m p = absurd p
    least_commands (and_then c cs) m (inl p) = omega (arith, least_command c m p)
    least_commands (and_then c cs) m (inr p) = omega (arith, least_commands cs m p)

    least_alternative : (b : Alternative) (m : ℕ) → CallsAlternative b m → ch m ≤ alternative_chain ch b
    least_alternative no_else m p = absurd p
    least_alternative (else_do cs) m p = least_commands cs m p

  -- n is 0, or the chain of a label that P calls
  abbrev Reached : (ℕ → Type 0) → ℕ → Type 0
  Reached P n = (n ≡ 0) ⊎ ((m : ℕ) × P m × (ch m ≡ n))

  greater : (P Q : ℕ → Type 0) (a b : ℕ) → Reached P a → Reached Q b → Reached (λ m. P m ⊎ Q m) (max a b)
  greater P Q a b p q = elim (cases_lt a b) [ inl lt ↦ right (omega arith) q | inr le ↦ left (omega arith) p ]
    where
      left : max a b ≡ a → Reached P a → Reached (λ m. P m ⊎ Q m) (max a b)
      left e (inl z) = inl (e ∙ z)
      left e (inr w) = inr (w.0, inl w.1, w.2 ∙ sym e)

      right : max a b ≡ b → Reached Q b → Reached (λ m. P m ⊎ Q m) (max a b)
      right e (inl z) = inl (e ∙ z)
      right e (inr w) = inr (w.0, inr w.1, w.2 ∙ sym e)

  most_act : (a : Act) → Reached (CallsAct a) (act_chain ch a)
  most_act (bit_stored c n) = inl refl
  most_act (word_stored c n) = inl refl
  most_act (switched c on) = inl refl
  most_act (called l) = inr (l, refl, refl)

  mutual
    most_command : (c : Command) → Reached (CallsCommand c) (command_chain ch c)
    most_command (loading l) = inl refl
    most_command (applying o x) = inl refl
    most_command (acting a) = most_act a
    most_command (choosing t cs b) = greater (CallsCommands cs) (CallsAlternative b) (commands_chain ch cs) (alternative_chain ch b) (most_commands cs) (most_alternative b)

    most_commands : (cs : Cmds) → Reached (CallsCommands cs) (commands_chain ch cs)
    most_commands done = inl refl
    most_commands (and_then c cs) = greater (CallsCommand c) (CallsCommands cs) (command_chain ch c) (commands_chain ch cs) (most_command c) (most_commands cs)

    most_alternative : (b : Alternative) → Reached (CallsAlternative b) (alternative_chain ch b)
    most_alternative no_else = inl refl
    most_alternative (else_do cs) = most_commands cs

-- ---- modules
positive : (ms : List Module) (l : ℕ) → 1 ≤ chain ms l
positive [] l = omega arith
positive (module_of k cs ∷ ms) l = by (eqb l k) (positive ms l)
  where
    by : (b : Bool) → 1 ≤ chain ms l → 1 ≤ cond b (1 + commands_chain (chain ms) cs) (chain ms l)
    by true h = omega arith
    by false h = h

chain_here : (k : ℕ) (cs : Cmds) (ms : List Module) (l : ℕ) → l ≡ k → chain (module_of k cs ∷ ms) l ≡ 1 + commands_chain (chain ms) cs
chain_here k cs ms l e = cond-true (eqb l k) (1 + commands_chain (chain ms) cs) (chain ms l) (eq-eqb l k e)

chain_below : (k : ℕ) (cs : Cmds) (ms : List Module) (l : ℕ) → (l ≡ k → ⊥) → chain (module_of k cs ∷ ms) l ≡ chain ms l
chain_below k cs ms l e = cond-false (eqb l k) (1 + commands_chain (chain ms) cs) (chain ms l) (ne_eqb l k e)

-- a label that stands below is another
other : (k : ℕ) (ms : List Module) (l : ℕ) → (Labelled ms k → ⊥) → Labelled ms l → l ≡ k → ⊥
other k ms l free p e = free (subst (Labelled ms) e p)

-- what is called is there
there : (ms : List Module) → Linked ms → (l m : ℕ) → Calls ms l m → Labelled ms m
there [] linked l m p = absurd p.1
there (module_of k ds ∷ ms) linked l m p = go p.0 p.1 p.2 (there ms linked.2 l m)
  where
    go : (cs : Cmds) → Among (module_of k ds ∷ ms) l cs → CallsCommands cs m → (Calls ms l m → Labelled ms m) → Labelled (module_of k ds ∷ ms) m
    go cs (inl e) c r = let q = linked.1 m (subst (λ (x : Cmds). CallsCommands x m) e.1 c) in (q.0, inr q.1)
    go cs (inr a) c r = let q = r (cs, a, c) in (q.0, inr q.1)

-- a module's chain is longer than that of a module that it calls
call_less : (ms : List Module) → Linked ms → (l m : ℕ) → Calls ms l m → chain ms m < chain ms l
call_less [] linked l m p = absurd p.1
call_less (module_of k ds ∷ ms) linked l m p = go p.0 p.1 p.2 (call_less ms linked.2 l m)
  where
    go : (cs : Cmds) → Among (module_of k ds ∷ ms) l cs → CallsCommands cs m → (Calls ms l m → chain ms m < chain ms l) → chain (module_of k ds ∷ ms) m < chain (module_of k ds ∷ ms) l
    go cs (inl e) c r =
        let d = subst (λ (x : Cmds). CallsCommands x m) e.1 c in
        omega (arith, chain_here k ds ms l e.0, chain_below k ds ms m (other k ms m linked.0 (linked.1 m d)), least_commands (chain ms) ds m d)
    go cs (inr a) c r =
        omega (arith, chain_below k ds ms l (other k ms l linked.0 (cs, a)), chain_below k ds ms m (other k ms m linked.0 (there ms linked.2 l m (cs, a, c))), r (cs, a, c))

none_longer : (ms : List Module) → Linked ms → (l k : ℕ) → Chain ms l k → k < chain ms l
none_longer ms linked l zero ends = positive ms l
none_longer ms linked l (suc k) (calls {m = m} p c) = omega (arith, none_longer ms linked m k c, call_less ms linked l m p)

-- a chain below is a chain
lifted : (x : Module) (ms : List Module) (l k : ℕ) → Chain ms l k → Chain (x ∷ ms) l k
lifted x ms l zero ends = ends
lifted (module_of j ds) ms l (suc k) (calls {m = m} p c) = calls (p.0, inr p.1, p.2) (lifted (module_of j ds) ms m k c)

longest : (ms : List Module) (l : ℕ) → Chain ms l (chain ms l - 1)
longest [] l = ends
longest (module_of k ds ∷ ms) l = go (cases_eq l k) (most_commands (chain ms) ds) (longest ms)
  where
    go : (l ≡ k) ⊎ (l ≡ k → ⊥) → Reached (chain ms) (CallsCommands ds) (commands_chain (chain ms) ds) → ((m : ℕ) → Chain ms m (chain ms m - 1)) → Chain (module_of k ds ∷ ms) l (chain (module_of k ds ∷ ms) l - 1)
    go (inl e) (inl z) r =
        let w : 0 ≡ chain (module_of k ds ∷ ms) l - 1 = omega (arith, chain_here k ds ms l e) in
        subst (Chain (module_of k ds ∷ ms) l) w ends
    go (inl e) (inr q) r =
        let m = q.0 in
        let w : suc (chain ms m - 1) ≡ chain (module_of k ds ∷ ms) l - 1 = omega (arith, chain_here k ds ms l e, q.2, positive ms m) in
        subst (Chain (module_of k ds ∷ ms) l) w (calls (ds, inl (e, refl), q.1) (lifted (module_of k ds) ms m (chain ms m - 1) (r m)))
    go (inr n) q r =
        let w : chain ms l - 1 ≡ chain (module_of k ds ∷ ms) l - 1 = omega (arith, chain_below k ds ms l n) in
        subst (Chain (module_of k ds ∷ ms) l) w (lifted (module_of k ds) ms l (chain ms l - 1) (r l))

pub longest_chain : LongestChain
longest_chain ms linked l = record { exists = longest ms l; most = λ k c. omega (arith, none_longer ms linked l k c) }
