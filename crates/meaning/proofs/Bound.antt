-- No trail is longer than the figure says. Assumes nothing.
use Rattle.std.proofs.Common.{ℕ, ◌+◌, ◌≤◌, max, Bool, true, false, cond, eqb, List, [], ◌∷◌, length, arith, length-append}
use Rattle.tokens.specs.declared.Operator.{Operator}
use Rattle.grammar.specs.Grammar.{Load, number_loaded, bit_loaded, word_loaded, bracket_loaded, Ops, no_more, apply_then, Operand, number_taken, bit_taken, word_taken, bracket_taken, Act, bit_stored, word_stored, switched, called, Command, loading, applying, acting, choosing, Cmds, done, and_then, Alternative, no_else, else_do, Module, module_of}
use Rattle.program.specs.Cells.{Sight, State, combined}
use Rattle.meaning.specs.Meaning.{Trail, last, nothing, unchanged, thence, chosen, bracketed, replaced, load_trail, ops_trail, operand_trail, holds, act_trail, command_trail, commands_trail, choice_trail, meanings}
use Rattle.meaning.specs.Figure.{load_figure, ops_figure, operand_figure, act_figure, command_figure, commands_figure, choice_figure, figure}
use Rattle.meaning.specs.Claims.{WithinFigure}

abbrev Within : Trail → ℕ → Type 0
Within f n = (s : State) → length (f s) ≤ n

within_thence : (f g : Trail) (m n : ℕ) → Within f m → Within g n → Within (thence f g) (m + n)
within_thence f g m n p q s = omega (arith, length-append (f s) (g (last s (f s))), p s, q (last s (f s)))

within_bracketed : (j : ℕ → ℕ → ℕ) (f : Trail) (m : ℕ) → Within f m → Within (bracketed j f) (2 + m)
within_bracketed j f m h s = simp length-append (omega (arith, h s))

within_chosen : (p : State → Bool) (f g : Trail) (m n : ℕ) → Within f m → Within g n → Within (chosen p f g) (1 + max m n)
within_chosen p f g m n a b s = by (p s)
  where
    by : (t : Bool) → length (s ∷ cond t (f s) (g s)) ≤ 1 + max m n
    by true = omega (arith, a s)
    by false = omega (arith, b s)

module _ (i : Sight) where
  within_bracket : (j : ℕ → ℕ → ℕ) (l : Load) (os : Ops) → Within (load_trail i l) (load_figure l) → Within (ops_trail i os) (ops_figure os) → Within (bracketed j (thence (load_trail i l) (ops_trail i os))) (2 + (load_figure l + ops_figure os))
  within_bracket j l os p q = within_bracketed j (thence (load_trail i l) (ops_trail i os)) (load_figure l + ops_figure os) (within_thence (load_trail i l) (ops_trail i os) (load_figure l) (ops_figure os) p q)

  mutual
    within_load : (l : Load) → Within (load_trail i l) (load_figure l)
    within_load (number_loaded v) = λ s. omega arith
    within_load (bit_loaded c n) = λ s. omega arith
    within_load (word_loaded c n) = λ s. omega arith
    within_load (bracket_loaded l os) = within_bracket replaced l os (within_load l) (within_ops os)

    within_ops : (os : Ops) → Within (ops_trail i os) (ops_figure os)
    within_ops no_more = λ s. omega arith
    within_ops (apply_then o x os) = within_thence (operand_trail i o x) (ops_trail i os) (operand_figure x) (ops_figure os) (within_operand o x) (within_ops os)

    within_operand : (o : Operator) (x : Operand) → Within (operand_trail i o x) (operand_figure x)
    within_operand o (number_taken v) = λ s. omega arith
    within_operand o (bit_taken c n) = λ s. omega arith
    within_operand o (word_taken c n) = λ s. omega arith
    within_operand o (bracket_taken l os) = within_bracket (combined o) l os (within_load l) (within_ops os)

  -- ---- commands, where no label's trail is longer than its figure
  module _ (env : ℕ → Trail) (fig : ℕ → ℕ) (each : (l : ℕ) → Within (env l) (fig l)) where
    within_act : (a : Act) → Within (act_trail env a) (act_figure fig a)
    within_act (bit_stored c n) = λ s. omega arith
    within_act (word_stored c n) = λ s. omega arith
    within_act (switched c on) = λ s. omega arith
    within_act (called l) = λ s. omega (arith, each l s)

    mutual
      within_command : (c : Command) → Within (command_trail i env c) (command_figure fig c)
      within_command (loading l) = within_load l
      within_command (applying o x) = within_operand o x
      within_command (acting a) = within_act a
      within_command (choosing t cs b) = within_choice (holds i t) (commands_trail i env cs) (commands_figure fig cs) (within_commands cs) b

      within_commands : (cs : Cmds) → Within (commands_trail i env cs) (commands_figure fig cs)
      within_commands done = λ s. omega arith
      within_commands (and_then c cs) = within_thence (command_trail i env c) (commands_trail i env cs) (command_figure fig c) (commands_figure fig cs) (within_command c) (within_commands cs)

      within_choice : (p : State → Bool) (f : Trail) (n : ℕ) → Within f n → (b : Alternative) → Within (choice_trail i env p f b) (choice_figure fig n b)
      within_choice p f n h no_else = λ s. omega (arith, within_chosen p f nothing n 0 h (λ u. omega arith) s)
      within_choice p f n h (else_do cs) = within_chosen p (thence f unchanged) (commands_trail i env cs) (n + 1) (commands_figure fig cs) (within_thence f unchanged n 1 h (λ u. omega arith)) (within_commands cs)

  within_first : (cs : Cmds) (ms : List Module) → ((l : ℕ) → Within (meanings i ms l) (figure ms l)) → (l : ℕ) (b : Bool) → Within (cond b (thence (commands_trail i (meanings i ms) cs) unchanged) (meanings i ms l)) (cond b (commands_figure (figure ms) cs + 1) (figure ms l))
  within_first cs ms h l true = within_thence (commands_trail i (meanings i ms) cs) unchanged (commands_figure (figure ms) cs) 1 (within_commands (meanings i ms) (figure ms) h cs) (λ u. omega arith)
  within_first cs ms h l false = h l

  within_meanings : (ms : List Module) (l : ℕ) → Within (meanings i ms l) (figure ms l)
  within_meanings [] l = λ s. omega arith
  within_meanings (module_of k cs ∷ ms) l = within_first cs ms (within_meanings ms) l (eqb l k)

pub within_figure : WithinFigure
within_figure ms l i s = within_meanings i ms l s
