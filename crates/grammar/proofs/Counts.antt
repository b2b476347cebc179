-- A list of modules has as many labels as modules. Assumes nothing.
use Rattle.std.proofs.Common.{◌≡◌, ℕ, ◌+◌, List, [], ◌∷◌, length, refl, ap, ◌∙◌, arith}
use Rattle.tokens.specs.Tokens.{Kind, bracket_closes, end_of_condition}
use Rattle.grammar.specs.Grammar.{Load, number_loaded, bit_loaded, word_loaded, bracket_loaded, Ops, no_more, apply_then, Operand, number_taken, bit_taken, word_taken, bracket_taken, Act, bit_stored, word_stored, switched, called, with_number, with_word, Test, bit_tested, compared, Command, loading, applying, acting, choosing, Cmds, done, and_then, Alternative, no_else, else_do, Module, module_of, closing, spell_load, spell_ops, spell_operand, spell_act, spell_test, spell_command, spell_cmds, spell_alternative, spell}
use Rattle.grammar.specs.declared.table.Ending.{Ending}
use Rattle.grammar.specs.declared.table.Ending.TheVariants.{Return, Level0, Level1}
use Rattle.grammar.specs.Limits.{counted, modules_after, begun_modules}
use Rattle.grammar.specs.Machine.{ending, ender}
use Rattle.grammar.proofs.Tables.{ends_so}

abbrev labels : ℕ → List Kind → ℕ
labels n ks = counted modules_after n ks

mutual
  none_in_load : (l : Load) (n : ℕ) (r : List Kind) → labels n (spell_load l r) ≡ labels n r
  none_in_load (number_loaded v) n r = refl
  none_in_load (bit_loaded x y) n r = refl
  none_in_load (word_loaded x y) n r = refl
  none_in_load (bracket_loaded l os) n r = none_in_load l n (spell_ops os (bracket_closes ∷ r)) ∙ none_in_ops os n (bracket_closes ∷ r)

  none_in_ops : (os : Ops) (n : ℕ) (r : List Kind) → labels n (spell_ops os r) ≡ labels n r
  none_in_ops no_more n r = refl
  none_in_ops (apply_then o x os) n r = none_in_operand x n (spell_ops os r) ∙ none_in_ops os n r

  none_in_operand : (x : Operand) (n : ℕ) (r : List Kind) → labels n (spell_operand x r) ≡ labels n r
  none_in_operand (number_taken v) n r = refl
  none_in_operand (bit_taken x y) n r = refl
  none_in_operand (word_taken x y) n r = refl
  none_in_operand (bracket_taken l os) n r = none_in_load l n (spell_ops os (bracket_closes ∷ r)) ∙ none_in_ops os n (bracket_closes ∷ r)

none_in_act : (a : Act) (n : ℕ) (r : List Kind) → labels n (spell_act a r) ≡ labels n r
none_in_act (bit_stored x y) n r = refl
none_in_act (word_stored x y) n r = refl
none_in_act (switched x y) n r = refl
none_in_act (called x) n r = refl

none_in_test : (t : Test) (n : ℕ) (r : List Kind) → labels n (spell_test t r) ≡ labels n r
none_in_test (bit_tested x y) n r = refl
none_in_test (compared o (with_number v)) n r = refl
none_in_test (compared o (with_word x y)) n r = refl

mutual
  none_in_command : (c : Command) (n : ℕ) (r : List Kind) → labels n (spell_command c r) ≡ labels n r
  none_in_command (loading l) n r = none_in_load l n r
  none_in_command (applying o x) n r = none_in_operand x n r
  none_in_command (acting a) n r = none_in_act a n r
  none_in_command (choosing t a b) n r =
      none_in_test t n (spell_cmds a (spell_alternative b (end_of_condition ∷ r)))
      ∙ none_in_cmds a n (spell_alternative b (end_of_condition ∷ r))
      ∙ none_in_alternative b n (end_of_condition ∷ r)

  none_in_cmds : (cs : Cmds) (n : ℕ) (r : List Kind) → labels n (spell_cmds cs r) ≡ labels n r
  none_in_cmds done n r = refl
  none_in_cmds (and_then c cs) n r = none_in_command c n (spell_cmds cs r) ∙ none_in_cmds cs n r

  none_in_alternative : (b : Alternative) (n : ℕ) (r : List Kind) → labels n (spell_alternative b r) ≡ labels n r
  none_in_alternative no_else n r = refl
  none_in_alternative (else_do cs) n r = none_in_cmds cs n r

none_in_ender : (e : Ending) (n : ℕ) (r : List Kind) → labels n (ender e ∷ r) ≡ labels n r
none_in_ender Return n r = refl
none_in_ender Level0 n r = refl
none_in_ender Level1 n r = refl

labels_from : (ms : List Module) (n : ℕ) → labels n (spell ms) ≡ n + length ms
labels_from [] n = omega arith
labels_from (module_of l cs ∷ ms) n =
    none_in_cmds cs (n + 1) (closing l ∷ spell ms)
    ∙ ap (λ k. labels (n + 1) (k ∷ spell ms)) (ends_so l)
    ∙ none_in_ender (ending l) (n + 1) (spell ms)
    ∙ labels_from ms (n + 1)
    ∙ (let e : n + 1 + length ms ≡ n + length (module_of l cs ∷ ms) = omega arith in e)

pub modules_counted : (ms : List Module) → begun_modules (spell ms) ≡ length ms
modules_counted ms = labels_from ms 0 ∙ (let e : 0 + length ms ≡ length ms = omega arith in e)
