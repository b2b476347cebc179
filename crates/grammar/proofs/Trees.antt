-- No two lists of modules are written alike, since the machine finds the tree again. Assumes nothing.
use Rattle.std.proofs.Common.{◌≡◌, List, [], ◌∷◌, Some, None, Option, sym, refl, ap, ◌∙◌}
use Rattle.tokens.specs.Tokens.{Kind, bracket_closes, end_of_condition}
use Rattle.grammar.specs.declared.table.Ending.{Ending}
use Rattle.grammar.specs.declared.table.Ending.TheVariants.{Return, Level0, Level1}
use Rattle.grammar.specs.declared.table.Branch.TheVariants.{Then, Otherwise}
use Rattle.grammar.specs.declared.table.Block.{Block}
use Rattle.grammar.specs.declared.table.Block.TheVariants.{Body, Branch as Inside}
use Rattle.grammar.specs.declared.table.Want.{Want}
use Rattle.grammar.specs.declared.table.Pending.TheVariants.{First, Operand as Operand!, Comparand as Comparand! }
use Rattle.grammar.specs.declared.table.Want.TheVariants.{Modules, Commands, Pending, Rest}
use Rattle.grammar.specs.declared.table.Move.{Move}
use Rattle.grammar.specs.Grammar.{Load, number_loaded, bit_loaded, word_loaded, bracket_loaded, Ops, no_more, apply_then, Operand, number_taken, bit_taken, word_taken, bracket_taken, bit_stored, word_stored, switched, called, Comparand, with_number, with_word, bit_tested, compared, Command, loading, applying, acting, choosing, Cmds, done, and_then, Alternative, no_else, else_do, Module, module_of, spell_load, spell_ops, spell_operand, spell_comparand, spell_command, spell_cmds, spell_alternative, spell, OneTree}
use Rattle.grammar.specs.Machine.{ending, ender, Tail, spell_tail, Forest, applied, move_of, Entry, start}
use Rattle.grammar.proofs.Tables.{ends_so, entry}

abbrev on_some : {A B : Type 0} → (A → B) → Option A → Option B
on_some f None = None
on_some f (Some x) = Some (f x)

on_some_twice : {A B C : Type 0} (h : B → C) (g : A → B) (o : Option A) → on_some h (on_some g o) ≡ on_some (λ a. h (g a)) o
on_some_twice h g None = refl
on_some_twice h g (Some x) = refl

by : {A B C : Type 0} (h : B → C) (g : A → B) (y : Option B) (x : Option A) → y ≡ on_some g x → on_some h y ≡ on_some (λ a. h (g a)) x
by h g y x e = ap (on_some h) e ∙ on_some_twice h g x

-- what the tokens are, as a forest of the stack: at the end only modules may be due
abbrev finished : (s : List Want) → Option (Forest s)
finished (Modules ∷ []) = Some ([], tt)
finished s = None

abbrev onward : (w : Want) (k : Kind) (s : List Want) (o : Option Move) → Entry w k o → ((v : List Want) → Option (Forest v)) → Option (Forest (w ∷ s))
onward w k s None x f = None
onward w k s (Some m) x f = on_some (λ g. (x.2 s g).0) (f (applied m w s))

abbrev parsed : List Kind → (s : List Want) → Option (Forest s)
parsed [] s = finished s
parsed (k ∷ ks) [] = None
parsed (k ∷ ks) (w ∷ s) = onward w k s (move_of w k) (entry w k) (λ v. parsed ks v)

-- a tree that was spelled is found again
bracket : {C : Type 0} (l : Load) (os : Ops) (s : List Want) (r : List Kind) (h : Forest (Pending First ∷ Rest ∷ s) → C)
    → parsed (spell_load l (spell_ops os (bracket_closes ∷ r))) (Pending First ∷ Rest ∷ s) ≡ on_some (λ f. (l, f)) (parsed (spell_ops os (bracket_closes ∷ r)) (Rest ∷ s))
    → parsed (spell_ops os (bracket_closes ∷ r)) (Rest ∷ s) ≡ on_some (λ f. (os, f)) (parsed r s)
    → on_some h (parsed (spell_load l (spell_ops os (bracket_closes ∷ r))) (Pending First ∷ Rest ∷ s)) ≡ on_some (λ f. h (l, (os, f))) (parsed r s)
bracket l os s r h p q = by h (λ f. (l, f)) _ _ p ∙ by (λ f. h (l, f)) (λ f. (os, f)) _ _ q

mutual
  parse_load : (l : Load) (s : List Want) (r : List Kind) → parsed (spell_load l r) (Pending First ∷ s) ≡ on_some (λ f. (l, f)) (parsed r s)
  parse_load (number_loaded v) s r = refl
  parse_load (bit_loaded c n) s r = refl
  parse_load (word_loaded c n) s r = refl
  parse_load (bracket_loaded l os) s r =
      bracket l os s r (λ f. (bracket_loaded f.0 f.1.0, f.1.1)) (parse_load l (Rest ∷ s) (spell_ops os (bracket_closes ∷ r))) (parse_ops os s r)

  parse_ops : (os : Ops) (s : List Want) (r : List Kind) → parsed (spell_ops os (bracket_closes ∷ r)) (Rest ∷ s) ≡ on_some (λ f. (os, f)) (parsed r s)
  parse_ops no_more s r = refl
  parse_ops (apply_then o x os) s r =
      by (λ f. (apply_then o f.0 f.1.0, f.1.1)) (λ f. (x, f)) _ _ (parse_operand x (Rest ∷ s) (spell_ops os (bracket_closes ∷ r)))
      ∙ by (λ f. (apply_then o x f.0, f.1)) (λ f. (os, f)) _ _ (parse_ops os s r)

  parse_operand : (x : Operand) (s : List Want) (r : List Kind) → parsed (spell_operand x r) (Pending Operand! ∷ s) ≡ on_some (λ f. (x, f)) (parsed r s)
  parse_operand (number_taken v) s r = refl
  parse_operand (bit_taken c n) s r = refl
  parse_operand (word_taken c n) s r = refl
  parse_operand (bracket_taken l os) s r =
      bracket l os s r (λ f. (bracket_taken f.0 f.1.0, f.1.1)) (parse_load l (Rest ∷ s) (spell_ops os (bracket_closes ∷ r))) (parse_ops os s r)

parse_comparand : (x : Comparand) (s : List Want) (r : List Kind) → parsed (spell_comparand x r) (Pending Comparand! ∷ s) ≡ on_some (λ f. (x, f)) (parsed r s)
parse_comparand (with_number v) s r = refl
parse_comparand (with_word c n) s r = refl

-- one command before those that follow
abbrev added : (l : Block) (s : List Want) → Command → Forest (Commands l ∷ s) → Forest (Commands l ∷ s)
added l s c f = ((and_then c f.0.0, f.0.1), f.1)

mutual
  parse_command : (c : Command) (l : Block) (s : List Want) (r : List Kind) → parsed (spell_command c r) (Commands l ∷ s) ≡ on_some (added l s c) (parsed r (Commands l ∷ s))
  parse_command (loading (number_loaded v)) l s r = refl
  parse_command (loading (bit_loaded c n)) l s r = refl
  parse_command (loading (word_loaded c n)) l s r = refl
  parse_command (loading (bracket_loaded x os)) l s r =
      bracket x os (Commands l ∷ s) r (λ f. added l s (loading (bracket_loaded f.0 f.1.0)) f.1.1) (parse_load x (Rest ∷ Commands l ∷ s) (spell_ops os (bracket_closes ∷ r))) (parse_ops os (Commands l ∷ s) r)
  parse_command (applying o x) l s r = by (λ f. added l s (applying o f.0) f.1) (λ f. (x, f)) _ _ (parse_operand x (Commands l ∷ s) r)
  parse_command (acting (bit_stored c n)) l s r = refl
  parse_command (acting (word_stored c n)) l s r = refl
  parse_command (acting (switched c on)) l s r = refl
  parse_command (acting (called n)) l s r = refl
  parse_command (choosing (bit_tested c n) a b) l s r =
      by (λ f. added l s (choosing (bit_tested c n) f.0.0 f.0.1) f.1) (λ f. ((a, b), f)) _ _ (parse_cmds a (Inside Then) b (Commands l ∷ s) r (parse_alternative b (Commands l ∷ s) r))
  parse_command (choosing (compared o x) a b) l s r =
      by (λ f. added l s (choosing (compared o f.0) f.1.0.0 f.1.0.1) f.1.1) (λ f. (x, f)) _ _ (parse_comparand x (Commands (Inside Then) ∷ Commands l ∷ s) (spell_cmds a (spell_alternative b (end_of_condition ∷ r))))
      ∙ by (λ f. added l s (choosing (compared o x) f.0.0 f.0.1) f.1) (λ f. ((a, b), f)) _ _ (parse_cmds a (Inside Then) b (Commands l ∷ s) r (parse_alternative b (Commands l ∷ s) r))

  parse_cmds : (cs : Cmds) (l : Block) (x : Tail l) (s : List Want) (r : List Kind)
      → parsed (spell_tail l x r) (Commands l ∷ s) ≡ on_some (λ f. ((done, x), f)) (parsed r s)
      → parsed (spell_cmds cs (spell_tail l x r)) (Commands l ∷ s) ≡ on_some (λ f. ((cs, x), f)) (parsed r s)
  parse_cmds done l x s r h = h
  parse_cmds (and_then c cs) l x s r h =
      parse_command c l s (spell_cmds cs (spell_tail l x r)) ∙ by (added l s c) (λ f. ((cs, x), f)) _ _ (parse_cmds cs l x s r h)

  parse_alternative : (b : Alternative) (s : List Want) (r : List Kind) → parsed (spell_alternative b (end_of_condition ∷ r)) (Commands (Inside Then) ∷ s) ≡ on_some (λ f. ((done, b), f)) (parsed r s)
  parse_alternative no_else s r = refl
  parse_alternative (else_do cs) s r = by (λ f. ((done, else_do f.0.0), f.1)) (λ f. ((cs, tt), f)) _ _ (parse_cmds cs (Inside Otherwise) tt s r refl)

parse_end : (e : Ending) (s : List Want) (r : List Kind) → parsed (ender e ∷ r) (Commands (Body e) ∷ s) ≡ on_some (λ f. ((done, tt), f)) (parsed r s)
parse_end Return s r = refl
parse_end Level0 s r = refl
parse_end Level1 s r = refl

found : (ms : List Module) → parsed (spell ms) start ≡ Some (ms, tt)
found [] = refl
found (module_of n cs ∷ ms) =
    let whole : Forest (Commands (Body (ending n)) ∷ start) → Forest start = λ f. (module_of n f.0.0 ∷ f.1.0, f.1.1) in
    ap (λ k. on_some whole (parsed (spell_cmds cs (k ∷ spell ms)) (Commands (Body (ending n)) ∷ start))) (ends_so n)
    ∙ by whole (λ f. ((cs, tt), f)) _ _ (parse_cmds cs (Body (ending n)) tt start (spell ms) (parse_end (ending n) start (spell ms)))
    ∙ ap (on_some (λ f. whole ((cs, tt), f))) (found ms)

abbrev modules : Option (Forest start) → List Module
modules None = []
modules (Some f) = f.0

pub one_tree : OneTree
one_tree ms ns e = ap modules (sym (found ms) ∙ ap (λ ks. parsed ks start) e ∙ found ns)
