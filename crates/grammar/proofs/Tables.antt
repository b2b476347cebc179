-- The machine reads the grammar: what it goes through is what trees spell, and each stack can be finished. Assumes nothing.
use Rattle.std.proofs.Common.{◌≡◌, ℕ, Bool, true, false, cond, eqb, List, [], ◌∷◌, ◌++◌, Some, None, Option, sym, refl, ap, ◌∙◌, subst, append-nil, eqb-true}
use Rattle.tokens.specs.Tokens.{Kind, bracket_opens, bracket_closes, number, load_number, load_bit, load_word, store_bit, store_word, switch, test, operator, comparison, otherwise, end_of_condition, end_of_level, return, label, call}
use Rattle.grammar.specs.declared.table.Ending.{Ending}
use Rattle.grammar.specs.declared.table.Ending.TheVariants.{Return, Level0, Level1}
use Rattle.grammar.specs.declared.table.Class.TheVariants.{End}
use Rattle.grammar.specs.declared.table.Branch.TheVariants.{Then, Otherwise}
use Rattle.grammar.specs.declared.table.Block.{Block}
use Rattle.grammar.specs.declared.table.Block.TheVariants.{Body, Branch as Inside}
use Rattle.grammar.specs.declared.table.Want.{Want}
use Rattle.grammar.specs.declared.table.Pending.TheVariants.{First, Operand as Operand!, Comparand as Comparand! }
use Rattle.grammar.specs.declared.table.Want.TheVariants.{Modules, Commands, Pending, Rest}
use Rattle.grammar.specs.declared.table.Move.{Move}
use Rattle.grammar.specs.Grammar.{Load, number_loaded, bit_loaded, word_loaded, bracket_loaded, Ops, no_more, apply_then, Operand, number_taken, bit_taken, word_taken, bracket_taken, Act, bit_stored, word_stored, switched, called, with_number, with_word, Test, bit_tested, compared, Command, loading, applying, acting, choosing, Cmds, done, and_then, Alternative, no_else, else_do, Module, module_of, closing, spell_load, spell_ops, spell_operand, spell_act, spell_test, spell_command, spell_cmds, spell_alternative, spell, Text, Begins}
use Rattle.grammar.specs.Machine.{ending, ender, Tail, Tree, Forest, spell_forest, applied, keeps, fills, begins, nests_first, nests_operand, operates, operates_rest, unnests, enters, tests, compares, turns, leaves, finishes, ruled, move_of, Entry, moved, step, then_run, run, start}

-- a module's ending, as a token
pub ends_so : (n : ℕ) → closing n ≡ ender (ending n)
ends_so n = by (eqb n 1) (eqb n 0)
  where
    by : (a b : Bool) → cond a (end_of_level 1) (cond b (end_of_level 0) return) ≡ ender (cond a Level1 (cond b Level0 Return))
    by true b = refl
    by false true = refl
    by false false = refl

-- each entry of the table, with its way back; first where `J` and a digit is read, by what the digit is
abbrev entry_level : (a b : Bool) (w : Want) (v : ℕ) → eqb v 1 ≡ a → eqb v 0 ≡ b → Entry w (end_of_level v) (ruled w (cond a (Some (End Level1)) (cond b (Some (End Level0)) None)))
entry_level true b (Commands (Body Level1)) v p q = (finishes, refl, λ s f. (((done, tt), f), ap (λ x. end_of_level x ∷ spell_forest s f) (sym (eqb-true v 1 p))))
entry_level false true (Commands (Body Level0)) v p q = (finishes, refl, λ s f. (((done, tt), f), ap (λ x. end_of_level x ∷ spell_forest s f) (sym (eqb-true v 0 q))))
entry_level a b w v p q = tt

abbrev pub entry : (w : Want) (k : Kind) → Entry w k (move_of w k)
entry w (end_of_level v) = entry_level (eqb v 1) (eqb v 0) w v refl refl
entry Modules (label n) = (enters, refl, λ s f. ((module_of n f.0.0 ∷ f.1.0, f.1.1), ap (λ k. label n ∷ spell_cmds f.0.0 (k ∷ spell_forest (Modules ∷ s) f.1)) (ends_so n)))
entry (Commands l) bracket_opens = (begins, refl, λ s f. (((and_then (loading (bracket_loaded f.0 f.1.0)) f.1.1.0.0, f.1.1.0.1), f.1.1.1), refl))
entry (Commands l) (load_number v) = (keeps, refl, λ s f. (((and_then (loading (number_loaded v)) f.0.0, f.0.1), f.1), refl))
entry (Commands l) (load_bit c n) = (keeps, refl, λ s f. (((and_then (loading (bit_loaded c n)) f.0.0, f.0.1), f.1), refl))
entry (Commands l) (load_word c n) = (keeps, refl, λ s f. (((and_then (loading (word_loaded c n)) f.0.0, f.0.1), f.1), refl))
entry (Commands l) (store_bit c n) = (keeps, refl, λ s f. (((and_then (acting (bit_stored c n)) f.0.0, f.0.1), f.1), refl))
entry (Commands l) (store_word c n) = (keeps, refl, λ s f. (((and_then (acting (word_stored c n)) f.0.0, f.0.1), f.1), refl))
entry (Commands l) (switch c n) = (keeps, refl, λ s f. (((and_then (acting (switched c n)) f.0.0, f.0.1), f.1), refl))
entry (Commands l) (test c n) = (tests, refl, λ s f. (((and_then (choosing (bit_tested c n) f.0.0 f.0.1) f.1.0.0, f.1.0.1), f.1.1), refl))
entry (Commands l) (operator o) = (operates, refl, λ s f. (((and_then (applying o f.0) f.1.0.0, f.1.0.1), f.1.1), refl))
entry (Commands l) (comparison o) = (compares, refl, λ s f. (((and_then (choosing (compared o f.0) f.1.0.0 f.1.0.1) f.1.1.0.0, f.1.1.0.1), f.1.1.1), refl))
entry (Commands (Inside Then)) otherwise = (turns, refl, λ s f. (((done, else_do f.0.0), f.1), refl))
entry (Commands (Inside Then)) end_of_condition = (leaves, refl, λ s f. (((done, no_else), f), refl))
entry (Commands (Inside Otherwise)) end_of_condition = (leaves, refl, λ s f. (((done, tt), f), refl))
entry (Commands (Body Return)) return = (finishes, refl, λ s f. (((done, tt), f), refl))
entry (Commands l) (call n) = (keeps, refl, λ s f. (((and_then (acting (called n)) f.0.0, f.0.1), f.1), refl))
entry (Pending First) bracket_opens = (nests_first, refl, λ s f. ((bracket_loaded f.0 f.1.0, f.1.1), refl))
entry (Pending First) (load_number v) = (fills, refl, λ s f. ((number_loaded v, f), refl))
entry (Pending First) (load_bit c n) = (fills, refl, λ s f. ((bit_loaded c n, f), refl))
entry (Pending First) (load_word c n) = (fills, refl, λ s f. ((word_loaded c n, f), refl))
entry Rest bracket_closes = (unnests, refl, λ s f. ((no_more, f), refl))
entry Rest (operator o) = (operates_rest, refl, λ s f. ((apply_then o f.0 f.1.0, f.1.1), refl))
entry (Pending Operand!) bracket_opens = (nests_operand, refl, λ s f. ((bracket_taken f.0 f.1.0, f.1.1), refl))
entry (Pending Operand!) (number v) = (fills, refl, λ s f. ((number_taken v, f), refl))
entry (Pending Operand!) (load_bit c n) = (fills, refl, λ s f. ((bit_taken c n, f), refl))
entry (Pending Operand!) (load_word c n) = (fills, refl, λ s f. ((word_taken c n, f), refl))
entry (Pending Comparand!) (number v) = (fills, refl, λ s f. ((with_number v, f), refl))
entry (Pending Comparand!) (load_word c n) = (fills, refl, λ s f. ((with_word c n, f), refl))
entry w k = tt

-- 1. the machine goes through what a tree spells
mutual
  run_load : (l : Load) (s : List Want) (r : List Kind) → run (Pending First ∷ s) (spell_load l r) ≡ run s r
  run_load (number_loaded v) s r = refl
  run_load (bit_loaded c n) s r = refl
  run_load (word_loaded c n) s r = refl
  run_load (bracket_loaded l os) s r = run_load l (Rest ∷ s) (spell_ops os (bracket_closes ∷ r)) ∙ run_ops os s (bracket_closes ∷ r)

  run_ops : (os : Ops) (s : List Want) (r : List Kind) → run (Rest ∷ s) (spell_ops os r) ≡ run (Rest ∷ s) r
  run_ops no_more s r = refl
  run_ops (apply_then o x os) s r = run_operand x (Rest ∷ s) (spell_ops os r) ∙ run_ops os s r

  run_operand : (x : Operand) (s : List Want) (r : List Kind) → run (Pending Operand! ∷ s) (spell_operand x r) ≡ run s r
  run_operand (number_taken v) s r = refl
  run_operand (bit_taken c n) s r = refl
  run_operand (word_taken c n) s r = refl
  run_operand (bracket_taken l os) s r = run_load l (Rest ∷ s) (spell_ops os (bracket_closes ∷ r)) ∙ run_ops os s (bracket_closes ∷ r)

run_first : (x : Load) (l : Block) (s : List Want) (r : List Kind) → run (Commands l ∷ s) (spell_load x r) ≡ run (Commands l ∷ s) r
run_first (number_loaded v) l s r = refl
run_first (bit_loaded c n) l s r = refl
run_first (word_loaded c n) l s r = refl
run_first (bracket_loaded x os) l s r = run_load x (Rest ∷ Commands l ∷ s) (spell_ops os (bracket_closes ∷ r)) ∙ run_ops os (Commands l ∷ s) (bracket_closes ∷ r)

run_act : (a : Act) (l : Block) (s : List Want) (r : List Kind) → run (Commands l ∷ s) (spell_act a r) ≡ run (Commands l ∷ s) r
run_act (bit_stored c n) l s r = refl
run_act (word_stored c n) l s r = refl
run_act (switched c on) l s r = refl
run_act (called n) l s r = refl

run_test : (t : Test) (l : Block) (s : List Want) (r : List Kind) → run (Commands l ∷ s) (spell_test t r) ≡ run (Commands (Inside Then) ∷ Commands l ∷ s) r
run_test (bit_tested c n) l s r = refl
run_test (compared o (with_number v)) l s r = refl
run_test (compared o (with_word c n)) l s r = refl

mutual
  run_command : (c : Command) (l : Block) (s : List Want) (r : List Kind) → run (Commands l ∷ s) (spell_command c r) ≡ run (Commands l ∷ s) r
  run_command (loading x) l s r = run_first x l s r
  run_command (applying o x) l s r = run_operand x (Commands l ∷ s) r
  run_command (acting a) l s r = run_act a l s r
  run_command (choosing t a b) l s r =
      run_test t l s (spell_cmds a (spell_alternative b (end_of_condition ∷ r)))
      ∙ run_cmds a (Inside Then) (Commands l ∷ s) (spell_alternative b (end_of_condition ∷ r))
      ∙ run_alternative b (Commands l ∷ s) r

  run_cmds : (cs : Cmds) (l : Block) (s : List Want) (r : List Kind) → run (Commands l ∷ s) (spell_cmds cs r) ≡ run (Commands l ∷ s) r
  run_cmds done l s r = refl
  run_cmds (and_then c cs) l s r = run_command c l s (spell_cmds cs r) ∙ run_cmds cs l s r

  run_alternative : (b : Alternative) (s : List Want) (r : List Kind) → run (Commands (Inside Then) ∷ s) (spell_alternative b (end_of_condition ∷ r)) ≡ run s r
  run_alternative no_else s r = refl
  run_alternative (else_do cs) s r = run_cmds cs (Inside Otherwise) s (end_of_condition ∷ r)

run_end : (e : Ending) (s : List Want) (r : List Kind) → run (Commands (Body e) ∷ s) (ender e ∷ r) ≡ run s r
run_end Return s r = refl
run_end Level0 s r = refl
run_end Level1 s r = refl

pub complete : (ms : List Module) → run start (spell ms) ≡ Some start
complete [] = refl
complete (module_of n cs ∷ ms) =
    run_cmds cs (Body (ending n)) start (closing n ∷ spell ms)
    ∙ ap (λ k. run (Commands (Body (ending n)) ∷ start) (k ∷ spell ms)) (ends_so n)
    ∙ run_end (ending n) start (spell ms)
    ∙ complete ms

-- 2. what it goes through is what a tree spells
back_step : (s : List Want) (k : Kind) (ks : List Kind) (s' : List Want) (f : Forest s')
    → ((v : List Want) → run v ks ≡ Some s' → (g : Forest v) × (spell_forest v g ≡ ks ++ spell_forest s' f))
    → run s (k ∷ ks) ≡ Some s' → (g : Forest s) × (spell_forest s g ≡ k ∷ (ks ++ spell_forest s' f))
back_step [] k ks s' f ih e = cc
back_step (w ∷ s) k ks s' f ih e = go (move_of w k) (entry w k) e
  where
    go : (o : Option Move) → Entry w k o → then_run (moved o w s) (λ v. run v ks) ≡ Some s'
        → (g : Forest (w ∷ s)) × (spell_forest (w ∷ s) g ≡ k ∷ (ks ++ spell_forest s' f))
    go None x d = cc
    go (Some m) x d =
        let later = ih (applied m w s) d in
        let here = x.2 s later.0 in
        (here.0, here.1 ∙ ap (λ l. k ∷ l) later.1)

pub back : (s : List Want) (ks : List Kind) (s' : List Want) (f : Forest s') → run s ks ≡ Some s' → (g : Forest s) × (spell_forest s g ≡ ks ++ spell_forest s' f)
back s [] s' f e = subst (λ v. (g : Forest v) × (spell_forest v g ≡ spell_forest s' f)) (let q : s' ≡ s = cc in q) (f, refl)
back s (k ∷ ks) s' f e = back_step s k ks s' f (λ v. back v ks s' f) e

-- 3. each stack can be finished
some_tail : (l : Block) → Tail l
some_tail (Body e) = tt
some_tail (Inside Then) = no_else
some_tail (Inside Otherwise) = tt

some_tree : (w : Want) → Tree w
some_tree Modules = []
some_tree (Commands l) = (done, some_tail l)
some_tree (Pending First) = number_loaded 0
some_tree Rest = no_more
some_tree (Pending Operand!) = number_taken 0
some_tree (Pending Comparand!) = with_number 0

some_forest : (s : List Want) → Forest s
some_forest [] = tt
some_forest (w ∷ s) = (some_tree w, some_forest s)

pub run_append : (s : List Want) (xs ys : List Kind) → run s (xs ++ ys) ≡ then_run (run s xs) (λ v. run v ys)
run_append s [] ys = refl
run_append s (k ∷ xs) ys = go (step s k) (λ v. run_append v xs ys)
  where
    go : (o : Option (List Want)) → ((v : List Want) → run v (xs ++ ys) ≡ then_run (run v xs) (λ v'. run v' ys))
        → then_run o (λ v. run v (xs ++ ys)) ≡ then_run (then_run o (λ v. run v xs)) (λ v. run v ys)
    go None ih = refl
    go (Some v) ih = ih v

-- 4. what a run says of the text
pub text_of_run : (ks : List Kind) → run start ks ≡ Some start → Text ks
text_of_run ks e = let b = back start ks start ([], tt) e in (b.0.0, b.1 ∙ append-nil ks)

pub run_of_text : (ks : List Kind) → Text ks → run start ks ≡ Some start
run_of_text ks x = subst (λ l. run start l ≡ Some start) x.1 (complete x.0)

pub begins_of_run : (ks : List Kind) (s : List Want) → run start ks ≡ Some s → Begins ks
begins_of_run ks s e =
    let f = some_forest s in
    let b = back start ks s f e in
    (spell_forest s f, (b.0.0, b.1))

pub run_of_begins : (ks : List Kind) → run start ks ≡ None → Begins ks → ⊥
run_of_begins ks e x =
    let h = run_of_text (ks ++ x.0) x.1 in
    let k = run_append start ks x.0 in
    cc
