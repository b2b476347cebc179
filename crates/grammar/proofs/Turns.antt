-- What one turn of the parser's loop keeps, and what its end says. Assumes nothing.
use Rattle.std.proofs.Common.{◌≡◌, ℕ, ◌+◌, ◌<◌, true, false, List, [], ◌∷◌, length, get_or, take, map, Some, None, Option, sym, refl, ap, ◌∙◌, subst, arith, below_more}
use borrow.Author.Tests.{both_ways}
use Rattle.std.proofs.lemmas.List.{take_more, take_all, get_or-map, length-map}
use Rattle.tokens.specs.Tokens.{Kind, bracket_opens, lexeme}
use Rattle.reading.specs.declared.Placed.{Placed}
use Rattle.reading.specs.Items.{Item, item, blank_item}
use Rattle.grammar.specs.declared.table.Want.{Want}
use Rattle.grammar.specs.declared.table.Want.TheVariants.{Modules}
use Rattle.grammar.specs.declared.table.Move.{Move}
use Rattle.grammar.specs.Grammar.{Text, Begins}
use Rattle.grammar.specs.Limits.{role, brackets_after, conditions_after, modules_after, open_brackets, open_conditions, begun_modules, room_for, WithinLimits}
use Rattle.grammar.specs.Machine.{move_of, applied, moved, run, then_run, start, Entry}
use Rattle.grammar.specs.Parsing.{State, wants_of, head_of, tail_from, fresh, state_after, has_room, Ready, Sofar}
use Rattle.grammar.specs.Verdict.{item_kind, kinds, Stops, Exceeds}
use Rattle.grammar.proofs.Tables.{entry, run_append, text_of_run, run_of_text, begins_of_run, run_of_begins}
use Rattle.grammar.proofs.Nesting.{counted_more}
use Rattle.grammar.proofs.Acts.{acts, at_start, has_top}

pub none_yet : (ks : List Kind) → Sofar ks 0 fresh
none_yet ks = record { ran = refl; brackets = refl; conditions = refl; modules = refl; clear = λ k h. absurd (omega arith) }

module _ (ts : List Item) (i : ℕ) (st : State) (h : Sofar (kinds ts) i st) (lt : i < length ts) where
  abbrev ks : List Kind
  ks = kinds ts

  -- the token that is read, and what is due
  abbrev tok : Kind
  tok = get_or ks i bracket_opens

  abbrev due : Want
  due = head_of (wants_of st)

  abbrev later : List Want
  later = tail_from (wants_of st)

  lt' : i < length ks
  lt' = omega (arith, length-map ts item_kind)

  run_next : run start (take (i + 1) ks) ≡ moved (move_of due tok) due later
  run_next =
      ap (run start) (take_more ks i bracket_opens lt')
      ∙ run_append start (take i ks) (tok ∷ [])
      ∙ ap (λ o. then_run o (λ v. run v (tok ∷ []))) h.ran
      ∙ ap (λ s. run s (tok ∷ [])) (has_top st.pending st.brackets st.conditions st.body)
      ∙ last (moved (move_of due tok) due later)
    where
      last : (o : Option (List Want)) → then_run o (λ v. Some v) ≡ o
      last None = refl
      last (Some v) = refl

  -- no text goes on with the token
  pub stuck : move_of due tok ≡ None → Stops ks i
  stuck e = record {
    within = omega (arith, lt');
    clear = h.clear;
    begins = begins_of_run (take i ks) (wants_of st) h.ran;
    no_further = λ _ x. run_of_begins (take (i + 1) ks) (run_next ∙ ap (λ o. moved o due later) e) x;
    no_text = λ q. absurd (omega (arith, lt'));
  }

  module _ (m : Move) (e : move_of due tok ≡ Some m) where
    known : Entry due tok (Some m)
    known = subst (Entry due tok) e (entry due tok)

    goes : run start (take (i + 1) ks) ≡ Some (applied m due later)
    goes = run_next ∙ ap (λ o. moved o due later) e

    same_room : has_room m st ≡ room_for (role tok) (open_brackets (take i ks)) (open_conditions (take i ks)) (begun_modules (take i ks))
    same_room = λ j. room_for (known.1 j) (h.brackets j) (h.conditions j) (h.modules j)

    pub ready : Ready m st.brackets
    ready = (acts st.pending st.brackets st.conditions st.body known.0).1

    pub too_many : has_room m st ≡ false → Exceeds ks i
    too_many x = record { within = lt'; clear = h.clear; begins = begins_of_run (take (i + 1) ks) _ goes; over = sym same_room ∙ x }

    pub next : has_room m st ≡ true → Sofar ks (i + 1) (state_after m st)
    next fits = record {
      ran = goes ∙ ap Some (sym (acts st.pending st.brackets st.conditions st.body known.0).0);
      brackets = (λ j. brackets_after (known.1 j) (h.brackets j)) ∙ sym (counted_more brackets_after ks i lt');
      conditions = (acts st.pending st.brackets st.conditions st.body known.0).2 ∙ (λ j. conditions_after (known.1 j) (h.conditions j)) ∙ sym (counted_more conditions_after ks i lt');
      modules = (λ j. modules_after (known.1 j) (h.modules j)) ∙ sym (counted_more modules_after ks i lt');
      clear = below_more _ _ h.clear (λ x. both_ways _ x (sym same_room ∙ fits));
    }

-- the end of the tokens
pub whole : (ts : List Item) (st : State) → Sofar (kinds ts) (length ts) st → head_of (wants_of st) ≡ Modules → Text (kinds ts) × WithinLimits (kinds ts)
whole ts st h e =
    let ks = kinds ts in
    let long = length-map ts item_kind in
    (text_of_run ks (ap (run start) (sym (take_all (length ts) ks (omega (arith, long)))) ∙ h.ran ∙ ap Some (at_start st.pending st.brackets st.conditions st.body e)), λ k lt. h.clear k (omega (arith, long)))

pub cut_short : (ts : List Item) (st : State) → Sofar (kinds ts) (length ts) st → (head_of (wants_of st) ≡ Modules → ⊥) → Stops (kinds ts) (length ts)
cut_short ts st h ne =
    let ks = kinds ts in
    let long = length-map ts item_kind in
    let all = take_all (length ts) ks (omega (arith, long)) in
    let ran = ap (run start) (sym all) ∙ h.ran in
    record {
      within = omega (arith, long);
      clear = h.clear;
      begins = subst Begins (sym all) (begins_of_run ks (wants_of st) ran);
      no_further = λ lt. absurd (omega (arith, long));
      no_text = λ _ x. ne (ap head_of (some_inj _ _ (sym ran ∙ run_of_text ks x)));
    }
  where
    some_inj : (a b : List Want) → Some a ≡ Some b → a ≡ b
    some_inj a b q = cc

-- a token as it was read, and as the lemmas above have it
module _ (tokens : List Placed) (i : ℕ) (d : Placed) (lt : i < length tokens) where
  pub inside : i < length (map item tokens)
  inside = omega (arith, length-map tokens item)

  pub placed_kind : (lexeme (get_or tokens i d).token).kind ≡ get_or (kinds (map item tokens)) i bracket_opens
  placed_kind =
      ap item_kind (sym (get_or-map item tokens i d blank_item lt))
      ∙ sym (get_or-map item_kind (map item tokens) i blank_item bracket_opens inside)

  pub placed_place : (get_or tokens i d).place ≡ (get_or (map item tokens) i blank_item).place
  placed_place = ap (λ (t : Item). t.place) (sym (get_or-map item tokens i d blank_item lt))
