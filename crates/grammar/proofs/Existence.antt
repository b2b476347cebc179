-- Each text has a verdict. Assumes nothing.
use Rattle.std.proofs.Common.{◌≡◌, ℕ, zero, suc, ◌+◌, ◌<◌, Bool, true, false, List, length, get_or, Some, None, Ok, Err, Option, Result, refl, subst, arith}
use Rattle.scanning.specs.Text.{start, walk}
use Rattle.tokens.specs.Tokens.{bracket_opens}
use Rattle.reading.specs.declared.ReadFault.{ReadFault}
use Rattle.reading.specs.Items.{Item, blank_item, read_of}
use Rattle.reading.specs.Verdict.{Verdict as Read}
use Rattle.reading.proofs.Verdicts.{verdict_of as reading_verdict}
use Rattle.grammar.specs.declared.GrammarFault.{GrammarFault}
use Rattle.grammar.specs.declared.GrammarFault.TheVariants.{Reading, Unexpected, TooDeep}
use Rattle.grammar.specs.declared.Shape.{Shape}
use Rattle.grammar.specs.declared.table.Want.{Want}
use Rattle.grammar.specs.declared.table.Want.TheVariants.{Modules, Commands, Pending, Rest}
use Rattle.grammar.specs.declared.table.Move.{Move}
use Rattle.grammar.specs.Machine.{move_of}
use Rattle.grammar.specs.Parsing.{State, wants_of, head_of, fresh, state_after, has_room, Sofar}
use Rattle.grammar.specs.Verdict.{kinds, Verdict}
use Rattle.grammar.proofs.Turns.{none_yet, stuck, too_many, next}
use Rattle.grammar.proofs.Verdicts.{one_verdict}
use Rattle.grammar.proofs.Whole.{fault_verdict, whole_verdict, end_verdict}

abbrev Judged : List ℕ → Type 0
Judged text = (r : Result Shape GrammarFault) × Verdict text r

module _ (text : List ℕ) (ts : List Item) (read : Read text (Ok ts)) where
  -- the end of the tokens
  ended : (st : State) → Sofar (kinds ts) (length ts) st → (w : Want) → w ≡ head_of (wants_of st) → Judged text
  ended st h Modules e = (Ok (record { tokens = length ts; modules = st.modules }), whole_verdict text ts read st h (length ts) st.modules refl refl e)
  ended st h (Commands l) e = (Err (Unexpected (walk start text)), end_verdict text ts read st h (walk start text) refl _ e (λ q. cc))
  ended st h (Pending p) e = (Err (Unexpected (walk start text)), end_verdict text ts read st h (walk start text) refl _ e (λ q. cc))
  ended st h Rest e = (Err (Unexpected (walk start text)), end_verdict text ts read st h (walk start text) refl _ e (λ q. cc))

  module _ (i : ℕ) (st : State) (h : Sofar (kinds ts) i st) (lt : i < length ts)
      (onward : (st' : State) → Sofar (kinds ts) (i + 1) st' → Judged text) where
    -- a move, with room for it or without
    moving : (m : Move) → move_of (head_of (wants_of st)) (get_or (kinds ts) i bracket_opens) ≡ Some m → (b : Bool) → has_room m st ≡ b → Judged text
    moving m e true q = onward (state_after m st) (next ts i st h lt m e q)
    moving m e false q =
        let p = (get_or ts i blank_item).place in
        (Err (TooDeep p), fault_verdict text ts read (TooDeep p) (record { index = i; inside = lt; fault = too_many ts i st h lt m e q; place = refl }))

    turned : (o : Option Move) → move_of (head_of (wants_of st)) (get_or (kinds ts) i bracket_opens) ≡ o → Judged text
    turned None e =
        let p = (get_or ts i blank_item).place in
        (Err (Unexpected p), fault_verdict text ts read (Unexpected p) (record { index = i; inside = lt; fault = stuck ts i st h lt e; place = refl }))
    turned (Some m) e = moving m e (has_room m st) refl

  gone_on : (n i : ℕ) → i + n ≡ length ts → (st : State) → Sofar (kinds ts) i st → Judged text
  gone_on zero i e st h = ended st (subst (λ k. Sofar (kinds ts) k st) (let q : i ≡ length ts = omega arith in q) h) _ refl
  gone_on (suc n) i e st h = turned i st h (omega arith) (gone_on n (i + 1) (omega arith)) _ refl

judged : (text : List ℕ) (r : Result (List Item) ReadFault) → Read text r → Judged text
judged text (Ok ts) v = gone_on text ts v (length ts) 0 (omega arith) fresh (none_yet (kinds ts))
judged text (Err e) v = (Err (Reading e), v)

-- the answer that the rules give for a text
pub answer_of : List ℕ → Result Shape GrammarFault
answer_of text = (judged text (read_of text) (reading_verdict text)).0

pub verdict_of : (text : List ℕ) → Verdict text (answer_of text)
unfolding answer_of
verdict_of text = (judged text (read_of text) (reading_verdict text)).1

pub only_verdict : (text : List ℕ) (a : Result Shape GrammarFault) → Verdict text a → a ≡ answer_of text
only_verdict text a v = one_verdict text a (answer_of text) v (verdict_of text)
