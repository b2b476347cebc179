-- From what is read and parsed to the verdict on a text. Assumes nothing.
use Rattle.std.proofs.Common.{◌≡◌, ℕ, List, map, length, take, drop, Ok, Err, sym, ap, ◌∙◌, subst, arith}
use Rattle.std.proofs.lemmas.List.{take_all, get_or-map, get_or_past, length-map}
use Rattle.faults.specs.declared.Place.{Place}
use Rattle.tokens.specs.Tokens.{Kind}
use Rattle.scanning.specs.Text.{start, walk}
use Rattle.reading.specs.declared.Placed.{Placed}
use Rattle.reading.specs.declared.ReadFault.{ReadFault}
use Rattle.reading.specs.Items.{Item, item, blank_item, Left}
use Rattle.reading.specs.Verdict.{Verdict as Read}
use Rattle.reading.proofs.Verdicts.{one_verdict as one_reading}
use Rattle.grammar.specs.declared.GrammarFault.{GrammarFault}
use Rattle.grammar.specs.declared.GrammarFault.TheVariants.{Reading, Unexpected, TooDeep}
use Rattle.grammar.specs.declared.table.Want.{Want}
use Rattle.grammar.specs.declared.table.Want.TheVariants.{Modules}
use Rattle.grammar.specs.Limits.{begun_modules}
use Rattle.grammar.specs.Parsing.{State, wants_of, head_of, Sofar, AtFault, Parsed}
use Rattle.grammar.specs.Verdict.{item_kind, kinds, Refused, Verdict, Holds, MemoryAfter}
use Rattle.grammar.proofs.Counts.{modules_counted}
use Rattle.grammar.proofs.Nesting.{limits_agree, stack_suffices}
use Rattle.grammar.proofs.Trees.{one_tree}
use Rattle.grammar.proofs.Verdicts.{one_verdict}
use Rattle.grammar.proofs.Turns.{whole, cut_short}

-- the theorems that hold of each text
pub ruleset theorems = (one_verdict, one_tree, limits_agree, stack_suffices)

-- memory
pub kept : (text : List ℕ) (new old : List Placed) (e : ReadFault) → Read text (Err e) → new ≡ old → MemoryAfter text new old
kept text new old e v same r w = subst (Holds new old) (one_reading text (Err e) r v w) same

pub filled : (text : List ℕ) (new old : List Placed) (n : ℕ) → Read text (Ok (map item (take n new))) → Left new old (Ok n) → MemoryAfter text new old
filled text new old n v left r w =
    let ts = map item (take n new) in
    let long : length ts ≡ n = length-map (take n new) item ∙ sym left.0 in
    let front : map item (take (length ts) new) ≡ ts = ap (λ k. map item (take k new)) long in
    let rest : drop (length ts) new ≡ drop (length ts) old = ap (λ k. drop k new) long ∙ left.1 ∙ sym (ap (λ k. drop k old) long) in
    subst (Holds new old) (one_reading text (Ok ts) r v w) (front, rest)

module _ (text : List ℕ) (ts : List Item) (read : Read text (Ok ts)) where
  -- a token at fault
  at_token : {F : List Kind → ℕ → Type 0} (p : Place) → AtFault F ts p → Refused F text p
  at_token p f = record {
    tokens = ts;
    index = f.index;
    read = read;
    fault = f.fault;
    place = f.place ∙ sym (get_or-map (λ (t : Item). t.place) ts f.index blank_item (walk start text) f.inside);
  }

  pub fault_verdict : (e : GrammarFault) → Parsed ts (Err e) → Verdict text (Err e)
  fault_verdict (Reading e) f = absurd f
  fault_verdict (Unexpected p) f = at_token p f
  fault_verdict (TooDeep p) f = at_token p f

  module _ (st : State) (h : Sofar (kinds ts) (length ts) st) where
    pub whole_verdict : (n m : ℕ) → length ts ≡ n → m ≡ st.modules → Modules ≡ head_of (wants_of st) → Verdict text (Ok (record { tokens = n; modules = m }))
    whole_verdict n m long begun e =
        let w = whole ts st h (sym e) in
        let all = take_all (length ts) (kinds ts) (omega (arith, length-map ts item_kind)) in
        record {
          tokens = ts;
          modules = w.0.0;
          read = read;
          spelled = w.0.1;
          within = w.1;
          token_count = sym long;
          module_count = begun ∙ h.modules ∙ ap begun_modules (all ∙ sym w.0.1) ∙ modules_counted w.0.0;
        }

    pub end_verdict : (p : Place) → p ≡ walk start text → (w : Want) → w ≡ head_of (wants_of st) → (w ≡ Modules → ⊥) → Verdict text (Err (Unexpected p))
    end_verdict p e w due ne = record {
      tokens = ts;
      index = length ts;
      read = read;
      fault = cut_short ts st h (λ q. ne (due ∙ q));
      place = e ∙ sym (get_or_past (map (λ (t : Item). t.place) ts) (length ts) (walk start text) (omega (arith, length-map ts (λ (t : Item). t.place))));
    }
