-- The verdict on a text is one alone. Assumes nothing.
use Rattle.std.proofs.Common.{◌≡◌, ℕ, ◌+◌, ◌<◌, ◌≤◌, List, [], ◌++◌, length, take, drop, Ok, Err, sym, ap, ◌∙◌, subst, ⊎_elim, append_assoc, append-nil, arith, take-append-drop}
use Rattle.std.proofs.lemmas.List.{take-take, take_all}
use Rattle.std.proofs.lemmas.Bool.{cases_order}
use Rattle.faults.specs.declared.Place.{Place}
use Rattle.tokens.specs.Tokens.{Kind}
use Rattle.reading.specs.declared.ReadFault.{ReadFault}
use Rattle.reading.specs.Items.{Item}
use Rattle.reading.specs.Verdict.{Verdict as Read}
use Rattle.reading.proofs.Verdicts.{one_verdict as one_reading}
use Rattle.grammar.specs.declared.GrammarFault.TheVariants.{Reading, Unexpected, TooDeep}
use Rattle.grammar.specs.declared.Shape.{Shape}
use Rattle.grammar.specs.Grammar.{Text, Begins}
use Rattle.grammar.specs.Limits.{WithinLimits}
use Rattle.grammar.specs.Verdict.{kinds, place_at, Stops, Exceeds, Accepted, Refused, OneVerdict}
use Rattle.grammar.proofs.Trees.{one_tree}

-- 1. what is one alone for a list of tokens
begins_less : (ks : List Kind) (m n : ℕ) → m ≤ n → Begins (take n ks) → Begins (take m ks)
begins_less ks m n le b =
    let y = take n ks in
    let e : take m ks ++ (drop m y ++ b.0) ≡ y ++ b.0 = ap (λ l. l ++ (drop m y ++ b.0)) (sym (take-take m n ks le)) ∙ sym (append_assoc (take m y) (drop m y) b.0) ∙ ap (λ l. l ++ b.0) (take-append-drop m y) in
    (drop m y ++ b.0, subst Text (sym e) b.1)

text_begins : (ks : List Kind) (m : ℕ) → m ≤ length ks → Text ks → Begins (take m ks)
text_begins ks m le x = begins_less ks m (length ks) le ([], subst Text (sym (ap (λ l. l ++ []) (take_all (length ks) ks (omega arith)) ∙ append-nil ks)) x)

pub not_stops : (ks : List Kind) (i : ℕ) → Text ks → Stops ks i → ⊥
not_stops ks i x h =
    ⊎_elim (λ e. h.no_text e x) (⊎_elim (λ lt. h.no_further lt (text_begins ks (i + 1) (omega arith) x)) (λ gt. omega (arith, h.within))) (cases_order i (length ks))

not_before : (ks : List Kind) (i j : ℕ) → Stops ks i → i < j → j ≤ length ks → Begins (take j ks) → ⊥
not_before ks i j h lt le b = h.no_further (omega arith) (begins_less ks (i + 1) j (omega arith) b)

pub same_stop : (ks : List Kind) (i j : ℕ) → Stops ks i → Stops ks j → i ≡ j
same_stop ks i j h k =
    ⊎_elim (λ e. e) (⊎_elim (λ lt. absurd (not_before ks i j h lt k.within k.begins)) (λ gt. absurd (not_before ks j i k gt h.within h.begins))) (cases_order i j)

pub same_excess : (ks : List Kind) (i j : ℕ) → Exceeds ks i → Exceeds ks j → i ≡ j
same_excess ks i j h k =
    ⊎_elim (λ e. e) (⊎_elim (λ lt. absurd (k.clear i lt h.over)) (λ gt. absurd (h.clear j gt k.over))) (cases_order i j)

pub never_both : (ks : List Kind) (i j : ℕ) → Stops ks i → Exceeds ks j → ⊥
never_both ks i j h k =
    let late : i < j + 1 → ⊥ = λ lt. not_before ks i (j + 1) h lt (omega (arith, k.within)) k.begins in
    ⊎_elim (λ e. late (omega arith)) (⊎_elim (λ lt. late (omega arith)) (λ gt. h.clear j gt k.over)) (cases_order i j)

not_exceeds : (ks : List Kind) (i : ℕ) → WithinLimits ks → Exceeds ks i → ⊥
not_exceeds ks i x h = x i h.within h.over

-- 2. and for a text, which is read in one way
same_tokens : (text : List ℕ) (ts us : List Item) → Read text (Ok ts) → Read text (Ok us) → ts ≡ us
same_tokens text ts us a b = let e = one_reading text (Ok ts) (Ok us) a b in (let q : ts ≡ us = cc in q)

not_both : (text : List ℕ) (ts : List Item) (e : ReadFault) → Read text (Ok ts) → Read text (Err e) → ⊥
not_both text ts e a b =
    let q = one_reading text (Ok ts) (Err e) a b in
    cc

same_shape : (text : List ℕ) (s t : Shape) → Accepted text s → Accepted text t → s ≡ t
same_shape text s t a b =
    let ts = same_tokens text a.tokens b.tokens a.read b.read in
    let ms = one_tree a.modules b.modules (a.spelled ∙ ap kinds ts ∙ sym b.spelled) in
    let p = a.token_count ∙ ap length ts ∙ sym b.token_count in
    let q = a.module_count ∙ ap length ms ∙ sym b.module_count in
    λ i. record { tokens = p i; modules = q i }

module _ (text : List ℕ) {F G : List Kind → ℕ → Type 0} (p q : Place) (a : Refused F text p) (b : Refused G text q) where
  -- both faults are faults of the same tokens
  moved : G (kinds a.tokens) b.index
  moved = subst (λ ts. G (kinds ts) b.index) (sym (same_tokens text a.tokens b.tokens a.read b.read)) b.fault

  same_place : a.index ≡ b.index → p ≡ q
  same_place e = a.place ∙ (λ i. place_at text (same_tokens text a.tokens b.tokens a.read b.read i) (e i)) ∙ sym b.place

no_fault : (text : List ℕ) {F : List Kind → ℕ → Type 0} (s : Shape) (p : Place) → ((ks : List Kind) (i : ℕ) → Text ks → WithinLimits ks → F ks i → ⊥) → Accepted text s → Refused F text p → ⊥
no_fault text {F} s p never a b =
    let ts = same_tokens text a.tokens b.tokens a.read b.read in
    never (kinds a.tokens) b.index (a.modules, a.spelled) a.within (subst (λ us. F (kinds us) b.index) (sym ts) b.fault)

pub one_verdict : (text : List ℕ) → OneVerdict text
one_verdict text (Ok s) (Ok t) a b = ap Ok (same_shape text s t a b)
one_verdict text (Ok s) (Err (Reading e)) a b = absurd (not_both text a.tokens e a.read b)
one_verdict text (Ok s) (Err (Unexpected p)) a b = absurd (no_fault text s p (λ ks i x w h. not_stops ks i x h) a b)
one_verdict text (Ok s) (Err (TooDeep p)) a b = absurd (no_fault text s p (λ ks i x w h. not_exceeds ks i w h) a b)
one_verdict text (Err (Reading e)) (Ok t) a b = absurd (not_both text b.tokens e b.read a)
one_verdict text (Err (Reading e)) (Err (Reading d)) a b = let q = one_reading text (Err e) (Err d) a b in ap (λ x. Err (Reading x)) (let r : e ≡ d = cc in r)
one_verdict text (Err (Reading e)) (Err (Unexpected p)) a b = absurd (not_both text b.tokens e b.read a)
one_verdict text (Err (Reading e)) (Err (TooDeep p)) a b = absurd (not_both text b.tokens e b.read a)
one_verdict text (Err (Unexpected p)) (Ok t) a b = absurd (no_fault text t p (λ ks i x w h. not_stops ks i x h) b a)
one_verdict text (Err (Unexpected p)) (Err (Reading e)) a b = absurd (not_both text a.tokens e a.read b)
one_verdict text (Err (Unexpected p)) (Err (Unexpected q)) a b = ap (λ x. Err (Unexpected x)) (same_place text p q a b (same_stop (kinds a.tokens) a.index b.index a.fault (moved text p q a b)))
one_verdict text (Err (Unexpected p)) (Err (TooDeep q)) a b = absurd (never_both (kinds a.tokens) a.index b.index a.fault (moved text p q a b))
one_verdict text (Err (TooDeep p)) (Ok t) a b = absurd (no_fault text t p (λ ks i x w h. not_exceeds ks i w h) b a)
one_verdict text (Err (TooDeep p)) (Err (Reading e)) a b = absurd (not_both text a.tokens e a.read b)
one_verdict text (Err (TooDeep p)) (Err (Unexpected q)) a b = absurd (never_both (kinds a.tokens) b.index a.index (moved text p q a b) a.fault)
one_verdict text (Err (TooDeep p)) (Err (TooDeep q)) a b = ap (λ x. Err (TooDeep x)) (same_place text p q a b (same_excess (kinds a.tokens) a.index b.index a.fault (moved text p q a b)))
