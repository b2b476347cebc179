-- A text has one verdict. Assumes nothing.
use Rattle.std.proofs.Common.{◌≡◌, ℕ, zero, suc, ◌⊎◌, List, [], ◌∷◌, length, Some, None, Ok, Err, Option, Result, sym, refl, ap, ◌∙◌, subst, inl, inr, arith}
use Rattle.faults.specs.declared.Place.{Place}
use Rattle.reading.specs.declared.ReadFault.{ReadFault}
use Rattle.reading.specs.Items.{Item}
use Rattle.reading.specs.Verdict.{Verdict as Read}
use Rattle.reading.proofs.Verdicts.{one_verdict as one_reading}
use Rattle.grammar.specs.declared.GrammarFault.{GrammarFault}
use Rattle.grammar.specs.declared.Shape.{Shape}
use Rattle.grammar.specs.Grammar.{Module}
use Rattle.grammar.specs.Verdict.{kinds, place_at, Verdict as Parsed}
use Rattle.grammar.proofs.Trees.{one_tree}
use Rattle.grammar.proofs.Verdicts.{one_verdict as one_parsing}
use Rattle.meaning.specs.Figure.{figure}
use Rattle.rules.specs.Findings.{NoneAt, First}
use Rattle.rules.proofs.Unique.{one_finding}
use Rattle.linking.specs.declared.LinkFault.{LinkFault}
use Rattle.linking.specs.declared.LinkFault.TheVariants.{Grammar, Repeated, Unlinked, Misplaced, Clashing, Overweight}
use Rattle.linking.specs.declared.figures.Figures.{Figures}
use Rattle.linking.specs.Faults.{fault_of}
use Rattle.linking.specs.Order.{NoneBroken, FirstBroken}
use Rattle.linking.specs.Rules.{rules, token_rules}
use Rattle.linking.specs.Verdict.{Written, Accepted, Broken, Verdict, OneVerdict}
use Rattle.linking.specs.Judging.{FaultAt}

-- ---- rules in an order: what they say of a text is one thing
-- which rule is broken first, and where
pub record Break : Type 0 where
  pub rule : ℕ
  pub index : ℕ

abbrev Says : List (ℕ → Type 0) → Option Break → Type 0
Says Rs None = NoneBroken Rs
Says Rs (Some b) = FirstBroken Rs b.rule b.index

some_is : {A : Type 0} (a b : A) → Some a ≡ Some b → a ≡ b
some_is a b e = cc

one_rule : (P : ℕ → Type 0) (i j : ℕ) → First P i → First P j → i ≡ j
one_rule P i j p q = some_is i j (one_finding P (Some i) (Some j) p q)

never : (P : ℕ → Type 0) (i : ℕ) → NoneAt P → First P i → ⊥
never P i n p = n i p.0

one_break : (Rs : List (ℕ → Type 0)) (n m i j : ℕ) → FirstBroken Rs n i → FirstBroken Rs m j → (n ≡ m) × (i ≡ j)
one_break [] n m i j p q = absurd p
one_break (R ∷ Rs) zero zero i j p q = (refl, one_rule R i j p q)
one_break (R ∷ Rs) zero (suc m) i j p q = absurd (never R i q.0 p)
one_break (R ∷ Rs) (suc n) zero i j p q = absurd (never R j p.0 q)
one_break (R ∷ Rs) (suc n) (suc m) i j p q = let e = one_break Rs n m i j p.1 q.1 in (ap (λ k. suc k) e.0, e.1)

none_or_break : (Rs : List (ℕ → Type 0)) (n i : ℕ) → NoneBroken Rs → FirstBroken Rs n i → ⊥
none_or_break [] n i p q = q
none_or_break (R ∷ Rs) zero i p q = never R i p.0 q
none_or_break (R ∷ Rs) (suc n) i p q = none_or_break Rs n i p.1 q.1

one_saying : (Rs : List (ℕ → Type 0)) (a b : Option Break) → Says Rs a → Says Rs b → a ≡ b
one_saying Rs None None p q = refl
one_saying Rs None (Some b) p q = absurd (none_or_break Rs b.rule b.index p q)
one_saying Rs (Some a) None p q = absurd (none_or_break Rs a.rule a.index q p)
one_saying Rs (Some a) (Some b) p q = let e = one_break Rs a.rule b.rule a.index b.index p q in λ j. Some (record { rule = e.0 j; index = e.1 j })

-- ---- a verdict by what the rules say
abbrev concluded : List ℕ → List Item → List Module → Option Break → Result Figures LinkFault
concluded text ts ms None = Ok (record { quick = figure ms 1; slow = figure ms 0 })
concluded text ts ms (Some b) = Err (fault_of b.rule (place_at text ts b.index))

-- the text is a list, and the answer is what the rules say of it; or it is none, and the answer is the grammar's
pub record LinkedBy (text : List ℕ) (a : Result Figures LinkFault) : Type 0 where
  pub tokens : List Item
  pub modules : List Module
  pub written : Written text tokens modules
  pub saying : Option Break
  pub says : Says (rules (kinds tokens) modules) saying
  pub answer : a ≡ concluded text tokens modules saying

pub record ParsedBy (text : List ℕ) (a : Result Figures LinkFault) : Type 0 where
  pub reason : GrammarFault
  pub parsed : Parsed text (Err reason)
  pub answer : a ≡ Err (Grammar reason)

broken_by : (n : ℕ) (text : List ℕ) (p : Place) → Broken n text p → LinkedBy text (Err (fault_of n p))
broken_by n text p h = record {
  tokens = h.tokens;
  modules = h.modules;
  written = h.written;
  saying = Some (record { rule = n; index = h.index });
  says = h.broken;
  answer = ap (λ q. Err (fault_of n q)) h.place;
}

figures_are : (f : Figures) (q s : ℕ) → f.quick ≡ q → f.slow ≡ s → f ≡ record { quick = q; slow = s }
figures_are f q s e g = λ j. record { quick = e j; slow = g j }

by : (text : List ℕ) (a : Result Figures LinkFault) → Verdict text a → LinkedBy text a ⊎ ParsedBy text a
by text (Ok f) (ms, h) = inl (record { tokens = h.tokens; modules = ms; written = h.written; saying = None; says = h.lawful; answer = ap Ok (figures_are f (figure ms 1) (figure ms 0) h.quick h.slow) })
by text (Err (Grammar e)) h = inr (record { reason = e; parsed = h; answer = refl })
by text (Err (Repeated p)) h = inl (broken_by 0 text p h)
by text (Err (Unlinked p)) h = inl (broken_by 1 text p h)
by text (Err (Misplaced p)) h = inl (broken_by 2 text p h)
by text (Err (Clashing p)) h = inl (broken_by 3 text p h)
by text (Err (Overweight p)) h = inl (broken_by 4 text p h)

-- ---- a text that is a list is one in one way, and the grammar accepts it
ok_is : {A : Type 0} {E : Type 0} (a b : A) → ◌≡◌ {A = Result A E} (Ok a) (Ok b) → a ≡ b
ok_is a b e = cc

err_is : {A : Type 0} {E : Type 0} (a b : E) → ◌≡◌ {A = Result A E} (Err a) (Err b) → a ≡ b
err_is a b e = cc

same_tokens : (text : List ℕ) (ts us : List Item) → Read text (Ok ts) → Read text (Ok us) → ts ≡ us
same_tokens text ts us p q = ok_is {E = ReadFault} ts us (one_reading text (Ok ts) (Ok us) p q)

parsed_so : (text : List ℕ) (ts : List Item) (ms : List Module) → Written text ts ms → Parsed text (Ok (record { tokens = length ts; modules = length ms }))
parsed_so text ts ms w = record { tokens = ts; modules = ms; read = w.read; spelled = w.spelled; within = w.within; token_count = refl; module_count = refl }

not_both : (text : List ℕ) (ts : List Item) (ms : List Module) (e : GrammarFault) → Written text ts ms → Parsed text (Err e) → ⊥
not_both text ts ms e w p =
    let q : ◌≡◌ {A = Result Shape GrammarFault} (Ok (record { tokens = length ts; modules = length ms })) (Err e) = one_parsing text (Ok (record { tokens = length ts; modules = length ms })) (Err e) (parsed_so text ts ms w) p in
    let z : ◌≡◌ {A = ℕ} 0 1 = cc in omega arith

same_modules : (text : List ℕ) (ts us : List Item) (ms ns : List Module) → ts ≡ us → Written text ts ms → Written text us ns → ms ≡ ns
same_modules text ts us ms ns e p q = one_tree ms ns (p.spelled ∙ ap kinds e ∙ sym q.spelled)

both_linked : (text : List ℕ) (a b : Result Figures LinkFault) → LinkedBy text a → LinkedBy text b → a ≡ b
both_linked text a b p q =
    let e = same_tokens text p.tokens q.tokens p.written.read q.written.read in
    let f = same_modules text p.tokens q.tokens p.modules q.modules e p.written q.written in
    let s = subst (λ (ns : List Module). Says (rules (kinds q.tokens) ns) p.saying) f (subst (λ (us : List Item). Says (rules (kinds us) p.modules) p.saying) e p.says) in
    let g = one_saying (rules (kinds q.tokens) q.modules) p.saying q.saying s q.says in
    p.answer ∙ (λ j. concluded text (e j) (f j) (g j)) ∙ sym q.answer

one_by : (text : List ℕ) (a b : Result Figures LinkFault) → LinkedBy text a ⊎ ParsedBy text a → LinkedBy text b ⊎ ParsedBy text b → a ≡ b
one_by text a b (inl p) (inl q) = both_linked text a b p q
one_by text a b (inl p) (inr q) = absurd (not_both text p.tokens p.modules q.reason p.written q.parsed)
one_by text a b (inr p) (inl q) = absurd (not_both text q.tokens q.modules p.reason q.written p.parsed)
one_by text a b (inr p) (inr q) =
    p.answer ∙ ap (λ e. Err (Grammar e)) (err_is {A = Shape} p.reason q.reason (one_parsing text (Err p.reason) (Err q.reason) p.parsed q.parsed)) ∙ sym q.answer

pub one_verdict : (text : List ℕ) → OneVerdict text
one_verdict text a b p q = one_by text a b (by text a p) (by text b q)

-- the modules of an accepted text are one list
pub one_list : (text : List ℕ) (ms ns : List Module) (f g : Figures) → Accepted text ms f → Accepted text ns g → ms ≡ ns
one_list text ms ns f g p q = same_modules text p.tokens q.tokens ms ns (same_tokens text p.tokens q.tokens p.written.read q.written.read) p.written q.written

-- ---- from what the parts of compiling answer
broken_of : (text : List ℕ) (ts : List Item) (ms : List Module) (n i : ℕ) → Written text ts ms → FirstBroken (rules (kinds ts) ms) n i → Broken n text (place_at text ts i)
broken_of text ts ms n i w b = record { tokens = ts; modules = ms; index = i; written = w; broken = b; place = refl }

verdict_at : (text : List ℕ) (ts : List Item) (ms : List Module) (n i : ℕ) → Written text ts ms → FirstBroken (token_rules (kinds ts)) n i → Verdict text (Err (fault_of n (place_at text ts i)))
verdict_at text ts ms zero i w b = broken_of text ts ms 0 i w b
verdict_at text ts ms (suc zero) i w b = broken_of text ts ms 1 i w b
verdict_at text ts ms (suc (suc zero)) i w b = broken_of text ts ms 2 i w b
verdict_at text ts ms (suc (suc (suc zero))) i w b = broken_of text ts ms 3 i w b
verdict_at text ts ms (suc (suc (suc (suc n)))) i w b = absurd b.1.1.1.1

pub token_fault : (text : List ℕ) (ts : List Item) (ms : List Module) (e : LinkFault) → Written text ts ms → FaultAt (token_rules (kinds ts)) text ts e → Verdict text (Err e)
token_fault text ts ms e w h = subst (λ (x : LinkFault). Verdict text (Err x)) (sym h.fault) (verdict_at text ts ms h.rule h.index w h.broken)
