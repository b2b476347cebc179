-- The list of the worked run is accepted, with figures 4 and 5; the empty text is refused. Assumes nothing.
use Rattle.std.proofs.Common.{◌≡◌, ℕ, zero, suc, ◌<◌, true, false, List, [], ◌∷◌, Some, Ok, codes, Result, sym, refl, ◌∙◌, subst, inl, inr, arith}
use Rattle.scanning.specs.Text.{start}
use Rattle.tokens.specs.declared.Area.TheVariants.{Input, Output, Internal}
use Rattle.tokens.specs.declared.WordCell.TheVariants.{Pair}
use Rattle.tokens.specs.declared.Operator.TheVariants.{Add}
use Rattle.tokens.specs.Numbers.{value_of, number_of}
use Rattle.tokens.specs.Cells.{bit_cell_in, bit_of, word_of, word_like, switched_of}
use Rattle.tokens.specs.Tokens.{Kind, bracket_opens, load_word, store_word, switch, test, operator, otherwise, end_of_condition, end_of_level, label, call, mark_of, load_of, store_of, not_of, plain_of, kind_of}
use Rattle.reading.specs.declared.ReadFault.{ReadFault}
use Rattle.reading.specs.Items.{Item, read_of}
use Rattle.reading.specs.Verdict.{Verdict as Read}
use Rattle.reading.proofs.Verdicts.{verdict_of}
use Rattle.grammar.proofs.Nesting.{limits_agree}
use Rattle.meaning.specs.Example.{two_levels}
use Rattle.rules.specs.Findings.{NoneAt}
use Rattle.rules.specs.Labels.{kind_at, Repeats, Unlinked}
use Rattle.rules.specs.Levels.{home, Reaches, itself, through, Level, Misplaced}
use Rattle.rules.specs.Bytes.{Stored, Clash}
use Rattle.linking.specs.Rules.{Overweight}
use Rattle.linking.specs.Verdict.{Accepted, Broken}
use Rattle.linking_samples.specs.Samples.{worked_text}

-- ---- the empty text
no_label : (n : ℕ) → bracket_opens ≡ label n → ⊥
no_label n e = let z : ◌≡◌ {A = ℕ} 0 1 = cc in omega arith

pub empty_refused : Broken 1 [] start
empty_refused = record {
  tokens = [];
  modules = [];
  index = 0;
  written = record { read = verdict_of []; spelled = refl; within = (limits_agree []).1 tt };
  broken = (λ j p. no_label p.0 p.1, (inr (refl, λ both. let lt = both.0.2 in omega arith), λ j lt p. omega arith));
  place = refl;
}

-- ---- the worked run's list
abbrev placed : List ℕ → Kind → ℕ → Item
placed bytes k column = record { token = record { part = bytes; kind = k }; place = record { line = 1; column = column } }

abbrev worked_tokens : List Item
worked_tokens =
    placed (codes ":001") (label 1) 1
    ∷ placed (codes "I000") (test (bit_cell_in Input 0 0) false) 6
    ∷ placed (codes "U001") (switch (bit_cell_in Output 0 1) true) 11
    ∷ placed (codes "E") (otherwise) 16
    ∷ placed (codes "D001") (switch (bit_cell_in Output 0 1) false) 18
    ∷ placed (codes "Z") (end_of_condition) 23
    ∷ placed (codes "J1") (end_of_level 1) 25
    ∷ placed (codes ":000") (label 0) 28
    ∷ placed (codes "LI00") (load_word (Pair Input 0) false) 33
    ∷ placed (codes "+") (operator Add) 38
    ∷ placed (codes "LF010") (load_word (Pair Internal 10) false) 40
    ∷ placed (codes "SF010") (store_word (Pair Internal 10) false) 46
    ∷ placed (codes "SY02") (store_word (Pair Output 2) false) 52
    ∷ placed (codes "J0") (end_of_level 0) 57
    ∷ []

abbrev ks : List Kind
ks = label 1 ∷ test (bit_cell_in Input 0 0) false ∷ switch (bit_cell_in Output 0 1) true ∷ otherwise ∷ switch (bit_cell_in Output 0 1) false ∷ end_of_condition ∷ end_of_level 1 ∷ label 0 ∷ load_word (Pair Input 0) false ∷ operator Add ∷ load_word (Pair Internal 10) false ∷ store_word (Pair Internal 10) false ∷ store_word (Pair Output 2) false ∷ end_of_level 0 ∷ []

reads : read_of worked_text ≡ Ok worked_tokens
unfolding kind_of plain_of not_of store_of load_of mark_of switched_of word_like word_of bit_of number_of value_of
reads = refl

no_call : (i n : ℕ) → kind_at ks i ≡ call n → ⊥
no_call zero n e = let z : ◌≡◌ {A = ℕ} 0 1 = cc in omega arith
no_call (suc zero) n e = let z : ◌≡◌ {A = ℕ} 0 1 = cc in omega arith
no_call (suc (suc zero)) n e = let z : ◌≡◌ {A = ℕ} 0 1 = cc in omega arith
no_call (suc (suc (suc zero))) n e = let z : ◌≡◌ {A = ℕ} 0 1 = cc in omega arith
no_call (suc (suc (suc (suc zero)))) n e = let z : ◌≡◌ {A = ℕ} 0 1 = cc in omega arith
no_call (suc (suc (suc (suc (suc zero))))) n e = let z : ◌≡◌ {A = ℕ} 0 1 = cc in omega arith
no_call (suc (suc (suc (suc (suc (suc zero)))))) n e = let z : ◌≡◌ {A = ℕ} 0 1 = cc in omega arith
no_call (suc (suc (suc (suc (suc (suc (suc zero))))))) n e = let z : ◌≡◌ {A = ℕ} 0 1 = cc in omega arith
no_call (suc (suc (suc (suc (suc (suc (suc (suc zero)))))))) n e = let z : ◌≡◌ {A = ℕ} 0 1 = cc in omega arith
no_call (suc (suc (suc (suc (suc (suc (suc (suc (suc zero))))))))) n e = let z : ◌≡◌ {A = ℕ} 0 1 = cc in omega arith
no_call (suc (suc (suc (suc (suc (suc (suc (suc (suc (suc zero)))))))))) n e = let z : ◌≡◌ {A = ℕ} 0 1 = cc in omega arith
no_call (suc (suc (suc (suc (suc (suc (suc (suc (suc (suc (suc zero))))))))))) n e = let z : ◌≡◌ {A = ℕ} 0 1 = cc in omega arith
no_call (suc (suc (suc (suc (suc (suc (suc (suc (suc (suc (suc (suc zero)))))))))))) n e = let z : ◌≡◌ {A = ℕ} 0 1 = cc in omega arith
no_call (suc (suc (suc (suc (suc (suc (suc (suc (suc (suc (suc (suc (suc zero))))))))))))) n e = let z : ◌≡◌ {A = ℕ} 0 1 = cc in omega arith
no_call (suc (suc (suc (suc (suc (suc (suc (suc (suc (suc (suc (suc (suc (suc i)))))))))))))) n e = let z : ◌≡◌ {A = ℕ} 0 1 = cc in omega arith

-- no label but 1 stands among the first seven tokens
one_above : (k n : ℕ) → k < 7 → kind_at ks k ≡ label n → label 0 ≡ label n → ⊥
one_above zero n h e f = let z : ◌≡◌ {A = ℕ} 0 1 = cc in omega arith
one_above (suc zero) n h e f = let z : ◌≡◌ {A = ℕ} 0 1 = cc in omega arith
one_above (suc (suc zero)) n h e f = let z : ◌≡◌ {A = ℕ} 0 1 = cc in omega arith
one_above (suc (suc (suc zero))) n h e f = let z : ◌≡◌ {A = ℕ} 0 1 = cc in omega arith
one_above (suc (suc (suc (suc zero)))) n h e f = let z : ◌≡◌ {A = ℕ} 0 1 = cc in omega arith
one_above (suc (suc (suc (suc (suc zero))))) n h e f = let z : ◌≡◌ {A = ℕ} 0 1 = cc in omega arith
one_above (suc (suc (suc (suc (suc (suc zero)))))) n h e f = let z : ◌≡◌ {A = ℕ} 0 1 = cc in omega arith
one_above (suc (suc (suc (suc (suc (suc (suc k))))))) n h e f = omega arith

no_repeats : NoneAt (Repeats ks)
no_repeats zero p = omega (arith, p.2.2)
no_repeats (suc zero) p = let e = p.1 in let z : ◌≡◌ {A = ℕ} 0 1 = cc in omega arith
no_repeats (suc (suc zero)) p = let e = p.1 in let z : ◌≡◌ {A = ℕ} 0 1 = cc in omega arith
no_repeats (suc (suc (suc zero))) p = let e = p.1 in let z : ◌≡◌ {A = ℕ} 0 1 = cc in omega arith
no_repeats (suc (suc (suc (suc zero)))) p = let e = p.1 in let z : ◌≡◌ {A = ℕ} 0 1 = cc in omega arith
no_repeats (suc (suc (suc (suc (suc zero))))) p = let e = p.1 in let z : ◌≡◌ {A = ℕ} 0 1 = cc in omega arith
no_repeats (suc (suc (suc (suc (suc (suc zero)))))) p = let e = p.1 in let z : ◌≡◌ {A = ℕ} 0 1 = cc in omega arith
no_repeats (suc (suc (suc (suc (suc (suc (suc zero))))))) p = one_above p.2.0 p.0 p.2.2 p.2.3 p.1
no_repeats (suc (suc (suc (suc (suc (suc (suc (suc zero)))))))) p = let e = p.1 in let z : ◌≡◌ {A = ℕ} 0 1 = cc in omega arith
no_repeats (suc (suc (suc (suc (suc (suc (suc (suc (suc zero))))))))) p = let e = p.1 in let z : ◌≡◌ {A = ℕ} 0 1 = cc in omega arith
no_repeats (suc (suc (suc (suc (suc (suc (suc (suc (suc (suc zero)))))))))) p = let e = p.1 in let z : ◌≡◌ {A = ℕ} 0 1 = cc in omega arith
no_repeats (suc (suc (suc (suc (suc (suc (suc (suc (suc (suc (suc zero))))))))))) p = let e = p.1 in let z : ◌≡◌ {A = ℕ} 0 1 = cc in omega arith
no_repeats (suc (suc (suc (suc (suc (suc (suc (suc (suc (suc (suc (suc zero)))))))))))) p = let e = p.1 in let z : ◌≡◌ {A = ℕ} 0 1 = cc in omega arith
no_repeats (suc (suc (suc (suc (suc (suc (suc (suc (suc (suc (suc (suc (suc zero))))))))))))) p = let e = p.1 in let z : ◌≡◌ {A = ℕ} 0 1 = cc in omega arith
no_repeats (suc (suc (suc (suc (suc (suc (suc (suc (suc (suc (suc (suc (suc (suc i)))))))))))))) p = let e = p.1 in let z : ◌≡◌ {A = ℕ} 0 1 = cc in omega arith

no_unlinked : NoneAt (Unlinked ks)
no_unlinked i (inl p) = no_call i p.0 p.1
no_unlinked i (inr p) = p.1 ((7, omega arith, omega arith, refl), (0, omega arith, omega arith, refl))

no_misplaced : NoneAt (Misplaced ks)
no_misplaced zero p = p.0
no_misplaced (suc zero) p = let e = p.0 in let z : ◌≡◌ {A = ℕ} 0 1 = cc in omega arith
no_misplaced (suc (suc zero)) p = p.0
no_misplaced (suc (suc (suc zero))) p = p.0
no_misplaced (suc (suc (suc (suc zero)))) p = p.0
no_misplaced (suc (suc (suc (suc (suc zero))))) p = p.0
no_misplaced (suc (suc (suc (suc (suc (suc zero)))))) p = p.0
no_misplaced (suc (suc (suc (suc (suc (suc (suc zero))))))) p = p.0
no_misplaced (suc (suc (suc (suc (suc (suc (suc (suc zero)))))))) p = let e = p.0 in let z : ◌≡◌ {A = ℕ} 0 1 = cc in omega arith
no_misplaced (suc (suc (suc (suc (suc (suc (suc (suc (suc zero))))))))) p = p.0
no_misplaced (suc (suc (suc (suc (suc (suc (suc (suc (suc (suc zero)))))))))) p = let e = p.0 in let z : ◌≡◌ {A = ℕ} 0 1 = cc in omega arith
no_misplaced (suc (suc (suc (suc (suc (suc (suc (suc (suc (suc (suc zero))))))))))) p = p.0
no_misplaced (suc (suc (suc (suc (suc (suc (suc (suc (suc (suc (suc (suc zero)))))))))))) p = p.0
no_misplaced (suc (suc (suc (suc (suc (suc (suc (suc (suc (suc (suc (suc (suc zero))))))))))))) p = p.0
no_misplaced (suc (suc (suc (suc (suc (suc (suc (suc (suc (suc (suc (suc (suc (suc i)))))))))))))) p = p.0

-- there are no calls, so each level is its own module
reaches_itself : (root m : ℕ) → Reaches ks root m → m ≡ root
reaches_itself root m itself = refl
reaches_itself root m (through r c) = absurd (no_call c.0 m c.2)

some_is : (a b : ℕ) → Some a ≡ Some b → a ≡ b
some_is a b e = cc

level_is : (root m i : ℕ) → home ks i ≡ Some m → Level ks root i → m ≡ root
level_is root m i e l = some_is m l.0 (sym e ∙ l.1) ∙ reaches_itself root l.0 l.2

quick_stores : (b i : ℕ) → Stored ks 1 b i → b ≡ 128
quick_stores b zero s = absurd s.0
quick_stores b (suc zero) s = absurd s.0
quick_stores b (suc (suc zero)) s = s.0
quick_stores b (suc (suc (suc zero))) s = absurd s.0
quick_stores b (suc (suc (suc (suc zero)))) s = s.0
quick_stores b (suc (suc (suc (suc (suc zero))))) s = absurd s.0
quick_stores b (suc (suc (suc (suc (suc (suc zero)))))) s = absurd s.0
quick_stores b (suc (suc (suc (suc (suc (suc (suc zero))))))) s = absurd s.0
quick_stores b (suc (suc (suc (suc (suc (suc (suc (suc zero)))))))) s = absurd s.0
quick_stores b (suc (suc (suc (suc (suc (suc (suc (suc (suc zero))))))))) s = absurd s.0
quick_stores b (suc (suc (suc (suc (suc (suc (suc (suc (suc (suc zero)))))))))) s = absurd s.0
quick_stores b (suc (suc (suc (suc (suc (suc (suc (suc (suc (suc (suc zero))))))))))) s = let e : ◌≡◌ {A = ℕ} 0 1 = level_is 1 0 11 refl s.1 in absurd (omega arith)
quick_stores b (suc (suc (suc (suc (suc (suc (suc (suc (suc (suc (suc (suc zero)))))))))))) s = let e : ◌≡◌ {A = ℕ} 0 1 = level_is 1 0 12 refl s.1 in absurd (omega arith)
quick_stores b (suc (suc (suc (suc (suc (suc (suc (suc (suc (suc (suc (suc (suc zero))))))))))))) s = absurd s.0
quick_stores b (suc (suc (suc (suc (suc (suc (suc (suc (suc (suc (suc (suc (suc (suc i)))))))))))))) s = absurd s.0

slow_stores : (b i : ℕ) → Stored ks 0 b i → b ≡ 128 → ⊥
slow_stores b zero s e = s.0
slow_stores b (suc zero) s e = s.0
slow_stores b (suc (suc zero)) s e = let f : ◌≡◌ {A = ℕ} 1 0 = level_is 0 1 2 refl s.1 in omega arith
slow_stores b (suc (suc (suc zero))) s e = s.0
slow_stores b (suc (suc (suc (suc zero)))) s e = let f : ◌≡◌ {A = ℕ} 1 0 = level_is 0 1 4 refl s.1 in omega arith
slow_stores b (suc (suc (suc (suc (suc zero))))) s e = s.0
slow_stores b (suc (suc (suc (suc (suc (suc zero)))))) s e = s.0
slow_stores b (suc (suc (suc (suc (suc (suc (suc zero))))))) s e = s.0
slow_stores b (suc (suc (suc (suc (suc (suc (suc (suc zero)))))))) s e = s.0
slow_stores b (suc (suc (suc (suc (suc (suc (suc (suc (suc zero))))))))) s e = s.0
slow_stores b (suc (suc (suc (suc (suc (suc (suc (suc (suc (suc zero)))))))))) s e = s.0
slow_stores b (suc (suc (suc (suc (suc (suc (suc (suc (suc (suc (suc zero))))))))))) (inl h, l) e = omega arith
slow_stores b (suc (suc (suc (suc (suc (suc (suc (suc (suc (suc (suc zero))))))))))) (inr h, l) e = omega arith
slow_stores b (suc (suc (suc (suc (suc (suc (suc (suc (suc (suc (suc (suc zero)))))))))))) (inl h, l) e = omega arith
slow_stores b (suc (suc (suc (suc (suc (suc (suc (suc (suc (suc (suc (suc zero)))))))))))) (inr h, l) e = omega arith
slow_stores b (suc (suc (suc (suc (suc (suc (suc (suc (suc (suc (suc (suc (suc zero))))))))))))) s e = s.0
slow_stores b (suc (suc (suc (suc (suc (suc (suc (suc (suc (suc (suc (suc (suc (suc i)))))))))))))) s e = s.0

no_clash : NoneAt (Clash ks)
no_clash i (b, inl p) = slow_stores b p.1.0 p.1.2 (quick_stores b i p.0)
no_clash i (b, inr p) = slow_stores b i p.0 (quick_stores b p.1.0 p.1.2)

no_overweight : NoneAt (Overweight ks two_levels)
no_overweight i (inl (e, inl h)) = omega arith
no_overweight i (inl (e, inr h)) = omega arith
no_overweight i (inr (e, inl h, n)) = omega arith
no_overweight i (inr (e, inr h, n)) = omega arith

pub worked_accepted : Accepted worked_text two_levels (record { quick = 4; slow = 5 })
worked_accepted = record {
  tokens = worked_tokens;
  written = record {
    read = subst (λ (r : Result (List Item) ReadFault). Read worked_text r) reads (verdict_of worked_text);
    spelled = refl;
    within = (limits_agree two_levels).1 (omega arith, ((omega arith, (tt, tt), (tt, tt)), tt), (omega arith, (tt, (tt, (tt, (tt, tt)))), tt));
  };
  lawful = (no_repeats, (no_unlinked, (no_misplaced, (no_clash, (no_overweight, tt)))));
  quick = refl;
  slow = refl;
}
