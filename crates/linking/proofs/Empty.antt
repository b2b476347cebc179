-- The text :001 J1 :000 J0 is accepted. Assumes nothing.
use Rattle.std.proofs.Common.{◌≡◌, ℕ, zero, suc, ◌<◌, List, [], ◌∷◌, Ok, codes, Result, refl, subst, inl, inr, arith}
use Rattle.tokens.specs.Numbers.{value_of}
use Rattle.tokens.specs.Tokens.{Kind, label, call, end_of_level, kind_of, mark_of, plain_of}
use Rattle.reading.specs.declared.ReadFault.{ReadFault}
use Rattle.reading.specs.Items.{Item, read_of}
use Rattle.reading.specs.Verdict.{Verdict as Read}
use Rattle.reading.proofs.Verdicts.{verdict_of}
use Rattle.grammar.proofs.Nesting.{limits_agree}
use Rattle.rules.specs.Findings.{NoneAt}
use Rattle.rules.specs.Labels.{kind_at, Repeats, Unlinked}
use Rattle.rules.specs.Levels.{Misplaced}
use Rattle.rules.specs.Bytes.{Stored, Clash}
use Rattle.linking.specs.Rules.{Overweight}
use Rattle.linking.specs.Verdict.{Accepted}
use Rattle.linking.specs.Records.{two_empty}

abbrev empty_text : List ℕ
empty_text = codes ":001 J1 :000 J0"

abbrev placed : List ℕ → Kind → ℕ → Item
placed bytes k column = record { token = record { part = bytes; kind = k }; place = record { line = 1; column = column } }

abbrev empty_tokens : List Item
empty_tokens = placed (codes ":001") (label 1) 1 ∷ placed (codes "J1") (end_of_level 1) 6 ∷ placed (codes ":000") (label 0) 9 ∷ placed (codes "J0") (end_of_level 0) 14 ∷ []

abbrev ks : List Kind
ks = label 1 ∷ end_of_level 1 ∷ label 0 ∷ end_of_level 0 ∷ []

reads : read_of empty_text ≡ Ok empty_tokens
unfolding kind_of mark_of plain_of value_of
reads = refl

-- ---- no rule is broken
no_repeats : NoneAt (Repeats ks)
no_repeats zero p = omega (arith, p.2.2)
no_repeats (suc zero) p = let e = p.1 in let z : ◌≡◌ {A = ℕ} 0 1 = cc in omega arith
no_repeats (suc (suc zero)) p = go p.2.0 p.2.2 p.1 p.2.3
  where
    go : (k : ℕ) → k < 2 → label 0 ≡ label p.0 → kind_at ks k ≡ label p.0 → ⊥
    go zero h e f = let z : ◌≡◌ {A = ℕ} 0 1 = cc in omega arith
    go (suc zero) h e f = let z : ◌≡◌ {A = ℕ} 0 1 = cc in omega arith
    go (suc (suc k)) h e f = omega arith
no_repeats (suc (suc (suc zero))) p = let e = p.1 in let z : ◌≡◌ {A = ℕ} 0 1 = cc in omega arith
no_repeats (suc (suc (suc (suc i)))) p = let e = p.1 in let z : ◌≡◌ {A = ℕ} 0 1 = cc in omega arith

no_call : (i n : ℕ) → kind_at ks i ≡ call n → ⊥
no_call zero n e = let z : ◌≡◌ {A = ℕ} 0 1 = cc in omega arith
no_call (suc zero) n e = let z : ◌≡◌ {A = ℕ} 0 1 = cc in omega arith
no_call (suc (suc zero)) n e = let z : ◌≡◌ {A = ℕ} 0 1 = cc in omega arith
no_call (suc (suc (suc zero))) n e = let z : ◌≡◌ {A = ℕ} 0 1 = cc in omega arith
no_call (suc (suc (suc (suc i)))) n e = let z : ◌≡◌ {A = ℕ} 0 1 = cc in omega arith

no_unlinked : NoneAt (Unlinked ks)
no_unlinked i (inl p) = no_call i p.0 p.1
no_unlinked i (inr p) = p.1 ((2, omega arith, omega arith, refl), (0, omega arith, omega arith, refl))

no_misplaced : NoneAt (Misplaced ks)
no_misplaced zero p = p.0
no_misplaced (suc zero) p = p.0
no_misplaced (suc (suc zero)) p = p.0
no_misplaced (suc (suc (suc zero))) p = p.0
no_misplaced (suc (suc (suc (suc i)))) p = p.0

no_store : (root b i : ℕ) → Stored ks root b i → ⊥
no_store root b zero p = p.0
no_store root b (suc zero) p = p.0
no_store root b (suc (suc zero)) p = p.0
no_store root b (suc (suc (suc zero))) p = p.0
no_store root b (suc (suc (suc (suc i)))) p = p.0

no_clash : NoneAt (Clash ks)
no_clash i (b, inl p) = no_store 1 b i p.0
no_clash i (b, inr p) = no_store 0 b i p.0

no_overweight : NoneAt (Overweight ks two_empty)
no_overweight i (inl (e, inl h)) = omega arith
no_overweight i (inl (e, inr h)) = omega arith
no_overweight i (inr (e, inl h, n)) = omega arith
no_overweight i (inr (e, inr h, n)) = omega arith

pub accepted_empty : Accepted empty_text two_empty (record { quick = 1; slow = 1 })
accepted_empty = record {
  tokens = empty_tokens;
  written = record {
    read = subst (λ (r : Result (List Item) ReadFault). Read empty_text r) reads (verdict_of empty_text);
    spelled = refl;
    within = (limits_agree two_empty).1 (omega arith, tt, (omega arith, tt, tt));
  };
  lawful = (no_repeats, (no_unlinked, (no_misplaced, (no_clash, (no_overweight, tt)))));
  quick = refl;
  slow = refl;
}
