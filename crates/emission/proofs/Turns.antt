-- What one turn of each loop keeps. Assumes nothing.
use Rattle.std.proofs.Common.{◌≡◌, ℕ, zero, suc, ◌+◌, ◌-◌, ◌<◌, ◌≤◌, Bool, true, false, cond, List, [], ◌∷◌, map, length, get_or, take, drop, Some, None, Option, Bor, sym, refl, ap, ◌∙◌, add-one, arith}
use Rattle.std.proofs.lemmas.List.{length-map, get_or-map, at_drop_more, at_drop_all, drop-map, take_rest, drop_more}
use Rattle.std.specs.List.{sum_by}
use Rattle.std.proofs.lemmas.List.Sums.{sum_by-cons}
use Rattle.std.proofs.lemmas.Fn.{fronts}
use Rattle.std.proofs.lemmas.Iterator.{YieldsList}
use Rattle.std.proofs.lemmas.Iterator.Consumers.{YieldsList-from_shown}
use Rattle.std.specs.Slice.Iter.{iter_rest}
use Rattle.tokens.specs.Tokens.{Kind, labels, bracket_opens, bracket_closes, number, load_number, load_bit, load_word, store_bit, store_word, switch, test, operator, comparison, otherwise, end_of_condition, end_of_level, return, label, call, lexeme}
use Rattle.reading.specs.declared.Placed.{Placed}
use Rattle.reading.specs.Items.{item, blank_item}
use Rattle.grammar.specs.Verdict.{item_kind, kinds_of}
use Rattle.emission.specs.declared.parts.Turn.{Turn}
use Rattle.emission.specs.declared.parts.Turn.TheVariants.{Opening, Otherwise, Closing}
use Rattle.emission.specs.Emission.{weight, total, turn, further, branch, place_in}

-- the kind of a token is that of its place
pub kind_at : (ts : List Placed) (i : ℕ) (x : Placed) → i < length ts → get_or (kinds_of ts) i bracket_opens ≡ (item (get_or ts i x)).token.kind
kind_at ts i x lt =
    get_or-map item_kind (map item ts) i blank_item bracket_opens (omega (arith, length-map ts item))
    ∙ ap item_kind (get_or-map item ts i x blank_item lt)

pub length_kinds : (ts : List Placed) → length (kinds_of ts) ≡ length ts
length_kinds ts = length-map (map item ts) item_kind ∙ length-map ts item

-- the kinds from a place on
pub kinds_drop : (i : ℕ) (ts : List Placed) → kinds_of (drop i ts) ≡ drop i (kinds_of ts)
kinds_drop i ts = ap (map item_kind) (sym (drop-map item i ts)) ∙ sym (drop-map item_kind i (map item ts))

pub kinds_behind : (ts : List Placed) (i : ℕ) → kinds_of (take (length ts - i) (drop i ts)) ≡ drop i (kinds_of ts)
kinds_behind ts i = ap kinds_of (take_rest ts i) ∙ kinds_drop i ts

pub kinds_here : (ts : List Placed) (i : ℕ) (x : Placed) → i < length ts → drop i (kinds_of ts) ≡ (lexeme (get_or ts i x).token).kind ∷ drop (i + 1) (kinds_of ts)
kinds_here ts i x lt =
    drop_more (kinds_of ts) i bracket_opens (omega (arith, length_kinds ts)) ∙ ap (λ k. k ∷ drop (i + 1) (kinds_of ts)) (kind_at ts i x lt)

pub weight_small : (k : Kind) → weight k ≤ 1
weight_small bracket_opens = omega arith
weight_small bracket_closes = omega arith
weight_small (number v) = omega arith
weight_small (load_number v) = omega arith
weight_small (load_bit c n) = omega arith
weight_small (load_word c n) = omega arith
weight_small (store_bit c n) = omega arith
weight_small (store_word c n) = omega arith
weight_small (switch c on) = omega arith
weight_small (test c n) = omega arith
weight_small (operator o) = omega arith
weight_small (comparison o) = omega arith
weight_small otherwise = omega arith
weight_small end_of_condition = omega arith
weight_small (end_of_level v) = omega arith
weight_small return = omega arith
weight_small (label n) = omega arith
weight_small (call n) = omega arith

-- ---- to the end of a branch
pub record Gone (ts : List Placed) (i d n : ℕ) : Type 0 where
  pub deep : d ≤ i
  pub few : n ≤ i
  pub sum : n + branch d (drop i (kinds_of ts)) ≡ branch 0 (kinds_of ts)

module _ (ts : List Placed) (i d n : ℕ) (h : Gone ts i d n) (lt : i < length ts) (k : Kind) (e : k ≡ get_or (kinds_of ts) i bracket_opens) (w : ℕ) (f : w ≡ weight k) where
  step : (u : Option Turn) → u ≡ turn k → branch d (drop i (kinds_of ts)) ≡ further u w d (λ x. branch x (drop (i + 1) (kinds_of ts)))
  step u g =
      at_drop_more (branch d) (kinds_of ts) i bracket_opens (omega (arith, length_kinds ts))
      ∙ ap (λ y. further (turn y) (weight y) d (λ x. branch x (drop (i + 1) (kinds_of ts)))) (sym e)
      ∙ (λ j. further (sym g j) (sym f j) d (λ x. branch x (drop (i + 1) (kinds_of ts))))

  pub gone_flat : None ≡ turn k → Gone ts (i + 1) d (n + w)
  gone_flat g = record { deep = omega (arith, h.deep); few = omega (arith, h.few, weight_small k); sum = omega (arith, h.sum, step None g) }

  pub gone_opening : Some Opening ≡ turn k → Gone ts (i + 1) (d + 1) (n + w)
  gone_opening g = record { deep = omega (arith, h.deep); few = omega (arith, h.few, weight_small k); sum = omega (arith, h.sum, step (Some Opening) g, ap (λ x. branch x (drop (i + 1) (kinds_of ts))) (add-one d)) }

  pub gone_otherwise : Some Otherwise ≡ turn k → (d ≡ 0 → ⊥) → Gone ts (i + 1) d (n + w)
  gone_otherwise g ne = record { deep = omega (arith, h.deep); few = omega (arith, h.few, weight_small k); sum = omega (arith, h.sum, step (Some Otherwise) g ∙ go d ne) }
    where
      go : (x : ℕ) → (x ≡ 0 → ⊥) → further (Some Otherwise) w x (λ y. branch y (drop (i + 1) (kinds_of ts))) ≡ w + branch x (drop (i + 1) (kinds_of ts))
      go zero z = absurd (z refl)
      go (suc x) z = refl

  pub gone_closing : Some Closing ≡ turn k → (d ≡ 0 → ⊥) → Gone ts (i + 1) (d - 1) (n + w)
  gone_closing g ne = record { deep = omega (arith, h.deep); few = omega (arith, h.few, weight_small k); sum = omega (arith, h.sum, step (Some Closing) g ∙ go d ne) }
    where
      go : (x : ℕ) → (x ≡ 0 → ⊥) → further (Some Closing) w x (λ y. branch y (drop (i + 1) (kinds_of ts))) ≡ w + branch (x - 1) (drop (i + 1) (kinds_of ts))
      go zero z = absurd (z refl)
      go (suc x) z = let q : x ≡ suc x - 1 = omega arith in ap (λ y. w + branch y (drop (i + 1) (kinds_of ts))) q

  pub ends_otherwise : Some Otherwise ≡ turn k → d ≡ 0 → n + w ≡ branch 0 (kinds_of ts)
  ends_otherwise g z = omega (arith, h.sum, step (Some Otherwise) g ∙ ap (λ x. further (Some Otherwise) w x (λ y. branch y (drop (i + 1) (kinds_of ts)))) z)

  pub ends_closing : Some Closing ≡ turn k → d ≡ 0 → n ≡ branch 0 (kinds_of ts)
  ends_closing g z = omega (arith, h.sum, step (Some Closing) g ∙ ap (λ x. further (Some Closing) w x (λ y. branch y (drop (i + 1) (kinds_of ts)))) z)

  pub at_most : n + w ≤ length ts
  at_most = omega (arith, h.few, weight_small k)

-- ---- how many instructions
abbrev pub kind_behind : Bor Placed → Kind
kind_behind y = (lexeme y.now.token).kind

pub over_kinds : (ts : List Placed) {s : _} → iter_rest s ≡ ts → YieldsList fronts kind_behind s (kinds_of ts)
over_kinds ts {s} e =
    rw (← e) (YieldsList-from_shown fronts kind_behind (λ t. kinds_of (iter_rest t)) (λ t u h. length_kinds (iter_rest t) ∙ h.0) (λ t x u h. ap kinds_of h) s)

pub total-sum_by : (ks : List Kind) → total ks ≡ sum_by weight ks
total-sum_by [] = refl
total-sum_by (k ∷ ks) = ap (λ n. weight k + n) (total-sum_by ks) ∙ sym (sum_by-cons weight k ks)

pub total_small : (ks : List Kind) → total ks ≤ length ks
total_small [] = omega arith
total_small (k ∷ ks) = omega (arith, weight_small k, total_small ks)

-- ---- to a label
pub record Sought (ts : List Placed) (l i first n : ℕ) : Type 0 where
  pub few : n ≤ first + i
  pub same : place_in l n (drop i (kinds_of ts)) ≡ place_in l first (kinds_of ts)

module _ (ts : List Placed) (l i first n : ℕ) (h : Sought ts l i first n) (lt : i < length ts) (k : Kind) (e : k ≡ get_or (kinds_of ts) i bracket_opens) where
  look : (b : Bool) → b ≡ labels l k → place_in l n (drop i (kinds_of ts)) ≡ cond b n (place_in l (n + weight k) (drop (i + 1) (kinds_of ts)))
  look b g =
      at_drop_more (place_in l n) (kinds_of ts) i bracket_opens (omega (arith, length_kinds ts))
      ∙ ap (λ y. cond (labels l y) n (place_in l (n + weight y) (drop (i + 1) (kinds_of ts)))) (sym e)
      ∙ ap (λ y. cond y n (place_in l (n + weight k) (drop (i + 1) (kinds_of ts)))) (sym g)

  pub found : true ≡ labels l k → n ≡ place_in l first (kinds_of ts)
  found g = sym (look true g) ∙ h.same

  pub sought_more : false ≡ labels l k → (w : ℕ) → w ≡ weight k → Sought ts l (i + 1) first (n + w)
  sought_more g w f = record {
    few = omega (arith, h.few, weight_small k);
    same = ap (λ x. place_in l (n + x) (drop (i + 1) (kinds_of ts))) f ∙ sym (look false g) ∙ h.same;
  }

pub sought_all : (ts : List Placed) (l i first n : ℕ) → Sought ts l i first n → length ts ≤ i → n ≡ place_in l first (kinds_of ts)
sought_all ts l i first n h le = sym (at_drop_all (place_in l n) (kinds_of ts) i (omega (arith, length_kinds ts))) ∙ h.same
