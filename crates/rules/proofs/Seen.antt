-- The kinds of placed tokens.
use Rattle.std.proofs.Common.{◌≡◌, ℕ, ◌<◌, ◌⊎◌, List, map, length, get_or, take, drop, Some, None, Option, ◌↔◌, sym, refl, ap, ◌∙◌, inl, inr, arith}
use Rattle.std.specs.Option.{option_or}
use Rattle.std.proofs.lemmas.List.{length-map, get_or-map, take-map, drop-map}
use Rattle.tokens.specs.Tokens.{Kind, bracket_opens, bracket_closes, number, load_number, load_bit, load_word, store_bit, store_word, switch, test, operator, comparison, otherwise, end_of_condition, end_of_level, return, label, call, lexeme}
use Rattle.reading.specs.declared.Placed.{Placed}
use Rattle.reading.specs.Items.{item, blank_item}
use Rattle.grammar.specs.Verdict.{item_kind, kinds_of}
use Rattle.rules.specs.Labels.{kind_at}
use Rattle.rules.specs.Levels.{after}

pub length_kinds : (ts : List Placed) → length (kinds_of ts) ≡ length ts
length_kinds ts = length-map (map item ts) item_kind ∙ length-map ts item

pub kinds_take : (i : ℕ) (ts : List Placed) → kinds_of (take i ts) ≡ take i (kinds_of ts)
kinds_take i ts = ap (map item_kind) (sym (take-map item i ts)) ∙ sym (take-map item_kind i (map item ts))

pub kinds_drop : (i : ℕ) (ts : List Placed) → kinds_of (drop i ts) ≡ drop i (kinds_of ts)
kinds_drop i ts = ap (map item_kind) (sym (drop-map item i ts)) ∙ sym (drop-map item_kind i (map item ts))

-- the kind at a place is that of the token there
pub kind_there : (ts : List Placed) (i : ℕ) (d : Placed) → i < length ts → (lexeme (get_or ts i d).token).kind ≡ kind_at (kinds_of ts) i
kind_there ts i d lt =
    sym (get_or-map item_kind (map item ts) i blank_item bracket_opens (omega (arith, length-map ts item)) ∙ ap item_kind (get_or-map item ts i d blank_item lt))

-- a label begins a module, and any other token leaves it as it is
pub label_or_not : (k : Kind) → ((n : ℕ) × (k ≡ label n)) ⊎ ((h : Option ℕ) → after k h ≡ h)
label_or_not bracket_opens = inr (λ h. refl)
label_or_not bracket_closes = inr (λ h. refl)
label_or_not (number v) = inr (λ h. refl)
label_or_not (load_number v) = inr (λ h. refl)
label_or_not (load_bit c b) = inr (λ h. refl)
label_or_not (load_word c b) = inr (λ h. refl)
label_or_not (store_bit c b) = inr (λ h. refl)
label_or_not (store_word c b) = inr (λ h. refl)
label_or_not (switch c on) = inr (λ h. refl)
label_or_not (test c b) = inr (λ h. refl)
label_or_not (operator o) = inr (λ h. refl)
label_or_not (comparison o) = inr (λ h. refl)
label_or_not otherwise = inr (λ h. refl)
label_or_not end_of_condition = inr (λ h. refl)
label_or_not (end_of_level v) = inr (λ h. refl)
label_or_not return = inr (λ h. refl)
label_or_not (label n) = inl (n, refl)
label_or_not (call n) = inr (λ h. refl)

-- the module behind a token is its own label, or else the one before it
pub option_or-after : (k : Kind) (o h : Option ℕ) → ((n : ℕ) → k ≡ label n ↔ o ≡ Some n) → option_or o h ≡ after k h
option_or-after k (Some n) h f = ap (λ (x : Kind). after x h) (sym ((f n).1 refl))
option_or-after k None h f = elim (label_or_not k) [ inl p ↦ ap (λ (o : Option ℕ). option_or o h) ((f p.0).0 p.1) ∙ ap (λ (x : Kind). after x h) (sym p.1) | inr same ↦ sym (same h) ]
