-- The places of tokens, and of the end. Assumes nothing.
use Rattle.std.proofs.Common.{◌≡◌, ℕ, ◌<◌, ◌≤◌, cond, List, map, length, get_or, Some, None, sym, ap, ◌∙◌, arith, le-leb}
use Rattle.std.proofs.lemmas.List.{length-map, get_or-map, get_or_past}
use Rattle.scanning.specs.Text.{longest, start, walk}
use Rattle.faults.specs.declared.Place.{Place}
use Rattle.reading.specs.declared.Placed.{Placed}
use Rattle.reading.specs.Items.{Item, item, blank_item}
use Rattle.grammar.specs.Verdict.{place_at, end_place}

pub inside_place : (text : List ℕ) (ts : List Placed) (i : ℕ) (x : Placed) → i < length ts → (get_or ts i x).place ≡ place_at text (map item ts) i
inside_place text ts i x lt =
    ap (λ (t : Item). t.place) (sym (get_or-map item ts i x blank_item lt))
    ∙ sym (get_or-map (λ (t : Item). t.place) (map item ts) i blank_item (walk start text) (omega (arith, length-map ts item)))

some_is : (a b : Place) → Some a ≡ Some b → a ≡ b
some_is a b e = cc

pub end_is : (text : List ℕ) (ts : List Placed) (i : ℕ) (p : Place) → length ts ≤ i → length text ≤ longest → Some p ≡ end_place text → p ≡ place_at text (map item ts) i
end_is text ts i p ge short e =
    some_is p (walk start text) (e ∙ ap (λ b. cond b (Some (walk start text)) None) (le-leb (length text) longest short))
    ∙ sym (get_or_past (map (λ (t : Item). t.place) (map item ts)) i (walk start text) (omega (arith, length-map ts item, length-map (map item ts) (λ (t : Item). t.place))))
