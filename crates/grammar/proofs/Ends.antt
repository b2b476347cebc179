-- The place behind one byte more of a text. Assumes nothing.
use Rattle.std.proofs.Common.{◌≡◌, ℕ, ◌+◌, ◌<◌, List, [], ◌∷◌, ◌++◌, length, get_or, take, refl, ap, ◌∙◌}
use Rattle.std.proofs.lemmas.List.{take_more}
use Rattle.faults.specs.declared.Place.{Place}
use Rattle.scanning.specs.Text.{start, past, walk}

walk_push : (p : Place) (xs : List ℕ) (b : ℕ) → walk p (xs ++ b ∷ []) ≡ past (walk p xs) b
walk_push p [] b = refl
walk_push p (x ∷ xs) b = walk_push (past p x) xs b

pub walk_more : (text : List ℕ) (i : ℕ) → i < length text → walk start (take (i + 1) text) ≡ past (walk start (take i text)) (get_or text i 0)
walk_more text i lt = ap (walk start) (take_more text i 0 lt) ∙ walk_push start (take i text) (get_or text i 0)
