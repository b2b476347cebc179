-- Tokens in a row. Assumes nothing.
use Rattle.std.proofs.Common.{◌≡◌, ℕ, ◌+◌, ◌<◌, ◌≤◌, List, [], ◌∷◌, ◌++◌, map, length, take, drop, set, Ok, Err, Result, sym, refl, ap, ◌∙◌, subst, append_assoc, arith}
use Rattle.std.proofs.lemmas.List.{append-nil, length-append, length-map, length-take-le, take_more_set, drop-set-lt, drop-drop, map_push}
use Rattle.scanning.specs.declared.ScanFault.{ScanFault}
use Rattle.scanning.specs.Pieces.{Spot}
use Rattle.scanning.specs.Scan.{before as before_words}
use Rattle.reading.specs.declared.Placed.{Placed}
use Rattle.reading.specs.declared.ReadFault.{ReadFault}
use Rattle.reading.specs.Items.{Item, item, token_at, before, joined, judged, judged_all}
use Rattle.reading.specs.Tally.{FilledWith}

pub before_before : (ts us : List Item) (r : Result (List Item) ReadFault) → before ts (before us r) ≡ before (ts ++ us) r
before_before ts us (Ok vs) = ap Ok (sym (append_assoc ts us vs))
before_before ts us (Err e) = refl

-- a word that is a token stands before what is left
pub judged_more : (w : Spot) (t : Item) (r : Result (List Spot) ScanFault) → token_at w ≡ Ok t → judged_all (before_words w r) ≡ before (t ∷ []) (judged_all r)
judged_more w t (Ok ws) e = ap (λ o. joined o (judged ws)) e
judged_more w t (Err f) e = refl

-- where the tokens ss are as many as all, they are all
pub all_there : (ss : List Item) (r : Result (List Item) ReadFault) (ts : List Item) → before ss r ≡ Ok ts → length ts ≤ length ss → ss ≡ ts
all_there ss (Ok []) ts e h = let same : ss ++ [] ≡ ts = cc in sym (append-nil ss) ∙ same
all_there ss (Ok (u ∷ us)) ts e h =
    let same : ss ++ u ∷ us ≡ ts = cc in
    absurd (omega (arith, ap length same, length-append ss (u ∷ us)))
all_there ss (Err f) ts e h = absurd (cc)

pub row_length : (n : ℕ) (row : List Placed) → n ≤ length row → length (map item (take n row)) ≡ n
row_length n row h = length-map (take n row) item ∙ length-take-le n row h

pub filled_with : (n : ℕ) (row old : List Placed) (ts : List Item) → n ≤ length row → map item (take n row) ≡ ts → drop n row ≡ drop n old → FilledWith ts row old (Ok (length ts))
filled_with n row old ts room all left =
    let count : length ts ≡ n = ap length (sym all) ∙ row_length n row room in
    record {
      all = ap (λ k. Ok (map item (take k row))) count ∙ ap Ok all;
      left = subst (λ k. (k ≡ length (take k row)) × (drop k row ≡ drop k old)) (sym count) (sym (length-take-le n row room), left);
    }

-- one token more in the row
pub stored : (n : ℕ) (row : List Placed) (x : Placed) (r : Result (List Item) ReadFault) → n < length row → before (map item (take (n + 1) (set row n x))) r ≡ before (map item (take n row)) (before (item x ∷ []) r)
stored n row x r h =
    ap (λ ys. before (map item ys) r) (take_more_set row n x h)
    ∙ ap (λ ys. before ys r) (map_push item (take n row) x)
    ∙ sym (before_before (map item (take n row)) (item x ∷ []) r)

pub left_behind : (n : ℕ) (row old : List Placed) (x : Placed) → drop n row ≡ drop n old → drop (n + 1) (set row n x) ≡ drop (n + 1) old
left_behind n row old x h = drop-set-lt (n + 1) row n x (omega arith) ∙ sym (drop-drop 1 n row) ∙ ap (drop 1) h ∙ drop-drop 1 n old
