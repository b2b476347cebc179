-- The tally of a text's words says what the text is judged to be. Assumes nothing.
use Rattle.std.proofs.Common.{◌≡◌, ℕ, suc, ◌+◌, ◌-◌, ◌<◌, ◌≤◌, Bool, true, false, cond, eqb, leb, List, [], ◌∷◌, length, get_or, Some, None, Ok, Err, Option, Result, sym, refl, ap, ◌∙◌, zero-add, arith, eqb-true}
use Rattle.std.proofs.lemmas.Bool.{cond-true, cond-false, le-leb, lt-leb, ne_eqb}
use borrow.Author.Tests.{eqb-false}
use Rattle.faults.specs.declared.Place.{Place}
use Rattle.scanning.specs.declared.ScanFault.{ScanFault}
use Rattle.scanning.specs.Pieces.{Spot}
use Rattle.scanning.specs.Scan.{before as before_words}
use Rattle.tokens.specs.declared.WordFault.{WordFault}
use Rattle.tokens.specs.Tokens.{Lexeme, named, kind_of}
use Rattle.reading.specs.declared.ReadFault.{ReadFault}
use Rattle.reading.specs.declared.ReadFault.TheVariants.{TooMany}
use Rattle.reading.specs.declared.Tally.{Tally}
use Rattle.reading.specs.Items.{Item, most, token_at, placed_at, before, joined, judged, judged_all, blank_item, capped}
use Rattle.reading.specs.Tally.{fresh, refusal, noted, outcome, noted_all, tallied}

-- one word more
pub tallied_more : (t : Tally) (w : Spot) (r : Result (List Spot) ScanFault) → tallied t (before_words w r) ≡ tallied (noted t w) r
tallied_more t w (Ok ws) = refl
tallied_more t w (Err e) = refl

abbrev pub counted : Result (List Item) ReadFault → Result ℕ ReadFault
counted (Ok ts) = Ok (length ts)
counted (Err e) = Err e

abbrev tally : ℕ → Option ReadFault → Option Place → Tally
tally n e x = record { count = n; refused = e; extra = x }

-- the first fault stays
refused_stays : (e : ReadFault) (ws : List Spot) (n : ℕ) (x : Option Place) → outcome (noted_all (tally n (Some e) x) ws) ≡ Err e
refused_stays e [] n x = refl
refused_stays e (w ∷ ws) n x = refused_stays e ws (n + 1) (cond (eqb n most) (Some w.place) x)

-- the place of the first token with no room
abbrev over_at : Place → Result (List Item) ReadFault → Result ℕ ReadFault
over_at p (Ok ts) = Err (TooMany p)
over_at p (Err e) = Err e

over_joined : (p : Place) (t : Item) (r : Result (List Item) ReadFault) → over_at p r ≡ over_at p (before (t ∷ []) r)
over_joined p t (Ok ts) = refl
over_joined p t (Err e) = refl

extra_step : (p : Place) (ws : List Spot) (n : ℕ) (o : Result Item ReadFault) → ((m : ℕ) → most < m → outcome (noted_all (tally m None (Some p)) ws) ≡ over_at p (judged ws)) → most < n → outcome (noted_all (tally (n + 1) (refusal o) (Some p)) ws) ≡ over_at p (joined o (judged ws))
extra_step p ws n (Ok t) ih h = ih (n + 1) (omega arith) ∙ over_joined p t (judged ws)
extra_step p ws n (Err e) ih h = refused_stays e ws (n + 1) (Some p)

extra_stays : (p : Place) (ws : List Spot) (n : ℕ) → most < n → outcome (noted_all (tally n None (Some p)) ws) ≡ over_at p (judged ws)
extra_stays p [] n h = refl
extra_stays p (w ∷ ws) n h =
    ap (λ x. outcome (noted_all (tally (n + 1) (refusal (token_at w)) x) ws)) (cond-false _ _ _ (ne_eqb n most (λ e. omega arith)))
    ∙ extra_step p ws n (token_at w) (extra_stays p ws) h

-- the answer where n tokens stand before those judged
abbrev capped_from : ℕ → Result (List Item) ReadFault → Result ℕ ReadFault
capped_from n (Ok ts) = cond (leb (n + length ts) most) (Ok (n + length ts)) (Err (TooMany (get_or ts (most - n) blank_item).place))
capped_from n (Err e) = Err e

next_count : (n : ℕ) (t : Item) (r : Result (List Item) ReadFault) → n < most → capped_from (n + 1) r ≡ capped_from n (before (t ∷ []) r)
next_count n t (Ok ts) h =
    let sum : n + 1 + length ts ≡ n + length (t ∷ ts) = omega arith in
    let there : most - n ≡ suc (most - (n + 1)) = omega arith in
    ap (λ k. cond (leb k most) (Ok k) (Err (TooMany (get_or ts (most - (n + 1)) blank_item).place))) sum
    ∙ ap (λ i. cond (leb (n + length (t ∷ ts)) most) (Ok (n + length (t ∷ ts))) (Err (TooMany (get_or (t ∷ ts) i blank_item).place))) (sym there)
next_count n t (Err e) h = refl

last_count : (p : Place) (n : ℕ) (t : Item) (r : Result (List Item) ReadFault) → n ≡ most → t.place ≡ p → over_at p r ≡ capped_from n (before (t ∷ []) r)
last_count p n t (Ok ts) h e =
    let there : most - n ≡ 0 = omega arith in
    ap (λ q. Err (TooMany q)) (sym e)
    ∙ ap (λ i. Err (TooMany (get_or (t ∷ ts) i blank_item).place)) (sym there)
    ∙ sym (cond-false _ _ _ (lt-leb (n + length (t ∷ ts)) most (omega arith)))
last_count p n t (Err f) h e = refl

-- one word more, at p, which is o
count_step : (p : Place) (ws : List Spot) (n : ℕ) (o : Result Item ReadFault) (b : Bool) → eqb n most ≡ b → n ≤ most → ((t : Item) → o ≡ Ok t → t.place ≡ p) → (n + 1 ≤ most → outcome (noted_all (tally (n + 1) None None) ws) ≡ capped_from (n + 1) (judged ws)) → outcome (noted_all (tally (n + 1) (refusal o) (cond b (Some p) None)) ws) ≡ capped_from n (joined o (judged ws))
count_step p ws n (Err e) b q h at ih = refused_stays e ws (n + 1) (cond b (Some p) None)
count_step p ws n (Ok t) true q h at ih =
    let full : n ≡ most = omega (arith, eqb-true, q) in
    extra_stays p ws (n + 1) (omega arith) ∙ last_count p n t (judged ws) full (at t refl)
count_step p ws n (Ok t) false q h at ih =
    let room : n < most = omega (arith, eqb-false, q) in
    ih (omega arith) ∙ next_count n t (judged ws) room

placed_there : (p : Place) (r : Result Lexeme WordFault) (t : Item) → placed_at p r ≡ Ok t → t.place ≡ p
placed_there p (Ok l) t e = let same : record { token = l; place = p } ≡ t = cc in ap (λ (x : Item). x.place) (sym same)
placed_there p (Err f) t e = absurd (cc)

counts : (ws : List Spot) (n : ℕ) → n ≤ most → outcome (noted_all (tally n None None) ws) ≡ capped_from n (judged ws)
counts [] n h =
    let none : n + 0 ≡ n = omega arith in
    ap Ok (sym none) ∙ sym (cond-true _ _ _ (le-leb (n + 0) most (omega arith)))
counts (w ∷ ws) n h = count_step w.place ws n (token_at w) (eqb n most) refl h (placed_there w.place (named w.bytes (kind_of w.bytes))) (counts ws (n + 1))

by_test : (ts : List Item) (e : ReadFault) (b : Bool) → cond b (Ok (length ts)) (Err e) ≡ counted (cond b (Ok ts) (Err e))
by_test ts e true = refl
by_test ts e false = refl

from_none : (r : Result (List Item) ReadFault) → capped_from 0 r ≡ counted (capped r)
from_none (Ok ts) = rw zero-add (by_test ts (TooMany (get_or ts most blank_item).place) (leb (length ts) most))
from_none (Err e) = refl

-- the tally of a whole text
pub tallied_all : (r : Result (List Spot) ScanFault) → tallied fresh r ≡ counted (capped (judged_all r))
tallied_all (Ok ws) = counts ws 0 (omega arith) ∙ from_none (judged ws)
tallied_all (Err e) = refl
