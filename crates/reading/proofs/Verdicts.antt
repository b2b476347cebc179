-- What reading answers is the rules' verdict, and the only one. Assumes nothing.
use Rattle.std.proofs.Common.{◌≡◌, ℕ, zero, suc, ◌+◌, ◌<◌, Bool, true, false, cond, leb, List, [], ◌∷◌, ◌++◌, length, get_or, Ok, Err, Result, sym, refl, ap, ◌∙◌, arith, leb-false, leb-true}
use Rattle.std.proofs.lemmas.List.{append-nil, length-append}
use Rattle.std.proofs.lemmas.Bool.{cond-true, cond-false, le-leb, lt-leb}
use Rattle.faults.specs.declared.Place.{Place}
use Rattle.scanning.specs.declared.ScanFault.{ScanFault}
use Rattle.scanning.specs.Pieces.{Spot}
use Rattle.scanning.specs.Pieces.{Verdict as Scanned}
use Rattle.scanning.specs.Scan.{scan_of}
use Rattle.scanning.proofs.Verdicts.{verdict_of as scan_verdict, only_verdict as only_scan}
use Rattle.tokens.specs.declared.WordFault.{WordFault}
use Rattle.tokens.specs.declared.WordFault.TheVariants.{Unlisted as UnlistedWord, OutOfRange as WordOutOfRange}
use Rattle.tokens.specs.Tokens.{Lexeme, named, kind_of}
use Rattle.tokens.specs.Listed.{Listed, NotListed, Neighbour}
use Rattle.tokens.specs.Listed.{Verdict as TokenVerdict}
use Rattle.tokens.proofs.Verdicts.{verdict_of as word_verdict, one_verdict as one_word}
use Rattle.reading.specs.declared.ReadFault.{ReadFault}
use Rattle.reading.specs.declared.ReadFault.TheVariants.{Scan, Unlisted, OutOfRange, TooMany}
use Rattle.reading.specs.Items.{Item, most, token_at, placed_at, before, joined, judged, judged_all, blank_item, capped, read_of}
use Rattle.reading.specs.Verdict.{Tokens, FirstRefused, Verdict, OneVerdict}

-- what stands behind as many elements
same_word : {A : Type 0} (xs ys : List A) (x y : A) (us vs : List A) → length xs ≡ length ys → xs ++ x ∷ us ≡ ys ++ y ∷ vs → x ≡ y
same_word [] [] x y us vs l e = cc
same_word [] (z ∷ ys) x y us vs l e = absurd (omega arith)
same_word (z ∷ xs) [] x y us vs l e = absurd (omega arith)
same_word (z ∷ xs) (z' ∷ ys) x y us vs l e = same_word xs ys x y us vs (omega arith) (let t : xs ++ x ∷ us ≡ ys ++ y ∷ vs = cc in t)

only_word : (w : List ℕ) (a : Result Lexeme WordFault) → TokenVerdict w a → a ≡ named w (kind_of w)
only_word w a v = one_word w a (named w (kind_of w)) v (word_verdict w)

-- why a word is none of the list
abbrev Outside : List ℕ → Type 0
Outside w = NotListed w × (Neighbour w → ⊥)

abbrev Nearby : List ℕ → Type 0
Nearby w = NotListed w × Neighbour w

-- what the words of a text are judged to be
abbrev Judged : List Spot → Result (List Item) ReadFault → Type 0
Judged ws (Ok ts) = Tokens ws ts
Judged ws (Err (Scan e)) = ⊥
Judged ws (Err (Unlisted p)) = FirstRefused Outside ws p
Judged ws (Err (OutOfRange p)) = FirstRefused Nearby ws p
Judged ws (Err (TooMany p)) = ⊥

later : {R : List ℕ → Type 0} (w : Spot) (t : Item) (ws : List Spot) (p : Place) → (t.place ≡ w.place) × (t.token.part ≡ w.bytes) × Listed w.bytes t.token.kind → FirstRefused R ws p → FirstRefused R (w ∷ ws) p
later w t ws p h f = record {
  front = w ∷ f.front;
  tokens = t ∷ f.tokens;
  word = f.word;
  behind = f.behind;
  made_up = ap (λ us. w ∷ us) f.made_up;
  front_listed = (h.0, h.1, h.2, f.front_listed);
  refused = f.refused;
  place = f.place;
}

judged_more : (w : Spot) (t : Item) (ws : List Spot) (r : Result (List Item) ReadFault) → (t.place ≡ w.place) × (t.token.part ≡ w.bytes) × Listed w.bytes t.token.kind → Judged ws r → Judged (w ∷ ws) (before (t ∷ []) r)
judged_more w t ws (Ok ts) h j = (h.0, h.1, h.2, j)
judged_more w t ws (Err (Scan e)) h j = j
judged_more w t ws (Err (Unlisted p)) h j = later w t ws p h j
judged_more w t ws (Err (OutOfRange p)) h j = later w t ws p h j
judged_more w t ws (Err (TooMany p)) h j = j

-- the first word is refused
at_once : {R : List ℕ → Type 0} (w : Spot) (ws : List Spot) → R w.bytes → FirstRefused R (w ∷ ws) w.place
at_once w ws h = record { front = []; tokens = []; word = w; behind = ws; made_up = refl; front_listed = tt; refused = h; place = refl }

judged_one : (w : Spot) (ws : List Spot) (a : Result Lexeme WordFault) (r : Result (List Item) ReadFault) → TokenVerdict w.bytes a → Judged ws r → Judged (w ∷ ws) (joined (placed_at w.place a) r)
judged_one w ws (Ok l) r v j = judged_more w (record { token = l; place = w.place }) ws r (refl, v.0, v.1) j
judged_one w ws (Err UnlistedWord) r v j = at_once w ws v
judged_one w ws (Err WordOutOfRange) r v j = at_once w ws v

judged_each : (ws : List Spot) → Judged ws (judged ws)
judged_each [] = tt
judged_each (w ∷ ws) = judged_one w ws (named w.bytes (kind_of w.bytes)) (judged ws) (word_verdict w.bytes) (judged_each ws)

same_count : (ws : List Spot) (ts : List Item) → Tokens ws ts → length ws ≡ length ts
same_count [] [] h = refl
same_count [] (t ∷ ts) h = absurd h
same_count (w ∷ ws) [] h = absurd h
same_count (w ∷ ws) (t ∷ ts) h = ap suc (same_count ws ts h.3)

-- the word at index n, with those before and behind it
record At (n : ℕ) (ws : List Spot) (p : Place) : Type 0 where
  front : List Spot
  word : Spot
  behind : List Spot
  made_up : ws ≡ front ++ word ∷ behind
  long : length front ≡ n
  place : p ≡ word.place

word_at : (n : ℕ) (ws : List Spot) (ts : List Item) → Tokens ws ts → n < length ts → At n ws (get_or ts n blank_item).place
word_at n [] [] h l = absurd (omega arith)
word_at n [] (t ∷ ts) h l = absurd h
word_at n (w ∷ ws) [] h l = absurd h
word_at zero (w ∷ ws) (t ∷ ts) h l = record { front = []; word = w; behind = ws; made_up = refl; long = refl; place = h.0 }
word_at (suc n) (w ∷ ws) (t ∷ ts) h l =
    let a = word_at n ws ts h.3 (omega arith) in
    record {
      front = w ∷ a.front;
      word = a.word;
      behind = a.behind;
      made_up = ap (λ us. w ∷ us) a.made_up;
      long = ap suc a.long;
      place = a.place;
    }

-- by the outcome of the test of how many tokens there are
capped_tokens : (text : List ℕ) (ws : List Spot) (ts : List Item) (b : Bool) → leb (length ts) most ≡ b → Scanned text (Ok ws) → Tokens ws ts → Verdict text (cond b (Ok ts) (Err (TooMany (get_or ts most blank_item).place)))
capped_tokens text ws ts true e cut h = record { words = ws; cut = cut; so = (h, omega (arith, leb-true, e)) }
capped_tokens text ws ts false e cut h =
    let a = word_at most ws ts h (omega (arith, leb-false, e)) in
    record {
      words = ws;
      cut = cut;
      so = record { front = a.front; tokens = ts; word = a.word; behind = a.behind; made_up = a.made_up; all_listed = h; full = a.long; place = a.place };
    }

capped_verdict : (text : List ℕ) (ws : List Spot) (r : Result (List Item) ReadFault) → Scanned text (Ok ws) → Judged ws r → Verdict text (capped r)
capped_verdict text ws (Ok ts) cut j = capped_tokens text ws ts (leb (length ts) most) refl cut j
capped_verdict text ws (Err (Scan e)) cut j = absurd j
capped_verdict text ws (Err (Unlisted p)) cut j = record { words = ws; cut = cut; so = j }
capped_verdict text ws (Err (OutOfRange p)) cut j = record { words = ws; cut = cut; so = j }
capped_verdict text ws (Err (TooMany p)) cut j = absurd j

scanned_verdict : (text : List ℕ) (s : Result (List Spot) ScanFault) → Scanned text s → Verdict text (capped (judged_all s))
scanned_verdict text (Ok ws) v = capped_verdict text ws (judged ws) v (judged_each ws)
scanned_verdict text (Err e) v = v

pub verdict_of : (text : List ℕ) → Verdict text (read_of text)
verdict_of text = scanned_verdict text (scan_of text) (scan_verdict text)

-- a word whose token is t
token_is : (w : Spot) (t : Item) → t.place ≡ w.place → t.token.part ≡ w.bytes → Listed w.bytes t.token.kind → token_at w ≡ Ok t
token_is w t p d k = ap (placed_at w.place) (sym (only_word w.bytes (Ok t.token) (d, k))) ∙ ap (λ q. Ok (record { token = t.token; place = q })) (sym p)

before_one : (t : Item) (ts : List Item) (r : Result (List Item) ReadFault) → before (t ∷ []) (before ts r) ≡ before (t ∷ ts) r
before_one t ts (Ok us) = refl
before_one t ts (Err e) = refl

front_judged : (ws : List Spot) (ts : List Item) (us : List Spot) → Tokens ws ts → judged (ws ++ us) ≡ before ts (judged us)
front_judged [] [] us h = none (judged us)
  where
    none : (r : Result (List Item) ReadFault) → r ≡ before [] r
    none (Ok ts) = refl
    none (Err e) = refl
front_judged [] (t ∷ ts) us h = absurd h
front_judged (w ∷ ws) [] us h = absurd h
front_judged (w ∷ ws) (t ∷ ts) us h =
    ap (λ o. joined o (judged (ws ++ us))) (token_is w t h.0 h.1 h.2)
    ∙ ap (before (t ∷ [])) (front_judged ws ts us h.3)
    ∙ before_one t ts (judged us)

all_judged : (ws : List Spot) (ts : List Item) → Tokens ws ts → judged ws ≡ Ok ts
all_judged ws ts h = ap judged (sym (append-nil ws)) ∙ front_judged ws ts [] h ∙ ap Ok (append-nil ts)

refused_judged : {R : List ℕ → Type 0} (ws : List Spot) (p : Place) (e : WordFault) → ((w : List ℕ) → R w → TokenVerdict w (Err e)) → FirstRefused R ws p → judged ws ≡ joined (placed_at p (Err e)) (Ok [])
refused_judged ws p e says f =
    let word = f.word in
    let token : token_at word ≡ placed_at word.place (Err e) = ap (placed_at word.place) (sym (only_word word.bytes (Err e) (says word.bytes f.refused))) in
    ap judged f.made_up
    ∙ front_judged f.front f.tokens (word ∷ f.behind) f.front_listed
    ∙ ap (λ o. before f.tokens (joined o (judged f.behind))) token
    ∙ ap (λ q. joined (placed_at q (Err e)) (Ok [])) (sym f.place)

-- what the words are judged to be is what is read
read_words : (text : List ℕ) (ws : List Spot) (r : Result (List Item) ReadFault) → Scanned text (Ok ws) → judged ws ≡ r → capped r ≡ read_of text
read_words text ws r cut e = ap capped (sym e) ∙ ap (λ s. capped (judged_all s)) (only_scan text (Ok ws) cut)

pub only_verdict : (text : List ℕ) (a : Result (List Item) ReadFault) → Verdict text a → a ≡ read_of text
only_verdict text (Ok ts) v =
    sym (cond-true _ _ _ (le-leb (length ts) most v.so.1))
    ∙ read_words text v.words (Ok ts) v.cut (all_judged v.words ts v.so.0)
only_verdict text (Err (Scan e)) v = ap (λ s. capped (judged_all s)) (only_scan text (Err e) v)
only_verdict text (Err (Unlisted p)) v = read_words text v.words (Err (Unlisted p)) v.cut (refused_judged v.words p UnlistedWord (λ w h. h) v.so)
only_verdict text (Err (OutOfRange p)) v = read_words text v.words (Err (OutOfRange p)) v.cut (refused_judged v.words p WordOutOfRange (λ w h. h) v.so)
only_verdict text (Err (TooMany p)) v =
    let f = v.so in
    let ts = f.tokens in
    let sum : length v.words ≡ most + length (f.word ∷ f.behind) = ap length f.made_up ∙ length-append f.front (f.word ∷ f.behind) ∙ ap (λ n. n + length (f.word ∷ f.behind)) f.full in
    let more : most < length ts = omega (arith, same_count v.words ts f.all_listed) in
    let a = word_at most v.words ts f.all_listed more in
    let same : a.word ≡ f.word = same_word a.front f.front a.word f.word a.behind f.behind (a.long ∙ sym f.full) (sym a.made_up ∙ f.made_up) in
    ap (λ q. Err (TooMany q)) (f.place ∙ ap (λ (w : Spot). w.place) (sym same) ∙ sym a.place)
    ∙ sym (cond-false _ _ _ (lt-leb (length ts) most more))
    ∙ read_words text v.words (Ok ts) v.cut (all_judged v.words ts f.all_listed)

pub one_verdict : (text : List ℕ) → OneVerdict text
one_verdict text a b v w = only_verdict text a v ∙ sym (only_verdict text b w)
