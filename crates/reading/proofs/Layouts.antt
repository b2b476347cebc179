-- Each token stands at its place. Assumes nothing.
use Rattle.std.proofs.Common.{◌≡◌, ℕ, List, [], ◌∷◌, ◌++◌, Ok, Err, Result, sym, refl, ap, ◌∙◌, subst, append_assoc}
use Rattle.faults.specs.declared.Place.{Place}
use Rattle.scanning.specs.Text.{start, past, walk}
use Rattle.scanning.specs.Pieces.{Piece, blank, remark, block, word, spelled, Cut, Spot, words_from}
use Rattle.reading.specs.declared.ReadFault.{ReadFault}
use Rattle.reading.specs.Items.{Item}
use Rattle.reading.specs.Layout.{EachInPlace, AllInPlace}
use Rattle.reading.specs.Verdict.{Tokens, Verdict}

walk_append : (p : Place) (xs ys : List ℕ) → walk (walk p xs) ys ≡ walk p (xs ++ ys)
walk_append p [] ys = refl
walk_append p (x ∷ xs) ys = walk_append (past p x) xs ys

-- the word's bytes stand at its place, in a text that begins at p
record Stood (p : Place) (text : List ℕ) (w : Spot) : Type 0 where
  front : List ℕ
  behind : List ℕ
  made_up : text ≡ front ++ (w.bytes ++ behind)
  place : w.place ≡ walk p front

abbrev Each : Place → List ℕ → List Spot → Type 0
Each p text [] = Unit {0}
Each p text (w ∷ ws) = Stood p text w × Each p text ws

-- what stands in the text behind xs stands in the whole
moved : (p : Place) (text xs after : List ℕ) (ws : List Spot) → text ≡ xs ++ after → Each (walk p xs) after ws → Each p text ws
moved p text xs after [] e h = tt
moved p text xs after (w ∷ ws) e h =
    let s = h.0 in (
      record {
        front = xs ++ s.front;
        behind = s.behind;
        made_up = e ∙ ap (λ ys. xs ++ ys) s.made_up ∙ sym (append_assoc xs s.front (w.bytes ++ s.behind));
        place = s.place ∙ walk_append p xs s.front;
      },
      moved p text xs after ws e h.1,
    )

words_stand : (ps : List Piece) (p : Place) (text rest : List ℕ) → Cut ps text rest → Each p text (words_from p ps)
words_stand [] p text rest c = tt
words_stand (blank b ∷ ps) p text rest c = moved p text (spelled (blank b)) c.0 _ c.1 (words_stand ps (walk p (spelled (blank b))) c.0 rest c.3)
words_stand (remark cs ∷ ps) p text rest c = moved p text (spelled (remark cs)) c.0 _ c.1 (words_stand ps (walk p (spelled (remark cs))) c.0 rest c.3)
words_stand (block cs ∷ ps) p text rest c = moved p text (spelled (block cs)) c.0 _ c.1 (words_stand ps (walk p (spelled (block cs))) c.0 rest c.3)
words_stand (word w ∷ ps) p text rest c = (
  record { front = []; behind = c.0; made_up = c.1; place = refl },
  moved p text w c.0 _ c.1 (words_stand ps (walk p w) c.0 rest c.3),
)

tokens_stand : (text : List ℕ) (ws : List Spot) (ts : List Item) → Tokens ws ts → Each start text ws → EachInPlace text ts
tokens_stand text [] [] h e = tt
tokens_stand text [] (t ∷ ts) h e = absurd h
tokens_stand text (w ∷ ws) [] h e = tt
tokens_stand text (w ∷ ws) (t ∷ ts) h e =
    let s = e.0 in (
      record {
        front = s.front;
        behind = s.behind;
        made_up = s.made_up ∙ ap (λ d. s.front ++ (d ++ s.behind)) (sym h.1);
        place = h.0 ∙ s.place;
      },
      tokens_stand text ws ts h.3 e.1,
    )

-- whatever the verdict is
pub all_in_place : (text : List ℕ) (r : Result (List Item) ReadFault) → Verdict text r → AllInPlace text r
all_in_place text (Ok ts) v =
    let c = v.cut.1 in
    tokens_stand text v.words ts v.so.0 (subst (Each start text) (sym c.2) (words_stand c.0 start text [] c.1))
all_in_place text (Err e) v = tt
