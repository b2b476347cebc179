-- What `chunks_exact` gives, as a list. Assumes nothing.
use Rattle.std.proofs.Common.{◌≡◌, ℕ, zero, suc, ◌+◌, ◌/◌, ◌<◌, List, [], ◌∷◌, ◌++◌, length, take, drop, sym, refl, ap, ◌∙◌, subst, arith}
use Rattle.std.proofs.Math.Nat.{add-div_left}
use Rattle.std.proofs.lemmas.Iterator.{YieldsList}
use Rattle.std.proofs.lemmas.Iterator.Splits.{YieldsList-from_shown_while}
use Rattle.std.proofs.lemmas.List.{take_at, drop_at, length-append}
use Rattle.std.proofs.lemmas.Nat.{div_below}
use Rattle.std.specs.declared.slice.ChunksExact.{ChunksExact}
use Rattle.std.specs.Slice.Iter.{chunks_exact_rest, chunks_exact_size, chunks_exact_steps}

-- the first k pieces of n elements
abbrev pub pieces : {A : Type 0} → ℕ → ℕ → List A → List (List A)
pieces n zero xs = []
pieces n (suc k) xs = take n xs ∷ pieces n k (drop n xs)

pub length-pieces : {A : Type 0} (n k : ℕ) (xs : List A) → length (pieces n k xs) ≡ k
length-pieces n zero xs = refl
length-pieces n (suc k) xs = ap suc (length-pieces n k (drop n xs))

module _ {A : Type 0} where
  abbrev shown : ChunksExact A → List (List A)
  shown s = pieces (chunks_exact_size s) (length (chunks_exact_rest s) / chunks_exact_size s) (chunks_exact_rest s)

  shown_last : (s : ChunksExact A) → 0 < chunks_exact_size s → length (chunks_exact_rest s) < chunks_exact_size s → length (shown s) ≡ 0
  shown_last s some short =
      let none : length (chunks_exact_rest s) / chunks_exact_size s < 1 = div_below (length (chunks_exact_rest s)) (chunks_exact_size s) 1 some (omega arith) in
      length-pieces (chunks_exact_size s) (length (chunks_exact_rest s) / chunks_exact_size s) (chunks_exact_rest s) ∙ omega arith

  shown_more : (s t : ChunksExact A) (x : List A) → 0 < chunks_exact_size s → chunks_exact_size t ≡ chunks_exact_size s → chunks_exact_rest s ≡ x ++ chunks_exact_rest t → length x ≡ chunks_exact_size s → shown s ≡ x ∷ shown t
  shown_more s t x some same e long =
      let n = chunks_exact_size s in
      let rest = chunks_exact_rest t in
      let count : length (chunks_exact_rest s) / n ≡ suc (length rest / n) =
      ap (λ ys. length ys / n) e ∙ ap (λ j. j / n) (length-append x rest ∙ ap (λ j. j + length rest) long) ∙ add-div_left (length rest) some ∙ omega arith in
      ap (λ k. pieces n k (chunks_exact_rest s)) count
      ∙ ap (λ ys. take n ys ∷ pieces n (length rest / n) (drop n ys)) e
      ∙ ap (λ ys. ys ∷ pieces n (length rest / n) (drop n (x ++ rest))) (take_at x rest n long)
      ∙ ap (λ ys. x ∷ pieces n (length rest / n) ys) (drop_at x rest n long)
      ∙ ap (λ j. x ∷ pieces j (length rest / j) rest) (sym same)

  pub YieldsList-from_chunks_exact : {s : ChunksExact A} (n : ℕ) (xs : List A) → 0 < n → chunks_exact_rest s ≡ xs → chunks_exact_size s ≡ n → YieldsList (chunks_exact_steps {A = A}) (λ x. x.now) s (pieces n (length xs / n) xs)
  YieldsList-from_chunks_exact {s} n xs some rest size =
      let all = YieldsList-from_shown_while (chunks_exact_steps {A = A}) (λ x. x.now) shown (λ s. 0 < chunks_exact_size s)
      (λ s t p q. shown_last s p q.1.0)
      (λ s x t p q. (let same = q.0 in omega arith, shown_more s t x.now p q.0 q.1.0 q.1.1))
      s (rw size some) in
      let e : shown s ≡ pieces n (length xs / n) xs = ap (λ k. pieces k (length (chunks_exact_rest s) / k) (chunks_exact_rest s)) size ∙ ap (λ ys. pieces n (length ys / n) ys) rest in
      subst (YieldsList (chunks_exact_steps {A = A}) (λ x. x.now) s) e all
