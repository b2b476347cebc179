-- Sound code, place by place. Assumes nothing.
use Rattle.std.proofs.Common.{◌≡◌, ℕ, zero, suc, ◌+◌, ◌-◌, ◌<◌, ◌≤◌, Bool, true, false, not, ◌&&◌, ltb, leb, List, [], ◌∷◌, ◌++◌, length, get_or, drop, replicate, slice_range, sym, refl, ap, ◌∙◌, arith, ltb-false, ltb-true, leb-true}
use Rattle.std.specs.Bool.{MatchBool}
use Rattle.std.proofs.lemmas.Bool.{and_parts, and_right}
use Rattle.std.specs.List.{AllWithin, HoldsAt, range_with_len}
use Rattle.std.proofs.lemmas.List.{get_or_past, get_or-take, get_or-drop, length-take-le, length-drop}
use Rattle.std.proofs.lemmas.List.FromFn.{get_or-range_with_len, length-range_with_len}
use Rattle.program.specs.declared.instruction.Instruction.{Instruction}
use Rattle.program.specs.declared.instruction.Instruction.TheVariants.{Return, Load, Apply, Open, Close, StoreBit, StoreWord, Switch, Test, Skip, Call}
use Rattle.program.specs.Sound.{known, inside, skipped, ends, unbroken, fine, fine_as, all_fine, sound, padded}

-- what is known of an instruction that may stand where it stands
pub fine_inside : (code : List Instruction) (len n : ℕ) → fine code len n ≡ true → inside len n (get_or code n Return) ≡ true
fine_inside code len n e = (and_parts _ _ (and_parts _ _ e).1).0

-- behind the code stands nothing but `Return`
pub behind : (code : List Instruction) (len n : ℕ) → fine code len n ≡ true → len ≤ n → get_or code n Return ≡ Return
behind code len n e h = go (get_or code n Return) (fine_inside code len n e)
  where
    past : (m : ℕ) → len ≤ m → ltb m len ≡ true → ⊥
    past m l q = let less : m < len = ltb-true m len q in omega arith

    go : (i : Instruction) → inside len n i ≡ true → i ≡ Return
    go Return q = refl
    go (Load x) q = absurd (past (n + 1) (omega arith) q)
    go (Apply o x) q = absurd (past (n + 1) (omega arith) q)
    go (Open j) q = absurd (past (n + 1) (omega arith) q)
    go Close q = absurd (past (n + 1) (omega arith) q)
    go (StoreBit c k) q = absurd (past (n + 1) (omega arith) q)
    go (StoreWord c k) q = absurd (past (n + 1) (omega arith) q)
    go (Switch c on) q = absurd (past (n + 1) (omega arith) q)
    go (Test x k) q = absurd (past (n + 1 + k) (omega arith) q)
    go (Skip k) q = absurd (past (n + 1 + k) (omega arith) q)
    go (Call m) q =
        let both = and_parts (ltb n m) (ltb m len) q in
        let first : n < m = ltb-true n m both.0 in
        absurd (past m (omega arith) both.1)

-- a module that ends among the first instructions ends among more
broken : (code : List Instruction) (n k count : ℕ) → k < count → ends (get_or code (n + k) Return) ≡ true → unbroken code n count ≡ false
broken code n k zero h e = let none : ⊥ = omega arith in elim none [ ]
broken code n k (suc count) h e = go (ltb k count) refl (λ l. broken code n k count l e)
  where
    go : (b : Bool) → ltb k count ≡ b → (k < count → unbroken code n count ≡ false) → unbroken code n (suc count) ≡ false
    go true q before = ap (λ (b : Bool). b && not (ends (get_or code (n + count) Return))) (before (ltb-true k count q))
    go false q before =
        let le : count ≤ k = ltb-false k count q in
        let same : k ≡ count = omega arith in
        let ended : ends (get_or code (n + count) Return) ≡ true = sym (ap (λ (m : ℕ). ends (get_or code (n + m) Return)) same) ∙ e in
        and_right (unbroken code n count) (not (ends (get_or code (n + count) Return))) (ap not ended)

-- no module ends among instructions none of which ends one
unbroken_each : (code : List Instruction) (n count : ℕ) → ((k : ℕ) → k < count → ends (get_or code (n + k) Return) ≡ false) → unbroken code n count ≡ true
unbroken_each code n zero h = refl
unbroken_each code n (suc count) h =
    let before = unbroken_each code n count (λ k l. h k (omega arith)) in
    let here = h count (omega arith) in λ i. before i && not (here i)

-- what is found in a slice of the code
pub unbroken_slice : (code xs : List Instruction) (n count : ℕ) (r : Bool) → n + count ≤ length code → xs ≡ slice_range code n (n + count)
    → MatchBool r (AllWithin (λ i. ends i ≡ false) xs 0 (length xs)) ((k : ℕ) × (k < length xs) × HoldsAt (λ i. ends i ≡ true) xs k) → r ≡ unbroken code n count
unbroken_slice code xs n count r h e = go r
  where
    long : length xs ≡ count
    long = ap length e ∙ omega (arith, length-take-le (n + count - n) (drop n code), length-drop n code)

    read : (k : ℕ) → k < count → get_or xs k Return ≡ get_or code (n + k) Return
    read k l = ap (λ (ys : List Instruction). get_or ys k Return) e ∙ get_or-take (n + count - n) (drop n code) k Return (omega arith) ∙ get_or-drop n code k Return

    go : (r : Bool) → MatchBool r (AllWithin (λ i. ends i ≡ false) xs 0 (length xs)) ((k : ℕ) × (k < length xs) × HoldsAt (λ i. ends i ≡ true) xs k) → r ≡ unbroken code n count
    go true none = sym (unbroken_each code n count (λ k l. sym (ap ends (read k l)) ∙ none k Return (omega arith) (omega (arith, long))))
    go false (k, l, is) = let inside : k < count = omega (arith, long) in sym (broken code n k count inside (sym (ap ends (read k inside)) ∙ is Return))

not_all_fine : (code : List Instruction) (len n count : ℕ) → n < count → fine code len n ≡ false → all_fine code len count ≡ false
not_all_fine code len n zero h e = let none : ⊥ = omega arith in elim none [ ]
not_all_fine code len n (suc count) h e = go (ltb n count) refl (λ l. not_all_fine code len n count l e)
  where
    go : (b : Bool) → ltb n count ≡ b → (n < count → all_fine code len count ≡ false) → all_fine code len (suc count) ≡ false
    go true q before = ap (λ (b : Bool). b && fine code len count) (before (ltb-true n count q))
    go false q before =
        let le : count ≤ n = ltb-false n count q in
        let same : n ≡ count = omega arith in
        let bad : fine code len count ≡ false = sym (ap (fine code len) same) ∙ e in
        and_right (all_fine code len count) (fine code len count) bad

each_all_fine : (code : List Instruction) (len count : ℕ) → ((n : ℕ) → n < count → fine code len n ≡ true) → all_fine code len count ≡ true
each_all_fine code len zero h = refl
each_all_fine code len (suc count) h =
    let before = each_all_fine code len count (λ n l. h n (omega arith)) in
    let here = h count (omega arith) in λ i. before i && here i

-- what is found at the places of the code, one after the other
pub all_fine_places : (code : List Instruction) (len : ℕ) (r : Bool)
    → MatchBool r (AllWithin (λ n. fine code len n ≡ true) (range_with_len 0 len) 0 (length (range_with_len 0 len))) ((k : ℕ) × (k < length (range_with_len 0 len)) × HoldsAt (λ n. fine code len n ≡ false) (range_with_len 0 len) k) → r ≡ all_fine code len len
all_fine_places code len r = go r
  where
    place : (k : ℕ) → k < len → get_or (range_with_len 0 len) k 0 ≡ k
    place k l = omega (arith, get_or-range_with_len 0 len k 0 l)

    go : (r : Bool) → MatchBool r (AllWithin (λ n. fine code len n ≡ true) (range_with_len 0 len) 0 (length (range_with_len 0 len))) ((k : ℕ) × (k < length (range_with_len 0 len)) × HoldsAt (λ n. fine code len n ≡ false) (range_with_len 0 len) k) → r ≡ all_fine code len len
    go true each = sym (each_all_fine code len len (λ k l. sym (ap (fine code len) (place k l)) ∙ each k 0 (omega arith) (omega (arith, length-range_with_len 0 len))))
    go false (k, l, is) = let inside : k < len = omega (arith, length-range_with_len 0 len) in sym (not_all_fine code len k len inside (sym (ap (fine code len) (place k inside)) ∙ is 0))

-- where all are fine, each is
each_fine : (code : List Instruction) (len n count : ℕ) → n < count → all_fine code len count ≡ true → fine code len n ≡ true
each_fine code len n count h e = go (fine code len n) refl
  where
    go : (b : Bool) → fine code len n ≡ b → fine code len n ≡ true
    go true q = q
    go false q = q ∙ sym (not_all_fine code len n count h q) ∙ e

-- and so is each place behind them
everywhere : (code : List Instruction) (n : ℕ) → all_fine code (length code) (length code) ≡ true → fine code (length code) n ≡ true
everywhere code n e = go (ltb n (length code)) refl
  where
    go : (b : Bool) → ltb n (length code) ≡ b → fine code (length code) n ≡ true
    go true q = each_fine code (length code) n (length code) (ltb-true n (length code) q) e
    go false q = ap (fine_as code (length code) n) (get_or_past code n Return (ltb-false n (length code) q))

unbroken_same : (a b : List Instruction) → ((n : ℕ) → get_or a n Return ≡ get_or b n Return) → (n k : ℕ) → unbroken a n k ≡ unbroken b n k
unbroken_same a b h n zero = refl
unbroken_same a b h n (suc k) = λ i. unbroken_same a b h n k i && not (ends (h (n + k) i))

-- only the instruction at each place matters
fine_same : (a b : List Instruction) → ((n : ℕ) → get_or a n Return ≡ get_or b n Return) → (len n : ℕ) → fine a len n ≡ fine b len n
fine_same a b h len n =
    ap (λ (u : Bool). known (get_or a n Return) && (inside len n (get_or a n Return) && u)) (unbroken_same a b h (n + 1) (skipped (get_or a n Return)))
    ∙ ap (fine_as b len n) (h n)

pub only_returns : (m n : ℕ) → get_or (replicate m Return) n Return ≡ Return
only_returns zero n = refl
only_returns (suc m) zero = refl
only_returns (suc m) (suc n) = only_returns m n

pub get_d_padded : (code : List Instruction) (m n : ℕ) → get_or (code ++ replicate m Return) n Return ≡ get_or code n Return
get_d_padded [] m n = only_returns m n
get_d_padded (x ∷ xs) m zero = refl
get_d_padded (x ∷ xs) m (suc n) = get_d_padded xs m n

-- the code with `Return` behind it
pub padded_fine : (code : List Instruction) → all_fine code (length code) (length code) ≡ true → (n : ℕ) → fine (padded code) (length code) n ≡ true
padded_fine code e n = fine_same (padded code) code (get_d_padded code (2048 - length code)) (length code) n ∙ everywhere code n e

-- nothing but `Return`
pub returns_fine : (m len n : ℕ) → fine (replicate m Return) len n ≡ true
returns_fine m len n = ap (fine_as (replicate m Return) len n) (only_returns m n)

-- what it is to be sound, part by part
pub record Parts (code : List Instruction) (quick slow : ℕ) : Type 0 where
  pub short : length code ≤ 2048
  pub quick_inside : quick < length code
  pub slow_inside : slow < length code
  pub each : all_fine code (length code) (length code) ≡ true

pub parts : (code : List Instruction) (quick slow : ℕ) → sound code quick slow ≡ true → Parts code quick slow
parts code quick slow e =
    let len = length code in
    let all = all_fine code len len in
    let from = and_parts (leb len 2048) (ltb quick len && (ltb slow len && all)) e in
    let rest = and_parts (ltb quick len) (ltb slow len && all) from.1 in
    let last = and_parts (ltb slow len) all rest.1 in
    record { short = leb-true len 2048 from.0; quick_inside = ltb-true quick len rest.0; slow_inside = ltb-true slow len last.0; each = last.1 }
