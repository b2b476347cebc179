-- Lines are the parts between line feeds. Assumes nothing.
use Rattle.std.proofs.Common.{◌≡◌, ℕ, suc, zero, ◌+◌, ◌-◌, cond, Bool, true, false, eqb, List, [], ◌∷◌, get_or, take, drop, refl, sym, ap, ◌∙◌, add-one, arith}
use Rattle.std.proofs.lemmas.Bool.{cond-false, lt-leb}
use Rattle.std.specs.List.{slice_split, onto_first}
use Rattle.reporting.specs.Lines.{line_start, line_length, line_of}

-- the parts of a text
abbrev pub parts : List ℕ → List (List ℕ)
parts text = slice_split (λ b. eqb b 10) text

-- a byte goes onto the first part and leaves the others
onto_later : (b n : ℕ) (ps : List (List ℕ)) → get_or (onto_first b ps) (suc n) [] ≡ get_or ps (suc n) []
onto_later b n [] = refl
onto_later b n (p ∷ ps) = refl

first_more : (t : Bool) (b n : ℕ) (bs : List ℕ) (ps : List (List ℕ)) → get_or ps 0 [] ≡ take n bs → get_or (cond t ([] ∷ ps) (onto_first b ps)) 0 [] ≡ take (cond t 0 (n + 1)) (b ∷ bs)
first_more true b n bs ps h = refl
first_more false b n bs [] h = rw add-one (ap (λ x. b ∷ x) h)
first_more false b n bs (p ∷ ps) h = rw add-one (ap (λ x. b ∷ x) h)

first_part : (text : List ℕ) → get_or (parts text) 0 [] ≡ take (line_length text) text
first_part [] = refl
first_part (b ∷ bs) = first_more (eqb b 10) b (line_length bs) bs (parts bs) (first_part bs)

-- the bytes from s on up to a line feed
line_from : ℕ → List ℕ → List ℕ
line_from s text = take (line_length (drop s text)) (drop s text)

later_more : (t : Bool) (b n : ℕ) (bs : List ℕ) (ps : List (List ℕ)) → line_of (suc n) bs ≡ get_or ps n [] → line_of (suc (suc n)) bs ≡ get_or ps (suc n) [] → line_from (line_start (cond t (suc n) (suc (suc n))) bs + 1) (b ∷ bs) ≡ get_or (cond t ([] ∷ ps) (onto_first b ps)) (suc n) []
unfolding line_from
later_more true b n bs ps here more = rw add-one here
later_more false b n bs ps here more = rw add-one (more ∙ sym (onto_later b n ps))

no_part : (n : ℕ) → get_or {A = List ℕ} ([] ∷ []) n [] ≡ []
no_part zero = refl
no_part (suc n) = refl

line_more : (n : ℕ) (text : List ℕ) → line_of (suc n) text ≡ get_or (parts text) n []
unfolding line_from
line_more n [] = sym (no_part n)
line_more zero (b ∷ bs) = sym (first_part (b ∷ bs))
line_more (suc n) (b ∷ bs) =
    let e : suc (suc n) - 1 ≡ suc n = omega arith in
    ap (λ s. line_from s (b ∷ bs)) (cond-false _ _ _ (lt-leb (suc (suc n)) 1 (omega arith)))
    ∙ ap (λ k. line_from (line_start (cond (eqb b 10) k (suc (suc n))) bs + 1) (b ∷ bs)) e
    ∙ later_more (eqb b 10) b n bs (parts bs) (line_more n bs) (line_more (suc n) bs)

-- a line is the part of that number
pub line_is_part : (line : ℕ) (text : List ℕ) → line_of line text ≡ get_or (parts text) (line - 1) []
line_is_part zero [] = refl
line_is_part zero (b ∷ bs) = sym (first_part (b ∷ bs))
line_is_part (suc n) text =
    let e : n ≡ suc n - 1 = omega arith in
    line_more n text ∙ ap (λ k. get_or (parts text) k []) e
