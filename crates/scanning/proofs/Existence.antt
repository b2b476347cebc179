-- Every text begins with a piece, is empty, or has something wrong at its front; so the rules judge it. Assumes nothing.
use Rattle.std.proofs.Common.{◌≡◌, ℕ, zero, suc, ◌<◌, ◌≤◌, true, false, ◌⊎◌, List, [], ◌∷◌, ◌++◌, length, get_or, Ok, Err, Result, sym, refl, ap, ◌∙◌, subst, inl, inr, append_assoc, arith}
use Rattle.std.proofs.lemmas.List.{length-append}
use Rattle.std.proofs.lemmas.Bool.{cases_Bool, cases_eq}
use Rattle.faults.specs.declared.Place.{Place}
use Rattle.scanning.specs.declared.ScanFault.{ScanFault}
use Rattle.scanning.specs.declared.ScanFault.TheVariants.{TooLong, Byte, Unclosed}
use Rattle.scanning.specs.Text.{walk, white, allowed, bracket, in_run}
use Rattle.scanning.specs.Pieces.{Piece, blank, remark, block, word, spelled, OneLine, NeverClosed, Running, RunOver, Stands, Cut, Spot, words_from, place_behind}
use Rattle.scanning.proofs.Bytes.{same_first, else_bad}

-- a front of one line, and a line feed or the end behind it
record LineOf (bs : List ℕ) : Type 0 where
  front : List ℕ
  after : List ℕ
  is : bs ≡ front ++ after
  one : OneLine front
  over : (length after ≡ 0) ⊎ (get_or after 0 0 ≡ 10)

line_of : (bs : List ℕ) → LineOf bs
line_of [] = record { front = []; after = []; is = refl; one = tt; over = inl refl }
line_of (b ∷ bs) = go (cases_eq b 10) (line_of bs)
  where
    go : (b ≡ 10) ⊎ (b ≡ 10 → ⊥) → LineOf bs → LineOf (b ∷ bs)
    go (inl e) l = record { front = []; after = b ∷ bs; is = refl; one = tt; over = inr e }
    go (inr e) l = record { front = b ∷ l.front; after = l.after; is = ap (λ t. b ∷ t) l.is; one = (e, l.one); over = l.over }

-- a front to the first close
record Closed (bs : List ℕ) : Type 0 where
  front : List ℕ
  after : List ℕ
  is : bs ≡ front ++ 42 ∷ 47 ∷ after
  first : NeverClosed (front ++ 42 ∷ [])

close_here : (b : ℕ) (bs : List ℕ) → b ≡ 42 → get_or bs 0 0 ≡ 47 → Closed (b ∷ bs)
close_here b [] e f = absurd (omega arith)
close_here b (c ∷ bs) e f = record {
  front = [];
  after = bs;
  is = ap (λ x. x ∷ c ∷ bs) e ∙ ap (λ x. 42 ∷ x ∷ bs) f;
  first = (λ z. omega (arith, z.1), tt);
}

close_of : (bs : List ℕ) → Closed bs ⊎ NeverClosed bs
close_of [] = inr tt
close_of (b ∷ bs) = go (cases_eq b 42) (cases_eq (get_or bs 0 0) 47) (close_of bs)
  where
    later : ((b ≡ 42) × (get_or bs 0 0 ≡ 47) → ⊥) → Closed bs ⊎ NeverClosed bs → Closed (b ∷ bs) ⊎ NeverClosed (b ∷ bs)
    later e (inl l) = inl (record {
      front = b ∷ l.front;
      after = l.after;
      is = ap (λ t. b ∷ t) l.is;
      first = (λ z. e (z.0, ap (λ t. get_or t 0 0) l.is ∙ same_first l.front 42 (47 ∷ l.after) [] ∙ z.1), l.first);
    })
    later e (inr l) = inr (e, l)

    go : (b ≡ 42) ⊎ (b ≡ 42 → ⊥) → (get_or bs 0 0 ≡ 47) ⊎ (get_or bs 0 0 ≡ 47 → ⊥) → Closed bs ⊎ NeverClosed bs → Closed (b ∷ bs) ⊎ NeverClosed (b ∷ bs)
    go (inl e) (inl f) l = inl (close_here b bs e f)
    go (inl e) (inr f) l = later (λ z. f z.1) l
    go (inr e) f l = later (λ z. e z.0) l

-- a longest run at the front
record RunOf (bs : List ℕ) : Type 0 where
  front : List ℕ
  after : List ℕ
  is : bs ≡ front ++ after
  running : Running front after
  over : RunOver after

run_of : (bs : List ℕ) → RunOf bs
run_of [] = record { front = []; after = []; is = refl; running = tt; over = inl refl }
run_of (b ∷ bs) = go (cases_Bool (in_run b (get_or bs 0 0))) (run_of bs)
  where
    go : (in_run b (get_or bs 0 0) ≡ true) ⊎ (in_run b (get_or bs 0 0) ≡ false) → RunOf bs → RunOf (b ∷ bs)
    go (inl e) l = record {
      front = b ∷ l.front;
      after = l.after;
      is = ap (λ t. b ∷ t) l.is;
      running = (subst (λ t. in_run b (get_or t 0 0) ≡ true) l.is e, l.running);
      over = l.over;
    }
    go (inr e) l = record { front = []; after = b ∷ bs; is = refl; running = tt; over = inr e }

-- what a text begins with
data First (text : List ℕ) : Type 0 where
  ended : text ≡ [] → First text
  piece : (q : Piece) (after : List ℕ) → text ≡ spelled q ++ after → Stands q after → 0 < length (spelled q) → First text
  bad : (b : ℕ) (rest : List ℕ) → text ≡ b ∷ rest → allowed b ≡ false → First text
  unclosed : (rest : List ℕ) → text ≡ 47 ∷ 42 ∷ rest → NeverClosed rest → First text

at_slash : (b : ℕ) (bs : List ℕ) → b ≡ 47 → get_or bs 0 0 ≡ 42 → First (b ∷ bs)
at_slash b [] e f = absurd (omega arith)
at_slash b (c ∷ bs) e f = go (close_of bs)
  where
    opens : b ∷ c ∷ bs ≡ 47 ∷ 42 ∷ bs
    opens = ap (λ x. x ∷ c ∷ bs) e ∙ ap (λ x. 47 ∷ x ∷ bs) f

    go : Closed bs ⊎ NeverClosed bs → First (b ∷ c ∷ bs)
    go (inl l) = piece (block l.front) l.after (opens ∙ ap (λ t. 47 ∷ 42 ∷ t) (l.is ∙ sym (append_assoc l.front (42 ∷ 47 ∷ []) l.after))) l.first (omega arith)
    go (inr l) = unclosed bs opens l

at_run : (b : ℕ) (bs : List ℕ) → in_run b (get_or bs 0 0) ≡ true → First (b ∷ bs)
at_run b bs e =
    let l = run_of bs in
    let first : in_run b (get_or (l.front ++ l.after) 0 0) ≡ true = subst (λ t. in_run b (get_or t 0 0) ≡ true) l.is e in
    piece (word (b ∷ l.front)) l.after (ap (λ t. b ∷ t) l.is) (inr (omega arith, (first, l.running), l.over)) (omega arith)

at_remark : (b : ℕ) (bs : List ℕ) → b ≡ 59 → First (b ∷ bs)
at_remark b bs e =
    let l = line_of bs in
    piece (remark l.front) l.after (ap (λ x. x ∷ bs) e ∙ ap (λ t. 59 ∷ t) l.is) (l.one, l.over) (omega arith)

-- a byte that separates nothing
at_word : (b : ℕ) (bs : List ℕ) → white b ≡ false → (b ≡ 59 → ⊥) → ((b ≡ 47) × (get_or bs 0 0 ≡ 42) → ⊥) → First (b ∷ bs)
at_word b bs w r o =
    elim (cases_Bool (bracket b)) [
      | inl k ↦ piece (word (b ∷ [])) bs refl (inl (refl, k)) (omega arith)
      | inr k ↦
          elim (cases_Bool (in_run b (get_or bs 0 0))) [
            | inl i ↦ at_run b bs i
            | inr i ↦ bad b bs refl (else_bad b (get_or bs 0 0) w r o k i)
          ]
    ]

first_of : (text : List ℕ) → First text
first_of [] = ended refl
first_of (b ∷ bs) =
    elim (cases_Bool (white b)) [
      | inl w ↦ piece (blank b) bs refl w (omega arith)
      | inr w ↦
          elim (cases_eq b 59) [
            | inl r ↦ at_remark b bs r
            | inr r ↦
                elim (cases_eq b 47) [
                  | inl e ↦ elim (cases_eq (get_or bs 0 0) 42) [ inl f ↦ at_slash b bs e f | inr f ↦ at_word b bs w r (λ z. f z.1) ]
                  | inr e ↦ at_word b bs w r (λ z. e z.0)
                ]
          ]
    ]

-- the verdict on a text of any length that stands from p on
abbrev pub Judged : Place → List ℕ → Result (List Spot) ScanFault → Type 0
Judged p text (Ok ws) = (ps : List Piece) × Cut ps text [] × (ws ≡ words_from p ps)
Judged p text (Err TooLong) = ⊥
Judged p text (Err (Byte q)) = (ps : List Piece) × (b : ℕ) × (rest : List ℕ) × Cut ps text (b ∷ rest) × (allowed b ≡ false) × (q ≡ place_behind p ps)
Judged p text (Err (Unclosed q)) = (ps : List Piece) × (rest : List ℕ) × Cut ps text (47 ∷ 42 ∷ rest) × NeverClosed rest × (q ≡ place_behind p ps)

abbrev SomeJudged : Place → List ℕ → Type 0
SomeJudged p text = (a : Result (List Spot) ScanFault) × Judged p text a

-- a piece in front
more : (q : Piece) (p : Place) (text after : List ℕ) → text ≡ spelled q ++ after → Stands q after → (a : Result (List Spot) ScanFault) → Judged (walk p (spelled q)) after a → SomeJudged p text
more q p text after e s (Ok ws) h = (Ok (words_from p (q ∷ h.0)), (q ∷ h.0, (after, e, s, h.1), refl))
more q p text after e s (Err TooLong) h = absurd h
more q p text after e s (Err (Byte r)) h = (Err (Byte r), (q ∷ h.0, h.1, h.2, (after, e, s, h.3), h.4, h.5))
more q p text after e s (Err (Unclosed r)) h = (Err (Unclosed r), (q ∷ h.0, h.1, (after, e, s, h.2), h.3, h.4))

begin : (k : ℕ) (p : Place) (text : List ℕ) → length text ≤ k → ((q : Place) (t : List ℕ) → length t < k → SomeJudged q t) → First text → SomeJudged p text
begin k p text h ih (ended e) = (Ok [], ([], e, refl))
begin k p text h ih (piece q after e s some) =
    let less : length after < k = omega (arith, ap length e, length-append (spelled q) after) in
    let j = ih (walk p (spelled q)) after less in
    more q p text after e s j.0 j.1
begin k p text h ih (bad b rest e n) = (Err (Byte p), ([], b, rest, e, n, refl))
begin k p text h ih (unclosed rest e n) = (Err (Unclosed p), ([], rest, e, n, refl))

pub judged_by : (k : ℕ) (p : Place) (text : List ℕ) → length text < k → (a : Result (List Spot) ScanFault) × Judged p text a
judged_by zero p text h = absurd (omega arith)
judged_by (suc k) p text h = begin k p text (omega arith) (judged_by k) (first_of text)
