-- Each piece, where it stands, is read as that piece. Assumes nothing.
use Rattle.std.proofs.Common.{◌≡◌, ℕ, zero, suc, ◌+◌, ◌<◌, ◌≤◌, true, false, ◌⊎◌, List, [], ◌∷◌, ◌++◌, length, get_or, take, drop, Some, None, Ok, Err, Result, sym, refl, ap, ◌∙◌, subst, inl, inr, append_assoc, append-nil, add-zero, add-one, arith}
use Rattle.std.proofs.Math.Seq.{take-append_seam, drop-append_seam}
use Rattle.std.proofs.lemmas.List.{length-append}
use Rattle.std.proofs.lemmas.Bool.{ne_eqb, eq-eqb, cond-true, cond-false}
use Rattle.faults.specs.declared.Place.{Place}
use Rattle.scanning.specs.declared.Mode.{Mode}
use Rattle.scanning.specs.declared.Mode.TheVariants.{Between, Line, Block}
use Rattle.scanning.specs.declared.ScanFault.{ScanFault}
use Rattle.scanning.specs.declared.ScanFault.TheVariants.{Byte, Unclosed}
use Rattle.scanning.specs.Text.{past, walk, allowed, bracket}
use Rattle.scanning.specs.Pieces.{Piece, blank, remark, block, word, spelled, OneLine, NeverClosed, Running, RunOver, Stands, Cut, Spot, words_from, place_behind}
use Rattle.scanning.specs.Scan.{mode_after, stands, refusal, skip_of, run_of, word_len, across, refused, found, next_at, next_of, before, words_by}
use Rattle.scanning.proofs.Bytes.{same_first, no_close, run_stops_skip, bracket_stops_skip, bad_stops_skip, run_no_bracket, bad_no_bracket, bad_no_run, past_run, past_bracket}

skip_on : (m n : Mode) (p : Place) (b : ℕ) (bs : List ℕ) → mode_after m p b (get_or bs 0 0) ≡ Some n → skip_of m p (b ∷ bs) ≡ skip_of n (past p b) bs
skip_on m n p b bs e = rw (skip_of, e)

skip_off : (m : Mode) (p : Place) (b : ℕ) (bs : List ℕ) → mode_after m p b (get_or bs 0 0) ≡ None → skip_of m p (b ∷ bs) ≡ stands p (b ∷ bs)
skip_off m p b bs e = rw (skip_of, e)

-- a comment to the end of its line
skip_line : (p : Place) (cs after : List ℕ) → OneLine cs → ((length after ≡ 0) ⊎ (get_or after 0 0 ≡ 10)) → skip_of Line p (cs ++ after) ≡ skip_of Between (walk p cs) after
skip_line p [] [] h e = refl
skip_line p [] (b ∷ after) h (inl e) = absurd (omega arith)
skip_line p [] (b ∷ after) h (inr e) = subst (λ x. skip_of Line p (x ∷ after) ≡ skip_of Between p (x ∷ after)) (sym e) refl
skip_line p (b ∷ cs) after h e =
    skip_on Line Line p b (cs ++ after) (cond-false _ _ _ (ne_eqb b 10 h.0)) ∙ skip_line (past p b) cs after h.1 e

-- a comment to its first close
skip_block : (o p : Place) (cs after : List ℕ) → NeverClosed (cs ++ 42 ∷ []) → skip_of (Block o) p (cs ++ 42 ∷ 47 ∷ after) ≡ skip_of Between (walk p (cs ++ 42 ∷ 47 ∷ [])) after
skip_block o p [] after h = refl
skip_block o p (b ∷ cs) after h =
    let here : (b ≡ 42) × (get_or (cs ++ 42 ∷ 47 ∷ after) 0 0 ≡ 47) → ⊥ = λ e. h.0 (e.0, same_first cs 42 [] (47 ∷ after) ∙ e.1) in
    skip_on (Block o) (Block o) p b (cs ++ 42 ∷ 47 ∷ after) (cond-false _ _ _ (no_close b _ here)) ∙ skip_block o (past p b) cs after h.1

-- a comment that is closed nowhere
skip_open : (o p : Place) (cs : List ℕ) → NeverClosed cs → skip_of (Block o) p cs ≡ refusal (Unclosed o)
skip_open o p [] h = refl
skip_open o p (b ∷ cs) h = skip_on (Block o) (Block o) p b cs (cond-false _ _ _ (no_close b _ h.0)) ∙ skip_open o (past p b) cs h.1

pub skip_remark : (p : Place) (cs after : List ℕ) → Stands (remark cs) after → skip_of Between p (spelled (remark cs) ++ after) ≡ skip_of Between (walk p (spelled (remark cs))) after
skip_remark p cs after h = skip_line (past p 59) cs after h.0 h.1

pub skip_closed : (p : Place) (cs after : List ℕ) → Stands (block cs) after → skip_of Between p (spelled (block cs) ++ after) ≡ skip_of Between (walk p (spelled (block cs))) after
skip_closed p cs after h =
    ap (skip_of (Block p) (past (past p 47) 42)) (append_assoc cs (42 ∷ 47 ∷ []) after) ∙ skip_block p (past (past p 47) 42) cs after h

-- the bytes of a run, and the place behind them
run_length : (w after : List ℕ) → Running w after → RunOver after → run_of (w ++ after) ≡ length w
run_length [] [] h e = refl
run_length [] (b ∷ after) h (inl e) = absurd (omega arith)
run_length [] (b ∷ after) h (inr e) = cond-false _ _ _ e
run_length (b ∷ w) after h e = cond-true _ _ _ h.0 ∙ add-one (run_of (w ++ after)) ∙ ap suc (run_length w after h.1 e)

across_more : (p : Place) (n : ℕ) → across (across p 1) n ≡ across p (suc n)
across_more p n = let e : p.column + 1 + n ≡ p.column + suc n = omega arith in ap (λ k. record { line = p.line; column = k }) e

walk_run : (p : Place) (w after : List ℕ) → Running w after → walk p w ≡ across p (length w)
walk_run p [] after h = ap (λ k. record { line = p.line; column = k }) (sym (add-zero p.column))
walk_run p (b ∷ w) after h =
    walk_run (past p b) w after h.1 ∙ ap (λ q. across q (length w)) (past_run p b _ h.0) ∙ across_more p (length w)

-- the word at the front, where nothing is skipped
next_found : (p : Place) (b : ℕ) (bs : List ℕ) (n : ℕ) → mode_after Between p b (get_or bs 0 0) ≡ None → word_len (b ∷ bs) ≡ suc n → next_of p (b ∷ bs) ≡ found p (take (suc n) (b ∷ bs)) (across p (suc n)) (drop (suc n) (b ∷ bs))
next_found p b bs n e l =
    ap next_at (skip_off Between p b bs e)
    ∙ cond-false _ _ _ (ne_eqb (suc (length bs)) 0 (λ z. omega arith))
    ∙ cond-false _ _ _ (ne_eqb (word_len (b ∷ bs)) 0 (λ z. omega (arith, l)))
    ∙ ap (λ k. found p (take k (b ∷ bs)) (across p k) (drop k (b ∷ bs))) l

-- a byte that may stand nowhere
next_bad : (p : Place) (b : ℕ) (bs : List ℕ) → allowed b ≡ false → next_of p (b ∷ bs) ≡ refused (Byte p)
next_bad p b bs h =
    let none : word_len (b ∷ bs) ≡ 0 = cond-false _ _ _ (bad_no_bracket b h) ∙ cond-false _ _ _ (bad_no_run b (get_or bs 0 0) h) in
    ap next_at (skip_off Between p b bs (bad_stops_skip p b (get_or bs 0 0) h))
    ∙ cond-false _ _ _ (ne_eqb (suc (length bs)) 0 (λ z. omega arith))
    ∙ cond-true _ _ _ (eq-eqb (word_len (b ∷ bs)) 0 none)

next_run : (p : Place) (b : ℕ) (w after : List ℕ) → Running (b ∷ w) after → RunOver after → next_of p (b ∷ (w ++ after)) ≡ found p (b ∷ w) (walk p (b ∷ w)) after
next_run p b w after h e =
    let long : word_len (b ∷ (w ++ after)) ≡ suc (length w) = cond-false _ _ _ (run_no_bracket b _ h.0) ∙ run_length (b ∷ w) after h e in
    next_found p b (w ++ after) (length w) (run_stops_skip p b _ h.0) long
    ∙ ap (λ v. found p (b ∷ v) (across p (suc (length w))) (drop (length w) (w ++ after))) (take-append_seam w after)
    ∙ ap (found p (b ∷ w) (across p (suc (length w)))) (drop-append_seam w after)
    ∙ ap (λ q. found p (b ∷ w) q after) (sym (walk_run p (b ∷ w) after h))

next_bracket : (p : Place) (b : ℕ) (after : List ℕ) → bracket b ≡ true → next_of p (b ∷ after) ≡ found p (b ∷ []) (past p b) after
next_bracket p b after h =
    next_found p b after 0 (bracket_stops_skip p b _ h) (cond-true _ _ _ h) ∙ ap (λ q. found p (b ∷ []) q after) (sym (past_bracket p b h))

pub next_word : (p : Place) (w after : List ℕ) → Stands (word w) after → next_of p (w ++ after) ≡ found p w (walk p w) after
next_word p [] after (inl h) = absurd (omega (arith, h.0))
next_word p (b ∷ []) after (inl h) = next_bracket p b after h.1
next_word p (b ∷ c ∷ w) after (inl h) = absurd (omega (arith, h.0))
next_word p [] after (inr h) = absurd (omega (arith, h.0))
next_word p (b ∷ w) after (inr h) = next_run p b w after h.1 h.2

pub word_some : (w after : List ℕ) → Stands (word w) after → 0 < length w
word_some w after (inl h) = omega (arith, h.0)
word_some w after (inr h) = h.0

-- what is left decides the words
words_same : (k : ℕ) (p q : Place) (bs cs : List ℕ) → skip_of Between p bs ≡ skip_of Between q cs → words_by k p bs ≡ words_by k q cs
words_same zero p q bs cs e = refl
words_same (suc k) p q bs cs e = rw (words_by, e)

words_refused : (k : ℕ) (p : Place) (bs : List ℕ) (e : ScanFault) → 0 < k → next_of p bs ≡ refused e → words_by k p bs ≡ Err e
words_refused zero p bs f h e = absurd (omega arith)
words_refused (suc k) p bs f h e = rw (words_by, e)

words_found : (k : ℕ) (p q : Place) (bs w rest : List ℕ) → next_of p bs ≡ found p w q rest → words_by (suc k) p bs ≡ before (record { place = p; bytes = w }) (words_by k q rest)
words_found k p q bs w rest e = rw (words_by, e)

-- words, and then what is told of the rest
abbrev pub join : List Spot → Result (List Spot) ScanFault → Result (List Spot) ScanFault
join ws (Ok vs) = Ok (ws ++ vs)
join ws (Err e) = Err e

join_none : (r : Result (List Spot) ScanFault) → r ≡ join [] r
join_none (Ok vs) = refl
join_none (Err e) = refl

join_more : (w : Spot) (ws : List Spot) (r : Result (List Spot) ScanFault) → before w (join ws r) ≡ join (w ∷ ws) r
join_more w ws (Ok vs) = refl
join_more w ws (Err e) = refl

-- r is told of rest at p, however far one may go
abbrev Ends : Place → List ℕ → Result (List Spot) ScanFault → Type 0
Ends p rest r = (k : ℕ) → length rest < k → words_by k p rest ≡ r

-- a front that is skipped leaves the words behind it
passed : (k : ℕ) (p : Place) (text front after : List ℕ) → text ≡ front ++ after → skip_of Between p (front ++ after) ≡ skip_of Between (walk p front) after → words_by k p text ≡ words_by k (walk p front) after
passed k p text front after is e = ap (words_by k p) is ∙ words_same k p (walk p front) (front ++ after) after e

shorter : (n k : ℕ) (text front after : List ℕ) → text ≡ front ++ after → n ≤ length front → length text < n + k → length after < k
shorter n k text front after is some h = omega (arith, ap length is, length-append front after)

-- a text that is cut is read so
reads : (ps : List Piece) (p : Place) (text rest : List ℕ) (r : Result (List Spot) ScanFault) (k : ℕ) → Cut ps text rest → length text < k → Ends (place_behind p ps) rest r → words_by k p text ≡ join (words_from p ps) r
reads [] p text rest r k cut h e = ap (words_by k p) cut ∙ e k (subst (λ t. length t < k) cut h) ∙ join_none r
reads (blank b ∷ ps) p text rest r k cut h e =
    passed k p text (b ∷ []) cut.0 cut.1 (skip_on Between Between p b cut.0 (cond-true _ _ _ cut.2))
    ∙ reads ps (past p b) cut.0 rest r k cut.3 (shorter 0 k text (b ∷ []) cut.0 cut.1 (omega arith) (omega arith)) e
reads (remark cs ∷ ps) p text rest r k cut h e =
    let front = spelled (remark cs) in
    passed k p text front cut.0 cut.1 (skip_remark p cs cut.0 cut.2)
    ∙ reads ps (walk p front) cut.0 rest r k cut.3 (shorter 0 k text front cut.0 cut.1 (omega arith) (omega arith)) e
reads (block cs ∷ ps) p text rest r k cut h e =
    let front = spelled (block cs) in
    passed k p text front cut.0 cut.1 (skip_closed p cs cut.0 cut.2)
    ∙ reads ps (walk p front) cut.0 rest r k cut.3 (shorter 0 k text front cut.0 cut.1 (omega arith) (omega arith)) e
reads (word w ∷ ps) p text rest r zero cut h e = absurd (omega arith)
reads (word w ∷ ps) p text rest r (suc k) cut h e =
    let after = cut.0 in
    let less : length after < k = shorter 1 k text w after cut.1 (word_some w after cut.2) (omega arith) in
    ap (words_by (suc k) p) cut.1
    ∙ words_found k p (walk p w) (w ++ after) w after (next_word p w after cut.2)
    ∙ ap (before (record { place = p; bytes = w })) (reads ps (walk p w) after rest r k cut.3 less e)
    ∙ join_more (record { place = p; bytes = w }) (words_from (walk p w) ps) r

-- nothing is left
ends_none : (p : Place) → Ends p [] (Ok [])
ends_none p zero h = refl
ends_none p (suc k) h = refl

ends_bad : (p : Place) (b : ℕ) (rest : List ℕ) → allowed b ≡ false → Ends p (b ∷ rest) (Err (Byte p))
ends_bad p b rest bad k h = words_refused k p (b ∷ rest) (Byte p) (omega arith) (next_bad p b rest bad)

ends_open : (p : Place) (rest : List ℕ) → NeverClosed rest → Ends p (47 ∷ 42 ∷ rest) (Err (Unclosed p))
ends_open p rest never k h = words_refused k p (47 ∷ 42 ∷ rest) (Unclosed p) (omega arith) (ap next_at (skip_open p (past (past p 47) 42) rest never))

module _ (ps : List Piece) (p : Place) (text : List ℕ) (k : ℕ) (h : length text < k) where
  pub reads_all : Cut ps text [] → words_by k p text ≡ Ok (words_from p ps)
  reads_all cut = reads ps p text [] (Ok []) k cut h (ends_none (place_behind p ps)) ∙ ap Ok (append-nil (words_from p ps))

  pub reads_bad : (b : ℕ) (rest : List ℕ) → Cut ps text (b ∷ rest) → allowed b ≡ false → words_by k p text ≡ Err (Byte (place_behind p ps))
  reads_bad b rest cut bad = reads ps p text (b ∷ rest) (Err (Byte (place_behind p ps))) k cut h (ends_bad (place_behind p ps) b rest bad)

  pub reads_open : (rest : List ℕ) → Cut ps text (47 ∷ 42 ∷ rest) → NeverClosed rest → words_by k p text ≡ Err (Unclosed (place_behind p ps))
  reads_open rest cut never = reads ps p text (47 ∷ 42 ∷ rest) (Err (Unclosed (place_behind p ps))) k cut h (ends_open (place_behind p ps) rest never)
