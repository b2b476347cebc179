-- Sweeps among the events of a history. Assumes nothing.
use Rattle.std.proofs.Common.{◌≡◌, ℕ, ◌+◌, ◌<◌, ◌≤◌, min, true, false, cond, ◌⊎◌, ◌↔◌, List, [], ◌∷◌, ◌++◌, length, get_or, sym, refl, ap, ◌∙◌, subst, inl, inr, append_assoc, append-nil, arith}
use Rattle.std.proofs.lemmas.Bool.{both_ways, cond-true, lt-ltb}
use Rattle.machine.specs.Plan.{Picture, Plan, Bounded, moment_after, outcome_of}
use Rattle.machine.specs.Machine.{no_sweep, under_way, State, made, Call, show_sweep, show_working, shown, sweep_shown, picture_of, picture_at, spent_at, published, sweep_view, working_bytes, next, answer, after}
use Rattle.machine.specs.Histories.{Event, calls, allowance_of, allowance, steps, ended, allowances, all_steps, NoneEnded, since_end, BeginsSweep, OneSweep, OfOneSweep}
use Rattle.machine.specs.Laws.{Follows, state, SweepLaw}
use Rattle.machine.proofs.Steps.{nothing, went, finished, EventDid, event_did}

-- ---- histories in parts
since-++ : (k : ℕ) (a b : List Event) → since_end k (a ++ b) ≡ since_end (since_end k a) b
since-++ k [] b = refl
since-++ k (e ∷ a) b = since-++ (cond (ended e) 0 (k + allowance e)) a b

begins-++ : (a b : List Event) → BeginsSweep a → BeginsSweep (a ++ b)
begins-++ [] b st = absurd st
begins-++ (e ∷ a) b st = st

none-++ : (a : List Event) (e : Event) → NoneEnded a → ended e ≡ false → NoneEnded (a ++ (e ∷ []))
none-++ [] e n d = (d, tt)
none-++ (x ∷ a) e n d = (n.0, none-++ a e n.1 d)

allowances-++ : (a : List Event) (e : Event) → allowances (a ++ (e ∷ [])) ≡ allowances a + allowance e
allowances-++ [] e = omega arith
allowances-++ (x ∷ a) e = let g = allowances-++ a e in omega arith

steps-++ : (a : List Event) (e : Event) → all_steps (a ++ (e ∷ [])) ≡ all_steps a + steps e
steps-++ [] e = omega arith
steps-++ (x ∷ a) e = let g = steps-++ a e in omega arith

pub cut : (events rest : List Event) (last : Event) → events ++ (last ∷ rest) ≡ (events ++ (last ∷ [])) ++ rest
cut [] rest last = refl
cut (e ∷ es) rest last = ap (λ x. e ∷ x) (cut es rest last)

-- where a history stands: between sweeps, or inside one that began after `a`
data CutAt (h : List Event) : Type 0 where
  between : since_end 0 h ≡ 0 → CutAt h
  inside : (a b : List Event) → h ≡ a ++ b → since_end 0 a ≡ 0 → BeginsSweep b → NoneEnded b → CutAt h

module _ (plan : Plan) where
  pub after-++ : (s : State) (a b : List Event) → after plan s (calls (a ++ b)) ≡ after plan (after plan s (calls a)) (calls b)
  after-++ s [] b = refl
  after-++ s (e ∷ a) b = after-++ (next plan s e.call) a b

  pub take_front : (s : State) (a b : List Event) → Follows plan s (a ++ b) → Follows plan s a
  take_front s [] b f = tt
  take_front s (e ∷ a) b f = (f.0, take_front (next plan s e.call) a b f.1)

  pub drop_front : (s : State) (a b : List Event) → Follows plan s (a ++ b) → Follows plan (after plan s (calls a)) b
  drop_front s [] b f = f
  drop_front s (e ∷ a) b f = drop_front (next plan s e.call) a b f.1

  pub follows-++ : (s : State) (a b : List Event) → Follows plan s a → Follows plan (after plan s (calls a)) b → Follows plan s (a ++ b)
  follows-++ s [] b f g = g
  follows-++ s (e ∷ a) b f g = (f.0, follows-++ (next plan s e.call) a b f.1 g)

  -- ---- a sweep that is under way stays so over events that do not end it
  record Stands (p : Picture) (k : ℕ) (s : State) (events : List Event) : Type 0 where
    sweep_is : (after plan s (calls events)).sweep ≡ under_way p (k + all_steps events)
    short : k + all_steps events < length (plan.slow p)
    same : allowances events ≡ all_steps events

  one_more : (p : Picture) (k j : ℕ) (s : State) (e : Event) (es : List Event) → allowance e ≡ j → steps e ≡ j → Stands p (k + j) (next plan s e.call) es → Stands p k s (e ∷ es)
  one_more p k j s e es a m r =
      let q : k + j + all_steps es ≡ k + (steps e + all_steps es) = omega arith in
      let l = r.short in
      let w = r.same in
      record { sweep_is = r.sweep_is ∙ ap (under_way p) q; short = omega arith; same = omega arith }

  stands : (p : Picture) (k : ℕ) (s : State) (events : List Event) → s.sweep ≡ under_way p k → k < length (plan.slow p) → NoneEnded events → Follows plan s events → Stands p k s events
  stands p k s [] v0 l ne f = let q : k ≡ k + 0 = omega arith in record { sweep_is = v0 ∙ ap (under_way p) q; short = omega arith; same = refl }
  stands p k s (e ∷ es) v0 l ne f =
      go (λ j. stands p (k + j) (next plan s e.call) es) (event_did plan p k s e (ap (picture_at s) v0) (ap spent_at v0) f.0)
    where
      To : ℕ → Type 0
      To j = (next plan s e.call).sweep ≡ under_way p j → j < length (plan.slow p) → NoneEnded es → Follows plan (next plan s e.call) es → Stands p j (next plan s e.call) es

      go : ((j : ℕ) → To (k + j)) → EventDid plan p k s e → Stands p k s (e ∷ es)
      go ihs (nothing v a m d) = let q : k ≡ k + 0 = omega arith in one_more p k 0 s e es a m (ihs 0 (v ∙ v0 ∙ ap (under_way p) q) (omega arith) ne.1 f.1)
      go ihs (went n z lt v a m d) = one_more p k n s e es a m (ihs n v lt ne.1 f.1)
      go ihs (finished n z le v b a m d) = absurd (both_ways (ended e) ne.0 d)

  -- ---- the state that the last event of a stretch meets
  data Live (p : Picture) (s : State) (k : ℕ) (last : Event) : Type 0 where
    first : s.sweep ≡ no_sweep → picture_of s ≡ p → k ≡ 0 → 0 < allowance last → Live p s k last
    later : s.sweep ≡ under_way p k → k < length (plan.slow p) → Live p s k last

  record Reached (p : Picture) (s : State) (events : List Event) (last : Event) : Type 0 where
    live : Live p (after plan s (calls events)) (all_steps events) last
    same : allowances events ≡ all_steps events

  reached : (s : State) (events : List Event) (last : Event) → s.sweep ≡ no_sweep → BeginsSweep (events ++ (last ∷ [])) → NoneEnded events → Follows plan s events → Reached (picture_of s) s events last
  reached s [] last v0 st ne f = record { live = first v0 refl refl st; same = refl }
  reached s (e ∷ es) last v0 st ne f = go (event_did plan (picture_of s) 0 s e (ap (picture_at s) v0) (ap spent_at v0) f.0)
    where
      go : EventDid plan (picture_of s) 0 s e → Reached (picture_of s) s (e ∷ es) last
      go (nothing v a m d) = absurd (omega arith)
      go (went n z lt v a m d) =
          let r = one_more (picture_of s) 0 n s e es a m (stands (picture_of s) (0 + n) (next plan s e.call) es v lt ne.1 f.1) in
          let q : 0 + all_steps (e ∷ es) ≡ all_steps (e ∷ es) = omega arith in
          let l = r.short in
          record { live = later (r.sweep_is ∙ ap (under_way (picture_of s)) q) (omega arith); same = r.same }
      go (finished n z le v b a m d) = absurd (both_ways (ended e) ne.0 d)

  -- ---- the last event
  record Ends (p : Picture) (k : ℕ) (s : State) (last : Event) : Type 0 where
    ends : (ended last ≡ true) ↔ (length (plan.slow p) ≤ k + allowance last)
    counts : k + steps last ≡ min (length (plan.slow p)) (k + allowance last)
    stores : ended last ≡ true → (next plan s last.call).bytes ≡ published (outcome_of p (plan.slow p)) s.bytes

  last_step : (p : Picture) (k : ℕ) (s : State) (last : Event) → k ≤ length (plan.slow p) → (k < length (plan.slow p)) ⊎ (0 < allowance last) → EventDid plan p k s last → Ends p k s last
  last_step p k s last l live (nothing v0 a m e) =
      record { ends = (λ t. absurd (both_ways (ended last) e t), λ g. absurd (omega arith)); counts = omega arith; stores = λ t. absurd (both_ways (ended last) e t) }
  last_step p k s last l live (went n z lt v0 a m e) =
      record { ends = (λ t. absurd (both_ways (ended last) e t), λ g. absurd (omega arith)); counts = omega arith; stores = λ t. absurd (both_ways (ended last) e t) }
  last_step p k s last l live (finished n z le v0 b a m e) =
      record { ends = (λ t. omega arith, λ g. e); counts = omega arith; stores = λ t. b }

  last_of : (p : Picture) (k : ℕ) (s : State) (last : Event) → last.answer ≡ answer plan s last.call → Live p s k last → Ends p k s last
  last_of p k s last q (first v pe z a) = last_step p k s last (omega arith) (inr a) (event_did plan p k s last (ap (picture_at s) v ∙ pe) (ap spent_at v ∙ sym z) q)
  last_of p k s last q (later v l) = last_step p k s last (omega arith) (inl l) (event_did plan p k s last (ap (picture_at s) v) (ap spent_at v) q)

  -- ---- displays inside a sweep
  shows : (p : Picture) (k : ℕ) (s : State) (last : Event) → last.answer ≡ answer plan s last.call → Live p s k last → last.call ≡ show_sweep → last.answer ≡ sweep_shown k (moment_after p (plan.slow p) k).op
  shows p k s last q (first v pe z a) c = let g : allowance last ≡ 0 = ap (λ (x : Call). allowance_of x last.answer) c in absurd (omega arith)
  shows p k s last q (later v l) c = q ∙ ap (answer plan s) c ∙ ap (sweep_view plan) v

  shows_working : (p : Picture) (k : ℕ) (s : State) (last : Event) → last.answer ≡ answer plan s last.call → Live p s k last → (b : ℕ) → b < 144 → last.call ≡ show_working b → last.answer ≡ shown (get_or (moment_after p (plan.slow p) k).bytes b 0)
  shows_working p k s last q (first v pe z a) b lt c = let g : allowance last ≡ 0 = ap (λ (x : Call). allowance_of x last.answer) c in absurd (omega arith)
  shows_working p k s last q (later v l) b lt c =
      q ∙ ap (answer plan s) c ∙ cond-true _ _ _ (lt-ltb b 144 lt) ∙ ap (λ w. shown (get_or (working_bytes plan s.bytes w) b 0)) v

  -- ---- `since-end` tells whether a sweep is under way
  pub data Tracks (s : State) (k : ℕ) : Type 0 where
    off : s.sweep ≡ no_sweep → k ≡ 0 → Tracks s k
    on : (p : Picture) → s.sweep ≡ under_way p k → 0 < k → k < length (plan.slow p) → Tracks s k

  abbrev pub pic : State → Picture
  pic s = picture_at s s.sweep

  spent : (s : State) (k : ℕ) → Tracks s k → spent_at s.sweep ≡ k
  spent s k (off v0 z) = ap spent_at v0 ∙ sym z
  spent s k (on p v0 z l) = ap spent_at v0

  still : (s s' : State) (k j : ℕ) → s'.sweep ≡ s.sweep → j ≡ k → Tracks s k → Tracks s' j
  still s s' k j v q (off v0 z) = off (v ∙ v0) (q ∙ z)
  still s s' k j v q (on p v0 z l) = on p (v ∙ v0 ∙ ap (under_way p) (sym q)) (omega arith) (omega arith)

  track : (s : State) (k : ℕ) (e : Event) → Tracks s k → EventDid plan (pic s) k s e → Tracks (next plan s e.call) (cond (ended e) 0 (k + allowance e))
  track s k e t (nothing v a m d) = still s (next plan s e.call) k _ v (ap (λ b. cond b 0 (k + allowance e)) d ∙ omega arith) t
  track s k e t (went n z lt v a m d) =
      let q : cond (ended e) 0 (k + allowance e) ≡ k + n = ap (λ b. cond b 0 (k + allowance e)) d ∙ omega arith in
      on (pic s) (v ∙ ap (under_way (pic s)) (sym q)) (omega arith) (omega arith)
  track s k e t (finished n z le v b a m d) = off v (ap (λ b. cond b 0 (k + allowance e)) d)

  pub tracks : (s : State) (k : ℕ) (h : List Event) → Tracks s k → Follows plan s h → Tracks (after plan s (calls h)) (since_end k h)
  tracks s k [] t f = t
  tracks s k (e ∷ h) t f = tracks (next plan s e.call) _ h (track s k e t (event_did plan (pic s) k s e refl (spent s k t) f.0)) f.1

  none_now : (s : State) (k : ℕ) → Tracks s k → k ≡ 0 → s.sweep ≡ no_sweep
  none_now s k (off v0 z) q = v0
  none_now s k (on p v0 z l) q = absurd (omega arith)

  -- a sweep that is under way or begins has steps left
  pub left : Bounded plan → (s : State) (k : ℕ) → Tracks s k → spent_at s.sweep < length (plan.slow (pic s))
  left bd s k (off v0 z) = let g : spent_at s.sweep ≡ 0 = ap spent_at v0 in omega (arith, bd.slow_some (pic s))
  left bd s k (on p v0 z l) =
      let g : spent_at s.sweep ≡ k = ap spent_at v0 in
      let w : length (plan.slow (pic s)) ≡ length (plan.slow p) = ap (λ x. length (plan.slow (picture_at s x))) v0 in
      omega arith

  -- ---- the law of one sweep
  pub sweep_law : Bounded plan → (before events : List Event) (last : Event) (rest : List Event) → Follows plan made (before ++ (events ++ (last ∷ rest))) → OneSweep before events last → SweepLaw plan before events last
  sweep_law bd before events last rest f o =
      let s : State = after plan made (calls before) in
      let f₁ = drop_front made before (events ++ (last ∷ rest)) f in
      let f₂ = take_front s events (last ∷ rest) f₁ in
      let u : State = after plan s (calls events) in
      let q = (drop_front s events (last ∷ rest) f₁).0 in
      let v0 = none_now s (since_end 0 before) (tracks made 0 before (off refl refl) (take_front made before (events ++ (last ∷ rest)) f)) o.fresh in
      let r = reached s events last v0 o.begins o.going f₂ in
      let w = last_of (picture_of s) (all_steps events) u last q r.live in
      let b = bd.slow_few (picture_of s) in
      let j = r.same in
      let n₁ = allowances-++ events last in
      let n₂ = steps-++ events last in
      let e₁ : state plan (before ++ events) ≡ u = after-++ made before events in
      let e₂ : state plan (before ++ (events ++ (last ∷ []))) ≡ next plan u last.call = after-++ made before (events ++ (last ∷ [])) ∙ after-++ s events (last ∷ []) in
      record {
        ends = (λ t. let g = w.ends.0 t in omega arith, λ g. w.ends.1 (omega arith));
        counts = let g = w.counts in omega arith;
        stores = λ t. ap (λ (x : State). x.bytes) e₂ ∙ w.stores t ∙ ap (λ (x : State). published (outcome_of (picture_of s) (plan.slow (picture_of s))) x.bytes) (sym e₁);
        shows = shows (picture_of s) (all_steps events) u last q r.live;
        shows_working = shows_working (picture_of s) (all_steps events) u last q r.live;
        bound = b;
        in_time = λ g. w.ends.1 (omega arith);
      }

  -- ---- each end is the end of one sweep
  over_now : (h : List Event) (e : Event) → ended e ≡ true → since_end 0 (h ++ (e ∷ [])) ≡ 0
  over_now h e d = since-++ 0 h (e ∷ []) ∙ ap (λ b. cond b 0 (since_end 0 h + allowance e)) d

  cut_more : (p : Picture) (k : ℕ) (s : State) (h : List Event) (e : Event) → EventDid plan p k s e → CutAt h → CutAt (h ++ (e ∷ []))
  cut_more p k s h e (nothing v a m d) (between z) =
      between (since-++ 0 h (e ∷ []) ∙ ap (λ b. cond b 0 (since_end 0 h + allowance e)) d ∙ omega arith)
  cut_more p k s h e (went n l lt v a m d) (between z) = inside h (e ∷ []) refl z (omega arith) (d, tt)
  cut_more p k s h e (finished n l le v b a m d) (between z) = between (over_now h e d)
  cut_more p k s h e (nothing v a m d) (inside x y q z st ne) =
      inside x (y ++ (e ∷ [])) (ap (λ (t : List Event). t ++ (e ∷ [])) q ∙ append_assoc x y (e ∷ [])) z (begins-++ y (e ∷ []) st) (none-++ y e ne d)
  cut_more p k s h e (went n l lt v a m d) (inside x y q z st ne) =
      inside x (y ++ (e ∷ [])) (ap (λ (t : List Event). t ++ (e ∷ [])) q ∙ append_assoc x y (e ∷ [])) z (begins-++ y (e ∷ []) st) (none-++ y e ne d)
  cut_more p k s h e (finished n l le v b a m d) (inside x y q z st ne) = between (over_now h e d)

  cut_all : (s : State) (past rest : List Event) → Follows plan s rest → CutAt past → CutAt (past ++ rest)
  cut_all s past [] f c = subst CutAt (sym (append-nil past)) c
  cut_all s past (e ∷ rest) f c =
      subst CutAt (append_assoc past (e ∷ []) rest)
      (cut_all (next plan s e.call) (past ++ (e ∷ [])) rest f.1 (cut_more (pic s) (spent_at s.sweep) s past e (event_did plan (pic s) (spent_at s.sweep) s e refl refl f.0) c))

  end_begins : (p : Picture) (k : ℕ) (s : State) (e : Event) → EventDid plan p k s e → ended e ≡ true → 0 < allowance e
  end_begins p k s e (nothing v a m d) t = absurd (both_ways (ended e) d t)
  end_begins p k s e (went n l lt v a m d) t = absurd (both_ways (ended e) d t)
  end_begins p k s e (finished n l le v b a m d) t = omega arith

  find_sweep : (before : List Event) (last : Event) → 0 < allowance last → CutAt before → OfOneSweep before last
  find_sweep before last l (between z) = record { earlier = before; events = []; cut = sym (append-nil before); sweep = record { fresh = z; begins = l; going = tt } }
  find_sweep before last l (inside a b q z st ne) = record { earlier = a; events = b; cut = q; sweep = record { fresh = z; begins = begins-++ b (last ∷ []) st; going = ne } }

  pub end_found : (before : List Event) (last : Event) → Follows plan made before → last.answer ≡ answer plan (state plan before) last.call → ended last ≡ true → OfOneSweep before last
  end_found before last f q t =
      let s : State = after plan made (calls before) in
      find_sweep before last (end_begins (pic s) (spent_at s.sweep) s last (event_did plan (pic s) (spent_at s.sweep) s last refl refl q) t) (cut_all made [] before f (between refl))

  -- ---- one event
  pub within : (p : Picture) (k : ℕ) (s : State) (e : Event) → EventDid plan p k s e → steps e ≤ allowance e
  within p k s e (nothing v a m d) = omega arith
  within p k s e (went n z lt v a m d) = omega arith
  within p k s e (finished n z le v b a m d) = omega arith

  pub moves : (p : Picture) (k : ℕ) (s : State) (e : Event) → k < length (plan.slow p) → EventDid plan p k s e → ended e ≡ true → 0 < steps e
  moves p k s e l (nothing v a m d) t = absurd (both_ways (ended e) d t)
  moves p k s e l (went n z lt v a m d) t = absurd (both_ways (ended e) d t)
  moves p k s e l (finished n z le v b a m d) t = omega arith
