-- What a fragment of a program does, wherever it stands. Assumes nothing.
use Rattle.std.proofs.Common.{◌≡◌, ℕ, zero, suc, ◌+◌, ◌<◌, ◌≤◌, max, Bool, true, false, cond, List, [], ◌∷◌, ◌++◌, length, get_or, drop, sym, refl, ap, ◌∙◌, subst, append_assoc, arith, length-append, drop-drop, lt-ltb, Option}
use lib.Seq.{drop-append_seam}
use Rattle.tokens.specs.declared.Operator.{Operator}
use Rattle.program.specs.declared.instruction.Check.{Check}
use Rattle.program.specs.declared.instruction.Instruction.{Instruction}
use Rattle.program.specs.declared.instruction.Instruction.TheVariants.{Return, Open, Close, Test, Skip, Call}
use Rattle.program.specs.declared.instruction.Entry.{Entry}
use Rattle.program.specs.declared.instruction.Entry.TheVariants.{Back, Saved}
use Rattle.program.specs.Cells.{Sight, State, with_op}
use Rattle.program.specs.Machine.{Config, going, stopped, saving, joined, met, act, tick}
use Rattle.meaning.specs.Meaning.{Trail, last, nothing, single, unchanged, thence, chosen, bracketed, calling}
use Rattle.meaning.specs.Code.{bracket_code, when_code, guarded, either_code}

-- ---- where a fragment stands
abbrev pub Has : List Instruction → ℕ → List Instruction → Type 0
Has program n a = (behind : List Instruction) × (drop n program ≡ a ++ behind)

fetch : (program : List Instruction) (n : ℕ) (x : Instruction) (r : List Instruction) → drop n program ≡ x ∷ r → get_or program n Return ≡ x
fetch [] zero x r e = cc
fetch [] (suc n) x r e = cc
fetch (y ∷ ys) zero x r e = cc
fetch (y ∷ ys) (suc n) x r e = fetch ys n x r e

pub has_left : (program : List Instruction) (n : ℕ) (a b : List Instruction) → Has program n (a ++ b) → Has program n a
has_left program n a b h = (b ++ h.0, h.1 ∙ append_assoc a b h.0)

pub has_right : (program : List Instruction) (n : ℕ) (a b : List Instruction) → Has program n (a ++ b) → Has program (n + length a) b
has_right program n a b h =
    (h.0, sym (drop-drop (length a) n program) ∙ ap (drop (length a)) (h.1 ∙ append_assoc a b h.0) ∙ drop-append_seam a (b ++ h.0))

pub last_append : (s : State) (a b : List State) → last s (a ++ b) ≡ last (last s a) b
last_append s [] b = refl
last_append s (x ∷ a) b = last_append x a b

module _ (i : Sight) (room : ℕ) (program : List Instruction) where
  -- ---- from c the machine goes through exactly these states, to d
  abbrev pub Follows : Config → List State → Config → Type 0
  Follows c [] d = c ≡ d
  Follows c (s ∷ ss) d = (c.over ≡ false) × ((tick i room program c).state ≡ s) × Follows (tick i room program c) ss d

  pub join : (a b : List State) (c m d : Config) → Follows c a m → Follows m b d → Follows c (a ++ b) d
  join [] b c m d p q = subst (λ (x : Config). Follows x b d) (sym p) q
  join (s ∷ a) b c m d p q = (p.0, p.1, join a b (tick i room program c) m d p.2 q)

  -- the first instruction, and what follows
  pub first : (x : Instruction) (a : List Instruction) (n m : ℕ) (es fs : List Entry) (s t : State) (ss : List State) (d : Config) → Has program n (x ∷ a) → act i room x n es s ≡ going m fs t → Follows (going m fs t) ss d → Follows (going n es s) (t ∷ ss) d
  first x a n m es fs s t ss d h e p =
      let k : tick i room program (going n es s) ≡ going m fs t = ap (λ (y : Instruction). act i room y n es s) (fetch program n x (a ++ h.0) h.1) ∙ e in
      (refl, ap (λ (c : Config). c.state) k, subst (λ (y : Config). Follows y ss d) (sym k) p)

  -- the end of the pass
  pub finishes : (n : ℕ) (s : State) → Has program n (Return ∷ []) → Follows (going n [] s) (s ∷ []) (stopped n [] s)
  finishes n s h =
      let k : tick i room program (going n [] s) ≡ stopped n [] s = ap (λ (y : Instruction). act i room y n [] s) (fetch program n Return h.0 h.1) in
      (refl, ap (λ (c : Config). c.state) k, k)

  -- ---- wherever a stands, with room for k more entries, it goes through f and leaves the entries as they were
  abbrev pub Runs : ℕ → List Instruction → Trail → Type 0
  Runs k a f = (n : ℕ) (es : List Entry) (s : State) → length es + k ≤ room → Has program n a → Follows (going n es s) (f s) (going (n + length a) es (last s (f s)))

  pub runs_nothing : Runs 0 [] nothing
  runs_nothing n es s l h = let w : n ≡ n + 0 = omega arith in λ j. going (w j) es s

  pub runs_single : (x : Instruction) (g : State → State) → ((n : ℕ) (es : List Entry) (s : State) → act i room x n es s ≡ going (n + 1) es (g s)) → Runs 0 (x ∷ []) (single g)
  runs_single x g e n es s l h = first x [] n (n + 1) es es s (g s) [] (going (n + 1) es (g s)) h (e n es s) refl

  pub runs_thence : (a b : List Instruction) (j k : ℕ) (f g : Trail) → Runs j a f → Runs k b g → Runs (max j k) (a ++ b) (thence f g)
  runs_thence a b j k f g p q n es s l h =
      let u = last s (f s) in
      let w : n + length a + length b ≡ n + length (a ++ b) = omega (arith, length-append a b) in
      join (f s) (g u) (going n es s) (going (n + length a) es u) (going (n + length (a ++ b)) es (last s (f s ++ g u)))
      (p n es s (omega arith) (has_left program n a b h))
      (subst (Follows (going (n + length a) es u) (g u)) (λ t. going (w t) es (sym (last_append s (f s) (g u)) t))
      (q (n + length a) es u (omega arith) (has_right program n a b h)))

  -- ---- there is room for an entry
  saves : (e : Entry) (m n : ℕ) (es : List Entry) (s : State) → length es < room → saving room e m n es s ≡ going m (e ∷ es) s
  saves e m n es s h = ap (λ (b : Bool). cond b (going m (e ∷ es) s) (stopped n es s)) (lt-ltb (length es) room h)

  -- ---- a bracket: the inside runs with the saved OP on top
  pub runs_bracketed : (a : List Instruction) (o : Option Operator) (k : ℕ) (f : Trail) → Runs k a f → Runs (1 + k) (bracket_code o a) (bracketed (joined o) f)
  runs_bracketed a o k f r n es s l h =
      let fs = Saved s.op o ∷ es in
      let u = last s (f s) in
      let v = with_op u (joined o s.op u.op) in
      let h1 = has_right program n (Open o ∷ []) (a ++ (Close ∷ [])) h in
      let h2 = has_right program (n + 1) a (Close ∷ []) h1 in
      let d = going (n + suc (length (a ++ (Close ∷ [])))) es (last s (f s ++ (v ∷ []))) in
      let w : n + 1 + length a + 1 ≡ n + suc (length (a ++ (Close ∷ []))) = omega (arith, length-append a (Close ∷ [])) in
      first (Open o) (a ++ (Close ∷ [])) n (n + 1) es fs s s (f s ++ (v ∷ [])) d h (saves (Saved s.op o) (n + 1) n es s (omega arith))
      (join (f s) (v ∷ []) (going (n + 1) fs s) (going (n + 1 + length a) fs u) d
      (r (n + 1) fs s (omega arith) (has_left program (n + 1) a (Close ∷ []) h1))
      (first Close [] (n + 1 + length a) (n + 1 + length a + 1) fs es u v [] d h2 refl
      (λ t. going (w t) es (sym (last_append s (f s) (v ∷ [])) t))))

  -- ---- a test that meets what p says
  pub runs_when : (a : List Instruction) (x : Check) (p : State → Bool) (k : ℕ) (f : Trail) → ((s : State) → met i s x ≡ p s) → Runs k a f → Runs k (when_code x a) (chosen p f nothing)
  runs_when a x p k f meets r n es s l h = go (p s) (meets s)
    where
      w : n + 1 + length a ≡ n + suc (length a)
      w = omega arith

      go : (b : Bool) → met i s x ≡ b → Follows (going n es s) (s ∷ cond b (f s) []) (going (n + suc (length a)) es (last s (cond b (f s) [])))
      go true e =
          first (Test x (length a)) a n (n + 1) es es s s (f s) (going (n + suc (length a)) es (last s (f s))) h (rw e refl)
          (subst (Follows (going (n + 1) es s) (f s)) (λ t. going (w t) es (last s (f s)))
          (r (n + 1) es s l (has_right program n (Test x (length a) ∷ []) a h)))
      go false e =
          first (Test x (length a)) a n (n + 1 + length a) es es s s [] (going (n + suc (length a)) es s) h (rw e refl) (λ t. going (w t) es s)

  pub runs_either : (a b : List Instruction) (x : Check) (p : State → Bool) (j k : ℕ) (f g : Trail) → ((s : State) → met i s x ≡ p s) → Runs j a f → Runs k b g → Runs (max j k) (either_code x a b) (chosen p (thence f unchanged) g)
  runs_either a b x p j k f g meets r q n es s l h = go (p s) (meets s)
    where
      both : Has program (n + 1) (guarded a b ++ b)
      both = has_right program n (Test x (length (guarded a b)) ∷ []) (guarded a b ++ b) h

      left : Has program (n + 1) (guarded a b)
      left = has_left program (n + 1) (guarded a b) b both

      u : State
      u = last s (f s)

      go : (t : Bool) → met i s x ≡ t → Follows (going n es s) (s ∷ cond t (f s ++ (u ∷ [])) (g s)) (going (n + suc (length (guarded a b ++ b))) es (last s (cond t (f s ++ (u ∷ [])) (g s))))
      go true e =
          let d = going (n + suc (length (guarded a b ++ b))) es (last s (f s ++ (u ∷ []))) in
          let w : n + 1 + length a + 1 + length b ≡ n + suc (length (guarded a b ++ b)) = omega (arith, length-append (guarded a b) b, length-append a (Skip (length b) ∷ [])) in
          first (Test x (length (guarded a b))) (guarded a b ++ b) n (n + 1) es es s s (f s ++ (u ∷ [])) d h (rw e refl)
          (join (f s) (u ∷ []) (going (n + 1) es s) (going (n + 1 + length a) es u) d
          (r (n + 1) es s (omega arith) (has_left program (n + 1) a (Skip (length b) ∷ []) left))
          (first (Skip (length b)) [] (n + 1 + length a) (n + 1 + length a + 1 + length b) es es u u [] d (has_right program (n + 1) a (Skip (length b) ∷ []) left) refl
          (λ t. going (w t) es (sym (last_append s (f s) (u ∷ [])) t))))
      go false e =
          let m = n + 1 + length (guarded a b) in
          let w : n + 1 + length (guarded a b) + length b ≡ n + suc (length (guarded a b ++ b)) = omega (arith, length-append (guarded a b) b) in
          first (Test x (length (guarded a b))) (guarded a b ++ b) n m es es s s (g s) (going (n + suc (length (guarded a b ++ b))) es (last s (g s))) h (rw e refl)
          (subst (Follows (going m es s) (g s)) (λ t. going (w t) es (last s (g s)))
          (q m es s (omega arith) (has_right program (n + 1) (guarded a b) b both)))

  -- ---- a module that was called: from its place m, with the place to go back to on top, it goes through f and goes back
  abbrev pub Serves : ℕ → ℕ → Trail → Type 0
  Serves k m f = (q : ℕ) (es : List Entry) (s : State) → length es + (1 + k) ≤ room → Follows (going m (Back q ∷ es) s) (f s) (going q es (last s (f s)))

  pub runs_calling : (k m : ℕ) (f : Trail) → Serves k m f → Runs (1 + k) (Call m ∷ []) (calling f)
  runs_calling k m f r n es s l h = first (Call m) [] n m es (Back (n + 1) ∷ es) s s (f s) (going (n + 1) es (last s (f s))) h (saves (Back (n + 1)) m n es s (omega arith)) (r (n + 1) es s l)

  pub serves_module : (a : List Instruction) (k m : ℕ) (f : Trail) → Runs k a f → Has program m (a ++ (Return ∷ [])) → Serves k m (thence f unchanged)
  serves_module a k m f r h q es s l =
      let u = last s (f s) in
      let d = going q es (last s (f s ++ (u ∷ []))) in
      join (f s) (u ∷ []) (going m (Back q ∷ es) s) (going (m + length a) (Back q ∷ es) u) d
      (r m (Back q ∷ es) s (omega arith) (has_left program m a (Return ∷ []) h))
      (first Return [] (m + length a) q (Back q ∷ es) es u u [] d (has_right program m a (Return ∷ []) h) refl
      (λ t. going q es (sym (last_append s (f s) (u ∷ [])) t)))

  -- ---- a module that a pass begins with
  abbrev pub Completes : ℕ → ℕ → Trail → Type 0
  Completes k m f = k ≤ room → (s : State) → (d : Config) × Follows (going m [] s) (f s) d × (d.over ≡ true)

  pub completes_module : (a : List Instruction) (k m : ℕ) (f : Trail) → Runs k a f → Has program m (a ++ (Return ∷ [])) → Completes k m (thence f unchanged)
  completes_module a k m f r h l s =
      let u = last s (f s) in
      let d = stopped (m + length a) [] u in
      (d, join (f s) (u ∷ []) (going m [] s) (going (m + length a) [] u) d (r m [] s (omega arith) (has_left program m a (Return ∷ []) h)) (finishes (m + length a) u (has_right program m a (Return ∷ []) h)), refl)

  abbrev pub Works : ℕ → ℕ → Trail → Type 0
  Works k m f = Serves k m f × Completes k m f

  pub works_module : (a : List Instruction) (k m : ℕ) (f : Trail) → Runs k a f → Has program m (a ++ (Return ∷ [])) → Works k m (thence f unchanged)
  works_module a k m f r h = (serves_module a k m f r h, completes_module a k m f r h)
