-- A pass over the text marks what marked modules call.
use Rattle.std.proofs.Common.{◌≡◌, ℕ, zero, suc, ◌+◌, ◌<◌, ◌≤◌, Bool, true, false, not, ◌⊎◌, List, [], ◌∷◌, ◌++◌, length, length-append, get_or, set, replicate, Some, None, Decides, Option, sym, refl, ap, ◌∙◌, subst, inl, inr, arith, length-set, get_or-set_other, get_or-set_same, below_more}
use lib.ListN.{length-replicate}
use Rattle.std.proofs.lemmas.Bool.{cases_lt, cases_eq, both_ways}
use Rattle.std.proofs.lemmas.List.{get_or_past, get_or-replicate, set-get_or}
use Rattle.tokens.specs.Tokens.{Kind, call}
use Rattle.rules.specs.Labels.{kind_at}
use Rattle.rules.specs.Levels.{home, Reaches, itself, through, Level}
use Rattle.rules.specs.Tables.{On, Marks, lit, unmarked, Spread}
use Rattle.rules.proofs.Places.{call_inside, no_value}

pub on_set : (marks : List Bool) (b n : ℕ) → b < length marks → On marks n → On (set marks b true) n
on_set marks b n lt h = elim (cases_eq n b) [ inl e ↦ subst (On (set marks b true)) (sym e) (get_or-set_same marks b true false lt) | inr ne ↦ get_or-set_other marks b n true false ne ∙ h ]

pub set_on : (marks : List Bool) (b n : ℕ) → On (set marks b true) n → (n ≡ b) ⊎ On marks n
set_on marks b n h = elim (cases_eq n b) [ inl e ↦ inl e | inr ne ↦ inr (sym (get_or-set_other marks b n true false ne) ∙ h) ]

lit_some : (marks : List Bool) (h : Option ℕ) → lit marks h ≡ true → (a : ℕ) × (h ≡ Some a) × On marks a
lit_some marks None e = absurd (both_ways _ refl e)
lit_some marks (Some a) e = (a, refl, e)

none_on : (k n : ℕ) → On (replicate k false) n → ⊥
none_on k n h = elim (cases_lt n k) [ inl lt ↦ both_ways _ (get_or-replicate k n false false lt) h | inr le ↦ both_ways _ (get_or_past (replicate k false) n false (omega (arith, length-replicate k false))) h ]

pub off_if : (b : Bool) → not b ≡ true → b ≡ false
off_if true e = absurd (both_ways _ refl e)
off_if false e = refl

pub on_if : (b : Bool) → not b ≡ false → b ≡ true
on_if true e = refl
on_if false e = absurd (both_ways _ e refl)

-- what is marked already
pub set_marked : (marks : List Bool) (n : ℕ) → On marks n → set marks n true ≡ marks
set_marked marks n on = subst (λ (b : Bool). set marks n b ≡ marks) on (set-get_or marks n false)

-- a new mark leaves fewer places without
pub unmarked_set : (marks : List Bool) (b : ℕ) → b < length marks → get_or marks b false ≡ false → unmarked (set marks b true) < unmarked marks
unmarked_set [] b lt e = absurd (omega arith)
unmarked_set (true ∷ ms) zero lt e = absurd (both_ways _ e refl)
unmarked_set (false ∷ ms) zero lt e = omega arith
unmarked_set (m ∷ ms) (suc b) lt e = let ih = unmarked_set ms b (omega arith) e in omega arith

-- what a pass has done when it comes to i
pub record Spreading (ks : List Kind) (old marks : List Bool) (i : ℕ) (more : Bool) : Type 0 where
  pub size : length marks ≡ 256
  pub kept : (n : ℕ) → On old n → On marks n
  pub sound : (root : ℕ) → ((n : ℕ) → On old n → Reaches ks root n) → (n : ℕ) → On marks n → Reaches ks root n
  pub closed : more ≡ false → (j : ℕ) → j < i → (a b : ℕ) → home ks j ≡ Some a → kind_at ks j ≡ call b → On marks a → On marks b
  pub fewer : unmarked marks ≤ unmarked old
  pub falls : more ≡ true → unmarked marks < unmarked old

pub begins : (ks : List Kind) (old : List Bool) → length old ≡ 256 → Spreading ks old old 0 false
begins ks old size = record {
  size = size;
  kept = λ n h. h;
  sound = λ root s. s;
  closed = λ f j lt. absurd (omega arith);
  fewer = omega arith;
  falls = λ t. absurd (both_ways _ refl t);
}

module _ (ks : List Kind) (old marks : List Bool) (i : ℕ) (more : Bool) (inv : Spreading ks old marks i more) where
  -- a token that marks nothing
  pub passes : ((a b : ℕ) → home ks i ≡ Some a → kind_at ks i ≡ call b → On marks a → On marks b) → Spreading ks old marks (i + 1) more
  passes here = record {
    size = inv.size;
    kept = inv.kept;
    sound = inv.sound;
    closed = λ f. below_more (λ j. (a b : ℕ) → home ks j ≡ Some a → kind_at ks j ≡ call b → On marks a → On marks b) i (inv.closed f) here;
    fewer = inv.fewer;
    falls = inv.falls;
  }

  -- no call
  pub passes_other : ((n : ℕ) → kind_at ks i ≡ call n → ⊥) → Spreading ks old marks (i + 1) more
  passes_other none = passes (λ a b ha cb. absurd (none b cb))

  -- a call outside the marked modules
  pub passes_unlit : lit marks (home ks i) ≡ false → Spreading ks old marks (i + 1) more
  passes_unlit f = passes (λ a b ha cb on. absurd (both_ways _ (ap (lit marks) (sym ha) ∙ f) on))

  -- a call of a module that is marked
  pub passes_marked : (n : ℕ) → kind_at ks i ≡ call n → On marks n → Spreading ks old marks (i + 1) more
  passes_marked n e on = passes (λ a b ha cb o. let s : n ≡ b = cc in subst (On marks) s on)

  -- any other call in a marked module
  pub marks_callee : (b : ℕ) → b < 256 → kind_at ks i ≡ call b → lit marks (home ks i) ≡ true → get_or marks b false ≡ false → Spreading ks old (set marks b true) (i + 1) true
  marks_callee b fits c t off = go (lit_some marks (home ks i) t)
    where
      go : (a : ℕ) × (home ks i ≡ Some a) × On marks a → Spreading ks old (set marks b true) (i + 1) true
      go p =
          let lt : b < length marks = omega (arith, inv.size) in
          let less = unmarked_set marks b lt off in
          record {
            size = length-set marks b true ∙ inv.size;
            kept = λ n o. on_set marks b n lt (inv.kept n o);
            sound = λ root s n o. elim (set_on marks b n o) [
              | inl q ↦ subst (Reaches ks root) (sym q) (through (inv.sound root s p.0 p.2) (i, p.1, c))
              | inr o' ↦ inv.sound root s n o'
            ];
            closed = λ f. absurd (both_ways _ f refl);
            fewer = omega (arith, inv.fewer);
            falls = λ w. omega (arith, inv.fewer);
          }

-- one token more was read
pub more : {X : Type 0} {ks : List Kind} {old marks marks' : List Bool} {m m' : Bool} (xs : List X) (x : X) → marks' ≡ marks → m' ≡ m → Spreading ks old marks (length xs + 1) m → Spreading ks old marks' (length (xs ++ x ∷ [])) m'
more {X} {ks} {old} {marks} {marks'} {m} {m'} xs x e e' s =
    rw (length-append, e, e') s

-- at the end of the text
pub spread_all : (ks : List Kind) (old marks : List Bool) (i : ℕ) (more : Bool) → Spreading ks old marks i more → length ks ≤ i → Spread ks old marks more
spread_all ks old marks i more inv le = record {
  kept = inv.kept;
  sound = inv.sound;
  closed = λ f a b c. let lt = call_inside ks c.0 b c.2 in inv.closed f c.0 (omega arith) a b c.1 c.2;
  fewer = inv.falls;
}

-- passes until one marks nothing new
pub record Reaching (ks : List Kind) (root : ℕ) (marks : List Bool) : Type 0 where
  pub start : On marks root
  pub sound : (n : ℕ) → On marks n → Reaches ks root n

pub roots : (ks : List Kind) (root : ℕ) → root < 256 → Reaching ks root (set (replicate 256 false) root true)
roots ks root lt = record {
  start = get_or-set_same (replicate 256 false) root true false (omega (arith, length-replicate 256 false));
  sound = λ n h. elim (set_on (replicate 256 false) root n h) [ inl e ↦ subst (Reaches ks root) (sym e) itself | inr h' ↦ absurd (none_on 256 n h') ];
}

pub reaches_on : (ks : List Kind) (root : ℕ) (old new : List Bool) (more : Bool) → Reaching ks root old → Spread ks old new more → Reaching ks root new
reaches_on ks root old new more r s = record { start = s.kept root r.start; sound = s.sound root r.sound }

pub all_reached : (ks : List Kind) (root : ℕ) (old new : List Bool) (more : Bool) → Reaching ks root old → Spread ks old new more → more ≡ false → Marks ks root new
all_reached ks root old new more r s f n = (s.sound root r.sound n, complete n)
  where
    complete : (m : ℕ) → Reaches ks root m → On new m
    complete m itself = s.kept root r.start
    complete m (through {a = a} p c) = s.closed f a m c (complete a p)

-- a token is on a level where its module is marked
pub on_level : (ks : List Kind) (root : ℕ) (marks : List Bool) → Marks ks root marks → (i : ℕ) → Decides (lit marks (home ks i)) (Level ks root i)
on_level ks root marks d i = go (home ks i) refl
  where
    go : (h : Option ℕ) → home ks i ≡ h → Decides (lit marks h) (Level ks root i)
    go None e = (λ t. absurd (both_ways _ refl t), λ p. absurd (no_value (sym e ∙ p.1)))
    go (Some m) e = (λ t. (m, e, (d m).0 t), λ p. let s : p.0 ≡ m = cc p.1 in (d m).1 (subst (Reaches ks root) s p.2))
