-- Counting steps. Assumes nothing.
use Rattle.std.proofs.Common.{◌≡◌, ℕ, zero, suc, ◌+◌, ◌-◌, ◌<◌, ◌≤◌, Bool, true, false, ltb, List, sym, refl, ap, ◌∙◌, add-zero, add-suc, add-one, arith, ltb-false, ltb-true}
use Rattle.program.specs.declared.instruction.Instruction.{Instruction}
use Rattle.program.specs.Cells.{Sight}
use Rattle.program.specs.Machine.{Config, tick, ticks}

-- one step more, with as much room as before
pub one_more : (i : Sight) (most turn : ℕ) (code : List Instruction) (k : ℕ) (c x y : Config) → x ≡ ticks i most code k c → turn ≡ most → y ≡ tick i turn code x → y ≡ ticks i most code (k + 1) c
one_more i most turn code k c x y p e q = rw add-one (q ∙ ap (λ (n : ℕ). tick i n code x) e ∙ ap (tick i most code) p)

-- m steps and then n are m + n
pub ticks_add : (i : Sight) (most : ℕ) (code : List Instruction) (m n : ℕ) (c : Config) → ticks i most code n (ticks i most code m c) ≡ ticks i most code (m + n) c
ticks_add i most code m zero c = rw add-zero refl
ticks_add i most code m (suc n) c = rw add-suc (ap (tick i most code) (ticks_add i most code m n c))

pub gone_on : (i : Sight) (most spent made : ℕ) (code : List Instruction) (from before after : Config) → before ≡ ticks i most code spent from → after ≡ ticks i most code made before → after ≡ ticks i most code (spent + made) from
gone_on i most spent made code from before after p q = q ∙ ap (ticks i most code made) p ∙ ticks_add i most code spent made from

-- the machine was not over before any of the steps of both parts
pub still_live : (i : Sight) (most spent made : ℕ) (code : List Instruction) (from before : Config) → before ≡ ticks i most code spent from
    → ((k : ℕ) → k < spent → (ticks i most code k from).over ≡ false) → ((k : ℕ) → k < made → (ticks i most code k before).over ≡ false)
    → (k : ℕ) → k < spent + made → (ticks i most code k from).over ≡ false
still_live i most spent made code from before p old new k h = go (ltb k spent) refl
  where
    go : (b : Bool) → ltb k spent ≡ b → (ticks i most code k from).over ≡ false
    go true e = old k (ltb-true k spent e)
    go false e =
        let le : spent ≤ k = ltb-false k spent e in
        let same : spent + (k - spent) ≡ k = omega arith in
        let more : k - spent < made = omega arith in
        sym (ap (λ (c : Config). c.over) (ap (ticks i most code (k - spent)) p ∙ ticks_add i most code spent (k - spent) from ∙ ap (λ (n : ℕ). ticks i most code n from) same)) ∙ new (k - spent) more
