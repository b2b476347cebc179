-- A pass that is over stays where its trail ended. Assumes nothing.
use Rattle.std.proofs.Common.{◌≡◌, ℕ, zero, suc, ◌+◌, ◌-◌, ◌≤◌, true, List, [], ◌∷◌, ◌++◌, length, get_or, sym, refl, ap, ◌∙◌, add-zero, add-suc, arith, eq-eqb, ne_eqb}
use native.Mathlib.Decide.{dec_lt}
use borrow.Author.Tests.{both_ways}
use Rattle.grammar.specs.Grammar.{Module}
use Rattle.program.specs.declared.instruction.Instruction.{Instruction}
use Rattle.program.specs.Cells.{Sight, State}
use Rattle.program.specs.Machine.{Config, going, tick, ticks}
use Rattle.meaning.specs.Meaning.{last, trail}
use Rattle.meaning.specs.Code.{code, place_of}
use Rattle.meaning.specs.Nesting.{depth}
use Rattle.meaning.proofs.Sound.{runs_as_meant}

at_last : (s z : State) (ss : List State) → get_or (s ∷ ss) (length ss) z ≡ last s ss
at_last s z [] = refl
at_last s z (t ∷ ss) = at_last t z ss

module _ (i : Sight) (room : ℕ) (program : List Instruction) where
  stays_once : (c : Config) → c.over ≡ true → tick i room program c ≡ c
  stays_once c h = rw h refl

  -- no step changes what is over
  pub stays : (k n : ℕ) (c : Config) → (ticks i room program n c).over ≡ true → ticks i room program (n + k) c ≡ ticks i room program n c
  stays zero n c h = rw add-zero refl
  stays (suc k) n c h = rw add-suc (ap (tick i room program) (stays k n c h) ∙ stays_once (ticks i room program n c) h)

module _ (ms : List Module) (l : ℕ) (i : Sight) (s : State) (room : ℕ) (rest : List Instruction) (d : depth ms l ≤ room) where
  -- the machine after k steps
  abbrev pub after : ℕ → Config
  after k = ticks i room (code ms ++ rest) k (going (place_of ms l) [] s)

  -- from the trail's length on, the machine is over, in the trail's last state
  pub settled : (k : ℕ) → length (trail ms l i s) ≤ k → ((after k).over ≡ true) × ((after k).state ≡ last s (trail ms l i s))
  settled k h =
      let n = length (trail ms l i s) in
      let r = runs_as_meant ms l i s room rest n d (omega arith) in
      let o : (after n).over ≡ true = r.over ∙ eq-eqb n n refl in
      let z : n + (k - n) ≡ k = omega arith in
      let e : after k ≡ after n = ap after (sym z) ∙ stays i room (code ms ++ rest) (k - n) n (going (place_of ms l) [] s) o in
      (ap (λ (c : Config). c.over) e ∙ o, ap (λ (c : Config). c.state) e ∙ r.state ∙ at_last s s (trail ms l i s))

  -- a machine that is over is in the trail's last state
  pub ended : (k : ℕ) → (after k).over ≡ true → (after k).state ≡ last s (trail ms l i s)
  ended k o = elim (dec_lt k (length (trail ms l i s))) [
    | yes lt ↦ absurd (both_ways (after k).over ((runs_as_meant ms l i s room rest k d (omega arith)).over ∙ ne_eqb k (length (trail ms l i s)) (λ e. omega arith)) o)
    | no ge ↦ (settled k (omega arith)).1
  ]
