-- A run of a compiled list goes as far along its trail as it is allowed. Assumes nothing.
use Rattle.std.proofs.Common.{◌≡◌, ℕ, ◌<◌, ◌≤◌, min, Bool, true, false, eqb, leb, List, [], ◌++◌, length, sym, refl, ap, ◌∙◌, subst, inl, inr, arith, eqb-true}
use borrow.Author.Tests.{eqb-false}
use Rattle.std.proofs.lemmas.Bool.{eq-eqb, le-leb, lt-leb, cases_lt, false≢true}
use Rattle.grammar.specs.Grammar.{Module}
use Rattle.program.specs.declared.instruction.Instruction.{Instruction}
use Rattle.program.specs.Cells.{Sight, State}
use Rattle.program.specs.Machine.{Config, going, ticks}
use Rattle.program.specs.View.{state}
use Rattle.meaning.specs.declared.pass.Pass.{Pass}
use Rattle.meaning.specs.Meaning.{trail}
use Rattle.meaning.specs.Code.{code}
use Rattle.meaning.specs.Claims.{Reached}
use Rattle.meaning.specs.Passes.{Went, Compiled, Meant}
use Rattle.meaning.proofs.Sound.{runs_as_meant}
use Rattle.meaning.proofs.Bound.{within_figure}

-- what is known of a run from c: the machine behind it is d
pub record Ran (i : Sight) (instructions : List Instruction) (c : Config) (allowance steps : ℕ) (over : Bool) (d : Config) : Type 0 where
  pub ran : d ≡ ticks i 16 instructions steps c
  pub allowed : steps ≤ allowance
  pub live : (k : ℕ) → k < steps → (ticks i 16 instructions k c).over ≡ false
  pub ends : over ≡ d.over
  pub used : over ≡ false → steps ≡ allowance

module _ (i : Sight) (instructions : List Instruction) (c : Config) (s : State) (ss : List State) (allowance : ℕ)
    (reached : (k : ℕ) → k ≤ length ss → Reached s ss k (ticks i 16 instructions k c)) where
  -- no step is made once the pass is over
  short : (steps : ℕ) → ((k : ℕ) → k < steps → (ticks i 16 instructions k c).over ≡ false) → steps ≤ length ss
  short steps live = elim (cases_lt (length ss) steps) [
    | inl h ↦ absurd (false≢true (sym (live (length ss) h) ∙ (reached (length ss) (omega arith)).over ∙ eq-eqb (length ss) (length ss) refl))
    | inr h ↦ h
  ]

  ended : (r : Pass) (b : Bool) → eqb r.steps (length ss) ≡ b → r.cpu.over ≡ b → r.steps ≤ length ss → r.steps ≤ allowance → (r.cpu.over ≡ false → r.steps ≡ allowance) → (r.steps ≡ min allowance (length ss)) × (r.cpu.over ≡ leb (length ss) allowance)
  ended r true e o low allowed used =
      let all : r.steps ≡ length ss = omega (arith, eqb-true, e) in
      (omega arith, o ∙ sym (le-leb (length ss) allowance (omega arith)))
  ended r false e o low allowed used =
      let some : r.steps ≡ allowance = used o in
      let less : r.steps < length ss = omega (arith, eqb-false, e) in
      (omega arith, o ∙ sym (lt-leb (length ss) allowance (omega arith)))

  pub went : (r : Pass) (d : Config) → Ran i instructions c allowance r.steps r.cpu.over d → state r.cpu ≡ d.state → Went s ss allowance r
  went r d h same =
      let low = short r.steps h.live in
      let here = reached r.steps low in
      let over : r.cpu.over ≡ eqb r.steps (length ss) = h.ends ∙ ap (λ (x : Config). x.over) h.ran ∙ here.over in
      let both = ended r (eqb r.steps (length ss)) refl over low h.allowed h.used in
      record { steps = both.0; reached = same ∙ ap (λ (x : Config). x.state) h.ran ∙ here.state; over = both.1 }

pub meant : (i : Sight) (instructions : List Instruction) (place : ℕ) (s : State) (allowance : ℕ) (r : Pass) (d : Config) → Ran i instructions (going place [] s) allowance r.steps r.cpu.over d → state r.cpu ≡ d.state → (ms : List Module) (l : ℕ) → Compiled ms l instructions place → Meant ms l i s allowance r
meant i instructions place s allowance r d h same ms l known =
    let here : (k : ℕ) → k ≤ length (trail ms l i s) → Reached s (trail ms l i s) k (ticks i 16 instructions k (going place [] s)) =
    λ k low. subst (λ xs. Reached s (trail ms l i s) k (ticks i 16 xs k (going place [] s))) (sym known.begins)
    (subst (λ n. Reached s (trail ms l i s) k (ticks i 16 (code ms ++ known.rest) k (going n [] s))) (sym known.entry)
    (runs_as_meant ms l i s 16 known.rest k known.shallow low)) in
    let far = went i instructions (going place [] s) s (trail ms l i s) allowance here r d h same in
    record { went = far; bounded = omega (arith, far.steps, within_figure ms l i s) }
