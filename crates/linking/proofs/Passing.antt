-- Passes of a compiled list. Assumes nothing.
use Rattle.std.proofs.Common.{◌≡◌, ℕ, ◌-◌, ◌≤◌, List, [], ◌++◌, length, replicate, sym, subst, inl, inr, arith}
use native.Mathlib.Decide.{dec_lt}
use Rattle.tokens.specs.Tokens.{Kind}
use Rattle.grammar.specs.Grammar.{Module}
use Rattle.grammar.specs.Limits.{WithinLimits}
use Rattle.grammar.proofs.Nesting.{limits_agree}
use Rattle.program.specs.declared.instruction.Instruction.{Instruction}
use Rattle.program.specs.declared.instruction.Instruction.TheVariants.{Return}
use Rattle.program.specs.Machine.{going, ticks}
use Rattle.meaning.specs.Meaning.{trail}
use Rattle.meaning.specs.Claims.{Reached}
use Rattle.meaning.specs.Code.{code, place_of}
use Rattle.meaning.specs.Figure.{figure}
use Rattle.meaning.specs.Nesting.{chain, depth}
use Rattle.meaning.proofs.Bound.{within_figure}
use Rattle.meaning.proofs.Shallow.{shallow}
use Rattle.meaning.proofs.Sound.{runs_as_meant}
use Rattle.rules.specs.Findings.{NoneAt}
use Rattle.rules.specs.Labels.{Unlinked}
use Rattle.linking.specs.Rules.{Heavy, Overweight}
use Rattle.linking.specs.Passes.{PassesAs, RunsAsWritten}
use Rattle.linking.proofs.Levels.{there_1, there_0}

-- modules that are not too great
light_1 : (ks : List Kind) (ms : List Module) → NoneAt (Unlinked ks) → NoneAt (Overweight ks ms) → Heavy ms 1 → ⊥
light_1 ks ms u o h = there_1 ks u (λ i e. o i (inl (e, h)))

light_0 : (ks : List Kind) (ms : List Module) → NoneAt (Unlinked ks) → NoneAt (Overweight ks ms) → Heavy ms 0 → ⊥
light_0 ks ms u o h = there_0 ks u (λ i e. o i (inr (e, h, light_1 ks ms u o)))

chain_most : (ms : List Module) (l : ℕ) → (Heavy ms l → ⊥) → chain ms l ≤ 9
chain_most ms l h = elim (dec_lt 9 (chain ms l)) [ yes lt ↦ absurd (h (inl lt)) | no ge ↦ omega arith ]

passes_as : (ms : List Module) (l : ℕ) (instructions : List Instruction) (place most : ℕ) (rest : List Instruction) → instructions ≡ code ms ++ rest → place ≡ place_of ms l → most ≡ figure ms l → depth ms l ≤ 16 → PassesAs ms l instructions place most
passes_as ms l instructions place most rest e f g d = record {
  follows = λ i s k le. subst (λ (n : ℕ). Reached s (trail ms l i s) k (ticks i 16 instructions k (going n [] s))) (sym f) (subst (λ (c : List Instruction). Reached s (trail ms l i s) k (ticks i 16 c k (going (place_of ms l) [] s))) (sym e) (runs_as_meant ms l i s 16 rest k d le));
  bound = λ i s. omega (arith, within_figure ms l i s);
}

pub runs_as_written : RunsAsWritten
runs_as_written text ms f p h r =
    let small = (limits_agree ms).0 (subst WithinLimits (sym h.written.spelled) h.written.within) in
    let rest = replicate (2048 - length (code ms)) Return in
    let o = h.lawful.1.1.1.1.0 in
    let u = h.lawful.1.0 in
    record {
      quick = passes_as ms 1 p.code p.quick f.quick rest r.instructions r.quick r.quick_figure (shallow ms 1 small (chain_most ms 1 (light_1 _ ms u o)));
      slow = passes_as ms 0 p.code p.slow f.slow rest r.instructions r.slow r.slow_figure (shallow ms 0 small (chain_most ms 0 (light_0 _ ms u o)));
    }
