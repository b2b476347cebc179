-- The plan of a list is bounded. Assumes nothing.
use Rattle.std.proofs.Common.{ℕ, ◌<◌, eqb, List, [], ◌∷◌, length, arith, length-append}
use Rattle.std.proofs.lemmas.Bool.{cond_both}
use Rattle.grammar.specs.Grammar.{Module, module_of}
use Rattle.program.specs.Cells.{Sight, State}
use Rattle.meaning.specs.Meaning.{Trail, last, unchanged, thence, commands_trail, meanings}
use Rattle.meaning.specs.Passes.{beginning}
use Rattle.meaning.proofs.Bound.{within_figure}
use Rattle.machine.specs.Plan.{outset}
use Rattle.machine.specs.Lists.{sight_in, ListsBounded}

some_thence : (f : Trail) (s : State) → 0 < length (thence f unchanged s)
some_thence f s = omega (arith, length-append (f s) (last s (f s) ∷ []))

-- every pass makes a step, that of its end
some : (i : Sight) (ms : List Module) (l : ℕ) (s : State) → 0 < length (meanings i ms l s)
some i [] l s = omega arith
some i (module_of k cs ∷ ms) l s =
    cond_both (eqb l k) (thence (commands_trail i (meanings i ms) cs) unchanged) (meanings i ms l) (λ (f : Trail). 0 < length (f s))
    (λ _. some_thence (commands_trail i (meanings i ms) cs) s)
    (λ _. some i ms l s)

pub lists_bounded : ListsBounded
lists_bounded ms =
    record {
      quick_some = λ i bytes timers. some i ms 1 (beginning bytes timers);
      quick_few = λ i bytes timers. within_figure ms 1 i (beginning bytes timers);
      slow_some = λ p. some (sight_in p) ms 0 (outset p);
      slow_few = λ p. within_figure ms 0 (sight_in p) (outset p);
    }
