-- A worked run of two intervals. Assumes nothing.
use Rattle.std.specs.Prelude.{◌≡◌, ℕ, true, false, List, [], ◌∷◌, map, replicate}
use Rattle.panel.specs.Meaning.{Meaning}
use Rattle.meaning.specs.Example.{two_levels}
use Rattle.machine.specs.Machine.{made, Call, opening, quick_scan, slow_slice, closing, show_byte, show_sweep, show_working, Answer, opened_as, scanned_as, sliced, closed, shown, sweep_shown, refused, refused_at, out_of_turn, no_such}
use Rattle.machine.specs.Histories.{Event, history}
use Rattle.machine.specs.Lists.{plan_of}

-- a panel that answers throughout, with input word 0 and output words 0 and 1, all else 0
abbrev pub panel_with : ℕ → ℕ → ℕ → Meaning
panel_with i o₀ o₁ = record {
  inputs = i ∷ replicate 7 0;
  outputs = o₀ ∷ o₁ ∷ replicate 6 0;
  input_answers = replicate 8 true;
  output_answers = replicate 8 true;
}

abbrev pub run_calls : List Call
run_calls =
    opening (panel_with 1 0 0) ∷ quick_scan 1 ∷ slow_slice 1 3 ∷ closing 1 (panel_with 1 0 0)
    ∷ show_sweep ∷ show_byte 10 ∷ show_working 10 ∷ show_byte 144
    ∷ opening (panel_with 0 2 0) ∷ opening (panel_with 0 2 0) ∷ quick_scan 2 ∷ slow_slice 1 3 ∷ slow_slice 2 0 ∷ slow_slice 2 3 ∷ closing 2 (panel_with 0 2 0)
    ∷ show_sweep ∷ []

abbrev pub run_answers : List Answer
run_answers =
    opened_as 1 (panel_with 1 0 0) ∷ scanned_as 1 4 ∷ sliced 3 false ∷ closed 0 (panel_with 1 2 0)
    ∷ sweep_shown 3 1 ∷ shown 0 ∷ shown 1 ∷ refused (no_such 144)
    ∷ opened_as 2 (panel_with 0 2 0) ∷ refused_at (out_of_turn 2) (panel_with 0 2 0) ∷ scanned_as 2 3 ∷ refused (out_of_turn 2) ∷ sliced 0 false ∷ sliced 2 true ∷ closed 0 (panel_with 0 0 1)
    ∷ sweep_shown 0 0 ∷ []

-- :001 takes 4 steps with input word 0 at 1 and 3 at 0. The sweep is cut after 3 of its 5 steps, and its bytes come out when it ends.
pub record WorkedRun : Type 0 where
  pub answers : map (λ (e : Event). e.answer) (history (plan_of two_levels) made run_calls) ≡ run_answers
