-- What a tape in its panel shows and means. Assumes nothing.
use Rattle.std.specs.Prelude.{◌≡◌, ℕ, zero, suc, ◌/◌, List, ◌∷◌, length, Ok, Err, Result, nat_lt, refl}
use Rattle.std.proofs.Common.{◌∙◌}
use Rattle.std.proofs.lemmas.Bool.{cond_both}
use Rattle.std.proofs.lemmas.List.{length-map}
use Rattle.panel.specs.Meaning.{Meaning, Sized}
use Rattle.tape.specs.declared.Tape.{Tape}
use Rattle.tape.specs.declared.TapeFault.{TapeFault}
use Rattle.tape.specs.Fields.{line_says}
use Rattle.tape.specs.Format.{Entry, word_in, answers_in}
use Rattle.tape.specs.Says.{State, said, state_meaning}

abbrev pub state : Tape → State
state t = record { bytes = t.bytes.now; at = t.line; outputs = t.outputs }

abbrev pub shown : Result Tape TapeFault → Result State TapeFault
shown (Ok t) = Ok (state t)
shown (Err e) = Err e

abbrev pub tape_meaning : Tape → Meaning
tape_meaning t = state_meaning (state t)

-- eight entries at each line
length_said : (bytes : List ℕ) (n : ℕ) → length (said bytes n) ≡ 8
unfolding said line_says
length_said bytes zero = refl
length_said bytes (suc n) = cond_both (nat_lt n (length bytes / 49)) _ _ (λ (es : List Entry). length es ≡ 8) (λ _. refl) (λ _. refl)

-- a tape has eight words of each kind
pub sized_tape : (t : Tape) → Sized (tape_meaning t)
sized_tape t = record {
  inputs_long = length-map (said t.bytes.now t.line) word_in ∙ length_said t.bytes.now t.line;
  outputs_long = t.eight;
  input_answers_long = length-map (said t.bytes.now t.line) answers_in ∙ length_said t.bytes.now t.line;
  output_answers_long = refl;
}

-- what the panel has besides its meaning: where the tape stands, and its bytes
abbrev pub tape_rest : Tape → List ℕ
tape_rest t = t.line ∷ t.bytes.now
