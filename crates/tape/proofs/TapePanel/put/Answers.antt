use Rattle.std.proofs.Common.{◌∙◌}
use Rattle.std.proofs.lemmas.List.{length-set}
use Rattle.tape.specs.Tape.{sized_tape}
use Rattle.tape.proofs.TapePanel.put.Goals as goal

pub returns-in_err-at-clause-sized : goal.returns-in_err-at-clause-sized
returns-in_err-at-clause-sized c = sized_tape c.args.self.now

pub returns-clause-sized : goal.returns-clause-sized
returns-clause-sized c =
    let before = sized_tape c.args.self.now in
    record {
      inputs_long = before.inputs_long;
      outputs_long = length-set _ _ _ ∙ before.outputs_long;
      input_answers_long = before.input_answers_long;
      output_answers_long = before.output_answers_long;
    }
