-- What a bench panel means, and what its setters leave. Assumes nothing.
use Rattle.std.specs.Prelude.{ℕ, Bool, true, cond, replicate, Ok, Result, nat_lt, slice_set}
use Rattle.panel.specs.declared.PanelFault.{PanelFault}
use Rattle.panel.specs.declared.bench.Bench.{Bench}
use Rattle.panel.specs.Answers.{for_word}
use Rattle.panel.specs.Meaning.{Meaning, Sized}

abbrev pub bench_meaning : Bench → Meaning
bench_meaning b = record {
  inputs = b.inputs;
  outputs = b.outputs;
  input_answers = b.input_answers;
  output_answers = b.output_answers;
}

abbrev pub fresh : Meaning
fresh = record {
  inputs = replicate 8 0;
  outputs = replicate 8 0;
  input_answers = replicate 8 true;
  output_answers = replicate 8 true;
}

abbrev pub set_answer : ℕ → Result (Unit {0}) PanelFault
set_answer k = for_word k (Ok tt)

abbrev pub with_input : Meaning → ℕ → ℕ → Meaning
with_input m k w = record {
  inputs = slice_set m.inputs k w;
  outputs = m.outputs;
  input_answers = m.input_answers;
  output_answers = m.output_answers;
}

abbrev pub with_input_answer : Meaning → ℕ → Bool → Meaning
with_input_answer m k b = record {
  inputs = m.inputs;
  outputs = m.outputs;
  input_answers = slice_set m.input_answers k b;
  output_answers = m.output_answers;
}

abbrev pub with_output_answer : Meaning → ℕ → Bool → Meaning
with_output_answer m k b = record {
  inputs = m.inputs;
  outputs = m.outputs;
  input_answers = m.input_answers;
  output_answers = slice_set m.output_answers k b;
}

-- a setter changes a word that there is, and else nothing
abbrev pub when_word : ℕ → Meaning → Meaning → Meaning
when_word k changed m = cond (nat_lt k 8) changed m

-- a bench has eight words of each kind
pub sized_bench : (b : Bench) → Sized (bench_meaning b)
sized_bench b = record {
  inputs_long = b.sized.0;
  outputs_long = b.sized.1;
  input_answers_long = b.sized.2;
  output_answers_long = b.sized.3;
}
