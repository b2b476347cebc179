-- The most steps to the end of a module, and the most modules one below the other. Assumes nothing.
use Rattle.std.specs.Prelude.{ℕ, ◌+◌, min, max}
use Rattle.weights.specs.Ahead.{Rule}

-- each instruction is a step; a call takes the steps of the module and those from the next place on
abbrev pub steps : Rule ℕ
steps = record { ends = 1; goes = λ a. 1 + a; tests = λ a b. 1 + max a b; calls = λ m a. 1 + m + a }

-- a call puts a module below, with what is below that
abbrev pub modules : Rule ℕ
modules = record { ends = 0; goes = λ a. a; tests = λ a b. max a b; calls = λ m a. max (1 + m) a }

-- a rule with each of its sums held at `most`
abbrev pub held : ℕ → Rule ℕ → Rule ℕ
held most r = record {
  ends = min most r.ends;
  goes = λ a. min most (r.goes a);
  tests = λ a b. min most (r.tests a b);
  calls = λ m a. min most (r.calls m a);
}
