-- What a tape's bytes say line by line, what its panel means, and what moving it on does. Assumes nothing.
use Rattle.std.specs.Prelude.{ℕ, zero, suc, ◌+◌, ◌*◌, ◌/◌, ◌%◌, true, cond, List, map, length, take, drop, replicate, Some, None, Ok, Err, Option, Result, ◌==◌, nat_le, nat_lt}
use Rattle.panel.specs.Meaning.{Meaning}
use Rattle.tape.specs.declared.TapeFault.{TapeFault}
use Rattle.tape.specs.declared.TapeFault.TheVariants.{Length, Line}
use Rattle.tape.specs.Fields.{line_holds, line_says}
use Rattle.tape.specs.Format.{Entry, silent, word_in, answers_in}

-- the bytes of line n, counted from 0
abbrev pub line_at : List ℕ → ℕ → List ℕ
line_at bytes n = take 49 (drop (49 * n) bytes)

-- the number of the first bad line of n lines, the first of which has the number k + 1
abbrev pub first_bad : ℕ → ℕ → List ℕ → Option ℕ
first_bad k zero bytes = None
first_bad k (suc n) bytes = cond (line_holds (take 49 bytes)) (first_bad (k + 1) n (drop 49 bytes)) (Some (k + 1))

abbrev pub unless_bad : Option ℕ → Result (Unit {0}) TapeFault
unless_bad None = Ok tt
unless_bad (Some k) = Err (Line k)

-- whether bytes are a tape, and what is refused
unfoldable pub check_of : List ℕ → Result (Unit {0}) TapeFault
check_of bytes =
    cond (nat_le (length bytes) 65536) (cond (length bytes % 49 == 0) (unless_bad (first_bad 0 (length bytes / 49) bytes)) (Err Length)) (Err Length)

-- a tape in its panel: the bytes, the line it stands at, and the output words
pub record State : Type 0 where
  pub bytes : List ℕ
  pub at : ℕ
  pub outputs : List ℕ

abbrev pub start : List ℕ → State
start bytes = record { bytes = bytes; at = 0; outputs = replicate 8 0 }

-- a tape is accepted as it stands before its first line
abbrev pub started : List ℕ → Result (Unit {0}) TapeFault → Result State TapeFault
started bytes (Ok u) = Ok (start bytes)
started bytes (Err e) = Err e

abbrev pub opened : List ℕ → Result State TapeFault
opened bytes = started bytes (check_of bytes)

-- a line on, up to behind the last
abbrev pub moved : State → State
moved s = record { bytes = s.bytes; at = cond (nat_le s.at (length s.bytes / 49)) (s.at + 1) s.at; outputs = s.outputs }

-- what the tape says at a line, counted from 1; before the first and behind the last all is silent
unfoldable pub said : List ℕ → ℕ → List Entry
said bytes zero = replicate 8 silent
said bytes (suc n) = cond (nat_lt n (length bytes / 49)) (line_says (line_at bytes n)) (replicate 8 silent)

abbrev pub meant : List Entry → List ℕ → Meaning
meant entries outputs = record {
  inputs = map word_in entries;
  outputs = outputs;
  input_answers = map answers_in entries;
  output_answers = replicate 8 true;
}

abbrev pub state_meaning : State → Meaning
state_meaning s = meant (said s.bytes s.at) s.outputs
