-- Which bytes are accepted and which are refused where, and what the panel means after each move, by what is written. Assumes nothing.
use Rattle.std.specs.Prelude.{◌≡◌, ℕ, zero, suc, ◌+◌, ◌/◌, ◌%◌, ◌<◌, ◌≤◌, ◌⊎◌, List, [], ◌∷◌, ◌++◌, length, replicate, Ok, Err, Result, ◌≢◌}
use Rattle.tape.specs.declared.TapeFault.{TapeFault}
use Rattle.tape.specs.declared.TapeFault.TheVariants.{Length, Line}
use Rattle.tape.specs.Format.{Entry, silent, Line as GoodLine, AllLines, IsTape, line_bytes, tape_bytes}
use Rattle.tape.specs.Says.{State, start, opened, moved, meant, state_meaning}

-- behind good lines stand 49 bytes that are no line
pub record BadAfter (bytes : List ℕ) (before : List (List Entry)) : Type 0 where
  pub short : length bytes ≤ 65536
  pub whole : length bytes % 49 ≡ 0
  pub good : AllLines before
  pub next : List ℕ
  pub long : length next ≡ 49
  pub behind : List ℕ
  pub written : bytes ≡ tape_bytes before ++ (next ++ behind)
  pub bad : (es : List Entry) → GoodLine es → next ≢ line_bytes es

-- the verdict on bytes: a tape before its first line, or the place that is refused
abbrev pub Verdict : List ℕ → Result State TapeFault → Type 0
Verdict bytes (Ok s) = (s ≡ start bytes) × ((lines : List (List Entry)) × IsTape bytes lines)
Verdict bytes (Err Length) = (65536 < length bytes) ⊎ (length bytes % 49 ≢ 0)
Verdict bytes (Err (Line k)) = (before : List (List Entry)) × (k ≡ length before + 1) × BadAfter bytes before

-- bytes have one verdict, and it is what the making answers; no two tapes are written alike
pub record OneVerdict (bytes : List ℕ) : Type 0 where
  pub holds : Verdict bytes (opened bytes)
  pub alone : (r : Result State TapeFault) → Verdict bytes r → r ≡ opened bytes
  pub once : (lines others : List (List Entry)) → IsTape bytes lines → IsTape bytes others → lines ≡ others

-- line n of a tape, counted from 1; before the first and behind the last all is silent
abbrev pub nth_line : List (List Entry) → ℕ → List Entry
nth_line lines zero = replicate 8 silent
nth_line [] (suc n) = replicate 8 silent
nth_line (l ∷ ls) (suc zero) = l
nth_line (l ∷ ls) (suc (suc n)) = nth_line ls (suc n)

abbrev pub moves : ℕ → State → State
moves zero s = s
moves (suc n) s = moved (moves n s)

-- what the panel of a tape means, by the tape's lines
pub record Plays (bytes : List ℕ) (lines : List (List Entry)) : Type 0 where
  pub count : length bytes / 49 ≡ length lines
  -- wherever it stands and whatever was put, it means that line and those outputs
  pub at_line : (s : State) → s.bytes ≡ bytes → state_meaning s ≡ meant (nth_line lines s.at) s.outputs
  -- after n moves it means line n
  pub after_moves : (n : ℕ) → state_meaning (moves n (start bytes)) ≡ meant (nth_line lines n) (replicate 8 0)

abbrev pub EveryTapePlays : List ℕ → Type 0
EveryTapePlays bytes = (lines : List (List Entry)) → IsTape bytes lines → Plays bytes lines
