-- How a text is scanned, byte by byte and word by word. Assumes nothing.
use Rattle.std.specs.Prelude.{◌≡◌, ℕ, zero, suc, ◌+◌, ◌<◌, ◌≤◌, cond, ◌&&◌, List, [], ◌∷◌, length, take, drop, Some, None, Ok, Err, Option, Result, ◌==◌, nat_le, slice_index}
use Rattle.faults.specs.declared.Place.{Place}
use Rattle.scanning.specs.declared.Cursor.{Cursor}
use Rattle.scanning.specs.declared.Word.{Word}
use Rattle.scanning.specs.declared.Mode.{Mode}
use Rattle.scanning.specs.declared.Mode.TheVariants.{Between, Line, Opening, Block, Closing}
use Rattle.scanning.specs.declared.ScanFault.{ScanFault}
use Rattle.scanning.specs.declared.ScanFault.TheVariants.{TooLong, Byte, Unclosed}
use Rattle.scanning.specs.Text.{longest, start, past, white, bracket, in_run}
use Rattle.scanning.specs.Pieces.{Spot, Verdict}

-- p is a place that i bytes lead to at most
abbrev pub Reached : Place → ℕ → Type 0
Reached p i = (p.line ≤ i + 1) × (p.column ≤ i + 1)

-- c stands in the text, or behind its last byte
abbrev pub Within : List ℕ → Cursor → Type 0
Within text c = (c.at ≤ length text) × Reached c.place c.at

-- the cursor at a text's first byte
abbrev pub origin : Cursor
origin = record { at = 0; place = start }

-- what the byte b at p, followed by c, leads to; None where a word or a byte that is refused begins
abbrev pub mode_after : Mode → Place → ℕ → ℕ → Option Mode
mode_after Between p b c =
    cond (white b) (Some Between) (cond (b == 59) (Some Line) (cond (b == 47 && c == 42) (Some (Opening p)) None))
mode_after Line p b c = cond (b == 10) (Some Between) (Some Line)
mode_after (Opening o) p b c = Some (Block o)
mode_after (Block o) p b c = cond (b == 42 && c == 47) (Some Closing) (Some (Block o))
mode_after Closing p b c = Some Between

abbrev pub end_of : Mode → Cursor → Result Cursor ScanFault
end_of Between c = Ok c
end_of Line c = Ok c
end_of (Opening o) c = Err (Unclosed o)
end_of (Block o) c = Err (Unclosed o)
end_of Closing c = Ok c

-- where skipping ends
pub data Skip : Type 0 where
  stands : Place → List ℕ → Skip
  refusal : ScanFault → Skip

abbrev pub skip_at_end : Mode → Place → Skip
skip_at_end Between p = stands p []
skip_at_end Line p = stands p []
skip_at_end (Opening o) p = refusal (Unclosed o)
skip_at_end (Block o) p = refusal (Unclosed o)
skip_at_end Closing p = stands p []

abbrev pub skip_of : Mode → Place → List ℕ → Skip
skip_of m p [] = skip_at_end m p
skip_of m p (b ∷ bs) =
    elim (mode_after m p b (slice_index bs 0)) [ None ↦ stands p (b ∷ bs) | Some n ↦ skip_of n (past p b) bs ]

abbrev pub skipped : List ℕ → Result Cursor ScanFault → Skip
skipped text (Ok c) = stands c.place (drop c.at text)
skipped text (Err e) = refusal e

-- how many bytes at the front go on a run
abbrev pub run_of : List ℕ → ℕ
run_of [] = 0
run_of (b ∷ bs) = cond (in_run b (slice_index bs 0)) (run_of bs + 1) 0

-- how long the word at the front is, 0 where its first byte is refused
abbrev pub word_len : List ℕ → ℕ
word_len bs = cond (bracket (slice_index bs 0)) 1 (run_of bs)

abbrev pub across : Place → ℕ → Place
across p n = record { line = p.line; column = p.column + n }

-- a word's place and bytes, and what is left behind it; or the end, or a fault
pub data Next : Type 0 where
  finished : Next
  refused : ScanFault → Next
  found : Place → List ℕ → Place → List ℕ → Next

abbrev pub next_at : Skip → Next
next_at (refusal e) = refused e
next_at (stands p bs) =
    cond (length bs == 0) finished
    (cond (word_len bs == 0) (refused (Byte p)) (found p (take (word_len bs) bs) (across p (word_len bs)) (drop (word_len bs) bs)))

abbrev pub next_of : Place → List ℕ → Next
next_of p bs = next_at (skip_of Between p bs)

-- what comes next at c; of a text that is too long nothing does
abbrev pub next_in : List ℕ → Cursor → Next
next_in text c = cond (nat_le (length text) longest) (next_of c.place (drop c.at text)) (refused TooLong)

abbrev pub told : List ℕ → Result (Option (Word × Cursor)) ScanFault → Next
told text (Ok None) = finished
told text (Ok (Some w)) = found w.0.place w.0.part.now w.1.place (drop w.1.at text)
told text (Err e) = refused e

-- the same of a scanner, whose cursor is c when the call returns
abbrev pub told_by : Result (Option Word) ScanFault → Cursor → List ℕ → Next
told_by (Ok None) c text = finished
told_by (Ok (Some w)) c text = found w.place w.part.now c.place (drop c.at text)
told_by (Err e) c text = refused e

-- the cursor behind a word lies further on, in the text
abbrev pub Goes : List ℕ → ℕ → Result (Option (Word × Cursor)) ScanFault → Type 0
Goes text at (Ok None) = Unit {0}
Goes text at (Ok (Some w)) = (at < w.1.at) × Within text w.1
Goes text at (Err e) = Unit {0}

-- after a word the cursor lies further on
abbrev pub Moves : Result (Option Word) ScanFault → Cursor → Cursor → Type 0
Moves (Ok None) old new = Unit {0}
Moves (Ok (Some w)) old new = old.at < new.at
Moves (Err e) old new = Unit {0}

-- where no word came the cursor is as it was
abbrev pub Stays : Result (Option Word) ScanFault → Cursor → Cursor → Type 0
Stays (Ok None) old new = new ≡ old
Stays (Ok (Some w)) old new = Unit {0}
Stays (Err e) old new = new ≡ old

abbrev pub before : Spot → Result (List Spot) ScanFault → Result (List Spot) ScanFault
before w (Ok ws) = Ok (w ∷ ws)
before w (Err e) = Err e

-- the words of a text, at most k of them
abbrev pub words_by : ℕ → Place → List ℕ → Result (List Spot) ScanFault
words_by zero p bs = Ok []
words_by (suc k) p bs =
    elim (next_of p bs) [
      | finished ↦ Ok []
      | refused e ↦ Err e
      | found q w n rest ↦ before (record { place = q; bytes = w }) (words_by k n rest)
    ]

-- each word takes a byte at least, so that as many as there are bytes suffice
abbrev pub words_of : List ℕ → Result (List Spot) ScanFault
words_of text = words_by (suc (length text)) start text

-- what scanning answers of any text
abbrev pub scan_of : List ℕ → Result (List Spot) ScanFault
scan_of text = cond (nat_le (length text) longest) (words_of text) (Err TooLong)

-- how many words there are
abbrev pub counted : Result (List Spot) ScanFault → Result ℕ ScanFault
counted (Ok ws) = Ok (length ws)
counted (Err e) = Err e

abbrev pub plus : ℕ → Result ℕ ScanFault → Result ℕ ScanFault
plus m (Ok n) = Ok (m + n)
plus m (Err e) = Err e

-- r counts the words of the verdict on the text
abbrev pub CountsVerdict : List ℕ → Result ℕ ScanFault → Type 0
CountsVerdict text r = (a : Result (List Spot) ScanFault) × (r ≡ counted a) × Verdict text a
