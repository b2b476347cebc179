use Rattle.std.proofs.Common.{◌≡◌, ◌<◌, true, ℕ, slice_index_or}
use Rattle.std.specs.String.{string_bytes}
use Rattle.reporting.specs.Files.{IsWell}
use Rattle.reporting.proofs.files.each_file.Given as goal

-- while all was well, it was so for each file so far
abbrev pub invariant-loop-file : goal.invariant-loop-file
invariant-loop-file g l =
    goal.F-IsAlwaysCallable g l.step
    × (l.all ≡ true → (k : ℕ) (d : _) → k < l.file-index → IsWell (goal.F-post g l.step) (string_bytes (slice_index_or l.files k d)))
