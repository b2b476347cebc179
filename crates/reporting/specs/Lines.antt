-- The lines of a text. Assumes nothing.
use Rattle.std.specs.Prelude.{ℕ, ◌+◌, ◌-◌, cond, List, [], ◌∷◌, take, drop, ◌==◌, nat_le}

-- how many bytes stand before the line, counted from 1
abbrev pub line_start : ℕ → List ℕ → ℕ
line_start line [] = 0
line_start line (b ∷ bs) = cond (nat_le line 1) 0 (line_start (cond (b == 10) (line - 1) line) bs + 1)

-- how many bytes stand before the first line feed
abbrev pub line_length : List ℕ → ℕ
line_length [] = 0
line_length (b ∷ bs) = cond (b == 10) 0 (line_length bs + 1)

-- the bytes of a line
abbrev pub line_of : ℕ → List ℕ → List ℕ
line_of line text = take (line_length (drop (line_start line text) text)) (drop (line_start line text) text)
