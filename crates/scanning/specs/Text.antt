-- Places in a text and the kinds of its bytes. Assumes nothing.
use Rattle.std.specs.Prelude.{ℕ, ◌+◌, Bool, cond, not, ◌&&◌, ◌||◌, List, [], ◌∷◌, ◌==◌, nat_le}
use Rattle.faults.specs.declared.Place.{Place}

-- the longest text there is, in bytes
abbrev pub longest : ℕ
longest = 16384

-- the place of a text's first byte
abbrev pub start : Place
start = record { line = 1; column = 1 }

-- the place behind a byte that stands at p: only a line feed ends a line
abbrev pub past : Place → ℕ → Place
past p b = cond (b == 10) (record { line = p.line + 1; column = 1 }) (record { line = p.line; column = p.column + 1 })

-- the place behind bytes that stand from p on
abbrev pub walk : Place → List ℕ → Place
walk p [] = p
walk p (b ∷ bs) = walk (past p b) bs

-- a space, a tab, a line feed or a carriage return
abbrev pub white : ℕ → Bool
white b = b == 32 || (b == 9 || (b == 10 || b == 13))

-- a byte that may stand outside comments
abbrev pub allowed : ℕ → Bool
allowed b = b == 9 || (b == 10 || (b == 13 || (nat_le 32 b && nat_le b 126)))

abbrev pub bracket : ℕ → Bool
bracket b = b == 91 || b == 93

-- b, followed by c, is a byte of a run: it separates nothing, is no bracket and opens no comment
abbrev pub in_run : ℕ → ℕ → Bool
in_run b c = (nat_le 33 b && nat_le b 126) && (not (bracket b) && (not (b == 59) && not (b == 47 && c == 42)))
