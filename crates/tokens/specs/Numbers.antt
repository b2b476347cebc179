-- Digits, their values and what a value has to be. Assumes nothing.
use Rattle.std.specs.Prelude.{ℕ, ◌+◌, ◌-◌, ◌*◌, Bool, cond, ◌&&◌, List, [], ◌∷◌, length, drop, Some, None, Ok, Err, Option, Result, ◌==◌, nat_le, slice_index}
use Rattle.tokens.specs.declared.WordFault.{WordFault}
use Rattle.tokens.specs.declared.WordFault.TheVariants.{Unlisted, OutOfRange}

abbrev pub between : ℕ → ℕ → ℕ → Bool
between lo hi b = nat_le lo b && nat_le b hi

-- the value of a digit of a radix of at most sixteen
abbrev pub digit : ℕ → ℕ → Option ℕ
digit radix b =
    cond (between 48 57 b) (Some (b - 48)) (cond (radix == 16 && between 65 70 b) (Some (b - 55)) None)

-- digits read after others of the value v
abbrev pub value_after : ℕ → ℕ → List ℕ → Option ℕ
value_after radix v [] = Some v
value_after radix v (b ∷ bs) = elim (digit radix b) [ None ↦ None | Some d ↦ value_after radix (v * radix + d) bs ]

-- the value of lo to hi digits, and of nothing else
unfoldable pub value_of : ℕ → ℕ → ℕ → List ℕ → Option ℕ
value_of radix lo hi bs = cond (between lo hi (length bs)) (value_after radix 0 bs) None

abbrev pub ranged : {A : Type 0} → Option A → Result A WordFault
ranged None = Err OutOfRange
ranged (Some a) = Ok a

-- the shape first, then the range
abbrev pub shaped : {A : Type 0} → (ℕ → Option A) → Option ℕ → Result A WordFault
shaped f None = Err Unlisted
shaped f (Some v) = ranged (f v)

abbrev pub up_to : ℕ → ℕ → Option ℕ
up_to most v = cond (nat_le v most) (Some v) None

abbrev pub any : ℕ → Option ℕ
any v = Some v

-- one to five decimal digits up to 65535, or `.` and one to four digits 0-9A-F
unfoldable pub number_of : List ℕ → Result ℕ WordFault
number_of bs = cond (slice_index bs 0 == 46) (shaped any (value_of 16 1 4 (drop 1 bs))) (shaped (up_to 65535) (value_of 10 1 5 bs))
