-- What the code sees in a token, and what its tables say.
use Rattle.std.specs.Prelude.{◌≡◌, ℕ, ◌+◌, ◌<◌, ◌≤◌, ◌⊎◌, Bool, true, false, cond, List, [], ◌∷◌, length, Some, None, Decides, Option, slice_index_or}
use Rattle.tokens.specs.declared.Area.{Area}
use Rattle.tokens.specs.declared.Area.TheVariants.{Input, Output, Change, Internal}
use Rattle.tokens.specs.Tokens.{Kind}
use Rattle.rules.specs.declared.roles.Span.{Span}
use Rattle.rules.specs.Labels.{kind_at}
use Rattle.rules.specs.Levels.{home, Calls, Reaches}
use Rattle.rules.specs.Bytes.{Stores}

-- byte e of an area and `more` behind it, where tokens store there
abbrev pub span : Area → ℕ → ℕ → Option Span
span Input e more = None
span Output e more = Some (record { first = 128 + e; last = 128 + e + more })
span Change e more = None
span Internal e more = Some (record { first = e; last = e + more })

-- byte b lies in a span
abbrev pub Within : Span → ℕ → Type 0
Within s b = (s.first ≤ b) × (b ≤ s.last)

-- byte b is among those that are stored into
abbrev pub Covers : Option Span → ℕ → Type 0
Covers None b = ⊥
Covers (Some s) b = Within s b

-- a byte lies in both
abbrev pub Overlap : Span → Span → Type 0
Overlap s t = (b : ℕ) × Within s b × Within t b

-- a token stores into one of the bytes
abbrev pub StoresAmong : Kind → Span → Type 0
StoresAmong k bytes = (b : ℕ) × Within bytes b × Stores k b

-- n is marked
abbrev pub On : List Bool → ℕ → Type 0
On marks n = slice_index_or marks n false ≡ true

-- the table has what `root` reaches
abbrev pub Marks : List Kind → ℕ → List Bool → Type 0
Marks ks root marks = (n : ℕ) → Decides (slice_index_or marks n false) (Reaches ks root n)

-- whether a module is marked; where there is none, it is not
abbrev pub lit : List Bool → Option ℕ → Bool
lit marks None = false
lit marks (Some m) = slice_index_or marks m false

-- the token at j, in a marked module, stores into one of the bytes
abbrev pub Touches : List Kind → List Bool → Span → ℕ → Type 0
Touches ks marks bytes j = (lit marks (home ks j) ≡ true) × StoresAmong (kind_at ks j) bytes

-- some token does
abbrev pub Touched : List Kind → List Bool → Span → Type 0
Touched ks marks bytes = (j : ℕ) × (j < length ks) × Touches ks marks bytes j

-- module h is marked in one table, and some token stores into one of the bytes by the other
abbrev pub Meets : List Kind → List Bool → List Bool → Option ℕ → Span → Type 0
Meets ks one other h bytes = (lit one h ≡ true) × Touched ks other bytes

-- the same, whichever of the two levels the module is on
abbrev pub MeetsEither : List Kind → List Bool → List Bool → Option ℕ → Span → Type 0
MeetsEither ks slow quick h bytes = Meets ks quick slow h bytes ⊎ Meets ks slow quick h bytes

-- how many places are not marked
abbrev pub unmarked : List Bool → ℕ
unmarked [] = 0
unmarked (m ∷ ms) = cond m 0 1 + unmarked ms

-- a pass over the text that marks modules that marked ones call
pub record Spread (ks : List Kind) (old new : List Bool) (more : Bool) : Type 0 where
  pub kept : (n : ℕ) → On old n → On new n
  pub sound : (root : ℕ) → ((n : ℕ) → On old n → Reaches ks root n) → (n : ℕ) → On new n → Reaches ks root n
  pub closed : more ≡ false → (a b : ℕ) → Calls ks a b → On new a → On new b
  pub fewer : more ≡ true → unmarked new < unmarked old
