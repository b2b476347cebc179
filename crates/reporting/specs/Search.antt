-- The words of a text one after the other, and the first for which a test holds. Assumes nothing.
use Rattle.std.specs.Prelude.{◌≡◌, Bool, true, false, List, ℕ, drop, Option, Some, None, Decides}
use Rattle.faults.specs.declared.Place.{Place}
use Rattle.scanning.specs.declared.Cursor.{Cursor}
use Rattle.scanning.specs.declared.Word.{Word}
use Rattle.scanning.specs.declared.ScanFault.{ScanFault}
use Rattle.scanning.specs.Scan.{finished, refused, found, next_in}

-- w is the next word at c, and d stands behind it
abbrev pub WordAt : List ℕ → Cursor → Word → Cursor → Type 0
WordAt text c w d = next_in text c ≡ found w.place w.part.now d.place (drop d.at text)

-- From c on, r is the first word for which the test holds. There is none where the text ends before it, or cannot be read so far.
pub data FirstFrom (holds : Word → Bool → Type 0) (text : List ℕ) : Cursor → Option Word → Type 0 where
  ends : {c : Cursor} → next_in text c ≡ finished → FirstFrom holds text c None
  stops : {c : Cursor} (e : ScanFault) → next_in text c ≡ refused e → FirstFrom holds text c None
  here : {c : Cursor} (w : Word) (d : Cursor) → WordAt text c w d → holds w true → FirstFrom holds text c (Some w)
  later : {c : Cursor} {r : Option Word} (w : Word) (d : Cursor) → WordAt text c w d → holds w false → FirstFrom holds text d r → FirstFrom holds text c r

-- b says whether the word begins at the place
abbrev pub BeginsAt : Place → Word → Bool → Type 0
BeginsAt p w b = Decides b (w.place ≡ p)
