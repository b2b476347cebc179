-- Samples of lists and what reading answers of each. Assumes nothing.
use Rattle.std.specs.Prelude.{◌≡◌, ℕ, false, List, [], ◌∷◌, Ok, Err, codes}
use Rattle.scanning.specs.Text.{start}
use Rattle.tokens.specs.declared.Area.TheVariants.{Internal}
use Rattle.tokens.specs.declared.WordCell.TheVariants.{Pair}
use Rattle.tokens.specs.Cells.{bit_cell_in}
use Rattle.tokens.specs.Tokens.{Kind, number, load_bit, load_word}
use Rattle.reading.specs.declared.ReadFault.{ReadFault}
use Rattle.reading.specs.Faults.{cause_of, place_of}
use Rattle.reading.specs.Items.{read_of}

-- the text is one token, at its first byte, that decodes so
abbrev pub Reads : List ℕ → Kind → Type 0
Reads text k = read_of text ≡ Ok (record { token = record { part = text; kind = k }; place = start } ∷ [])

-- the text is refused by that cause, at its first byte
abbrev pub RefusedBy : ℕ → List ℕ → Type 0
RefusedBy cause text = (e : ReadFault) × (read_of text ≡ Err e) × (cause_of e ≡ cause) × (place_of e ≡ start)

abbrev pub Samples : Type 0
Samples =
    Reads (codes "50") (number 50)
    × Reads (codes ".50") (number 80)
    × RefusedBy 4 (codes "5O")
    × RefusedBy 5 (codes "65536")
    × RefusedBy 4 (codes "000005")
    × Reads (codes "LF1277") (load_bit (bit_cell_in Internal 127 7) false)
    × Reads (codes "LF126") (load_word (Pair Internal 126) false)
    × RefusedBy 5 (codes "LF127")
    × RefusedBy 5 (codes "LF0018")
    × RefusedBy 4 (codes "F126")
