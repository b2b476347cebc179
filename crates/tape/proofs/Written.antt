-- A line is written field by field. Assumes nothing.
use Rattle.std.proofs.Common.{◌≡◌, ℕ, ◌+◌, ◌*◌, ◌<◌, ◌≤◌, List, [], ◌∷◌, ◌++◌, map, length, get_or, take, drop, Option, sym, ap, ◌∙◌, arith}
use borrow.Rule.Slice.PartMut.{put_mid}
use Rattle.std.proofs.lemmas.List.{append-nil, append_assoc, take-append-drop, take_all, map_more}
use Rattle.std.proofs.lemmas.Slice.{take-put_mid}
use Rattle.tape.specs.Format.{Entry, field_bytes, fields_bytes, line_bytes}
use Rattle.tape.specs.Writing.{entry_from}

fields_more : (es : List Entry) (e : Entry) → fields_bytes (es ++ (e ∷ [])) ≡ fields_bytes es ++ field_bytes e
fields_more [] e = append-nil (field_bytes e)
fields_more (x ∷ es) e = ap (λ bs. field_bytes x ++ bs) (fields_more es e) ∙ sym (append_assoc (field_bytes x) (fields_bytes es) (field_bytes e))

-- the columns up to field k, once it is written behind those before
pub line_more : (line field : List ℕ) (j k : ℕ) (xs : List (Option ℕ)) (x : Option ℕ) → k < length xs → 6 * k ≤ length line → length field ≡ 6 → field ≡ field_bytes (entry_from (get_or xs k x)) → take (6 * k) line ≡ fields_bytes (map entry_from (take k xs)) → take (6 * (k + 1)) (put_mid (6 * k) j line field) ≡ fields_bytes (map entry_from (take (k + 1) xs))
line_more line field j k xs x h long six e done =
    let n : 6 * (k + 1) ≡ 6 * k + length field = omega arith in
    take-put_mid (6 * k) j line field (6 * (k + 1)) n long
    ∙ ap (λ bs. bs ++ field) done
    ∙ ap (λ bs. fields_bytes (map entry_from (take k xs)) ++ bs) e
    ∙ sym (fields_more (map entry_from (take k xs)) (entry_from (get_or xs k x)))
    ∙ ap fields_bytes (sym (map_more entry_from xs k x h))

pub line_done : (line : List ℕ) (k : ℕ) (xs : List (Option ℕ)) → k ≡ 8 → length xs ≡ 8 → take (6 * k) line ≡ fields_bytes (map entry_from (take k xs)) → drop 48 line ≡ 10 ∷ [] → line ≡ line_bytes (map entry_from xs)
line_done line k xs e long done feed =
    let n : 48 ≡ 6 * k = omega arith in
    sym (take-append-drop 48 line)
    ∙ ap (λ bs. take 48 line ++ bs) feed
    ∙ ap (λ j. take j line ++ (10 ∷ [])) n
    ∙ ap (λ bs. bs ++ (10 ∷ [])) done
    ∙ ap (λ ys. line_bytes (map entry_from ys)) (take_all k xs (omega arith))
