-- What is read at a line. Assumes nothing.
use Rattle.std.proofs.Common.{◌≡◌, ℕ, zero, suc, ◌-◌, ◌*◌, ◌/◌, ◌<◌, ◌≤◌, ltb, ◌⊎◌, List, length, get_or, take, drop, replicate, option_map, Ok, Err, Option, Result, sym, ap, ◌∙◌, ⊎_elim, arith}
use Rattle.std.specs.Option.{option_flatten}
use Rattle.std.specs.Result.{result_ok}
use Rattle.std.proofs.lemmas.List.{get_or-replicate, get_or_past}
use Rattle.std.proofs.lemmas.Bool.{cond-true, cond-false, lt-ltb, le-ltb, cases_lt}
use Rattle.tape.specs.declared.fields.BadField.{BadField}
use Rattle.tape.specs.Fields.{field_of, entry_of, line_says}
use Rattle.tape.specs.Format.{silent}
use Rattle.tape.specs.Says.{line_at, said}
use Rattle.tape.specs.Writing.{entry_from}
use Rattle.tape.proofs.Lines.{entry_at}

all_silent : (k : ℕ) → get_or (replicate 8 silent) k silent ≡ silent
all_silent k = ⊎_elim (λ (h : k < 8). get_or-replicate 8 k silent silent h) (λ (h : 8 ≤ k). get_or_past (replicate 8 silent) k silent h) (cases_lt k 8)

pub outside : (bytes : List ℕ) (n k : ℕ) → (n ≡ 0) ⊎ (length bytes / 49 < n) → silent ≡ get_or (said bytes n) k silent
unfolding said
outside bytes zero k h = sym (all_silent k)
outside bytes (suc n) k h =
    ⊎_elim
    (λ (z : suc n ≡ 0). let no : ⊥ = omega arith in absurd no)
    (λ (z : length bytes / 49 < suc n). sym (ap (λ es. get_or es k silent) (cond-false (ltb n (length bytes / 49)) _ _ (le-ltb n _ (omega arith))) ∙ all_silent k))
    h

inside_suc : (bytes : List ℕ) (n k : ℕ) → n < length bytes / 49 → k < 8 → get_or (said bytes (suc n)) k silent ≡ entry_of (field_of (take 6 (drop (6 * k) (line_at bytes n))))
unfolding said line_says
inside_suc bytes n k h w = ap (λ es. get_or es k silent) (cond-true (ltb n (length bytes / 49)) _ _ (lt-ltb n _ h)) ∙ entry_at 8 k (line_at bytes n) w

pub inside : (bytes : List ℕ) (n k : ℕ) → (n ≡ 0 → ⊥) → n ≤ length bytes / 49 → k < 8 → entry_of (field_of (take 6 (drop (6 * k) (line_at bytes (n - 1))))) ≡ get_or (said bytes n) k silent
inside bytes n k some h w =
    let p : n ≡ suc (n - 1) = omega arith in
    sym (ap (λ j. get_or (said bytes j) k silent) p ∙ inside_suc bytes (n - 1) k (omega arith) w)

-- what is handed over for a field
pub handed : (r : Result (Option ℕ) BadField) (columns : List ℕ) → option_map entry_from (result_ok r) ≡ field_of columns → entry_from (option_flatten (result_ok r)) ≡ entry_of (field_of columns)
handed (Ok entry) columns e = ap entry_of e
handed (Err f) columns e = ap entry_of e
