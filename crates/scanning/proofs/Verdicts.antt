-- What scanning answers is the rules' verdict, and the only one. Assumes nothing.
use Rattle.std.proofs.Common.{◌≡◌, ℕ, suc, ◌≤◌, List, length, Ok, Err, Result, sym, ap, ◌∙◌, subst, inl, inr, arith}
use Rattle.std.proofs.lemmas.Bool.{cond-true, cond-false, le-leb, lt-leb, cases_lt}
use Rattle.scanning.specs.declared.ScanFault.{ScanFault}
use Rattle.scanning.specs.declared.ScanFault.TheVariants.{TooLong, Byte, Unclosed}
use Rattle.scanning.specs.Text.{longest, start}
use Rattle.scanning.specs.Pieces.{Spot, Verdict, OneVerdict}
use Rattle.scanning.specs.Scan.{words_of, scan_of}
use Rattle.scanning.proofs.Reading.{reads_all, reads_bad, reads_open}
use Rattle.scanning.proofs.Existence.{Judged, judged_by}

scan_words : (text : List ℕ) → length text ≤ longest → words_of text ≡ scan_of text
scan_words text h = sym (cond-true _ _ _ (le-leb (length text) longest h))

pub only_verdict : (text : List ℕ) (a : Result (List Spot) ScanFault) → Verdict text a → a ≡ scan_of text
only_verdict text (Ok ws) v =
    ap Ok v.1.2 ∙ sym (reads_all v.1.0 start text (suc (length text)) (omega arith) v.1.1) ∙ scan_words text v.0
only_verdict text (Err TooLong) v = sym (cond-false _ _ _ (lt-leb (length text) longest v))
only_verdict text (Err (Byte p)) v =
    let w = v.1 in
    ap (λ q. Err (Byte q)) w.5 ∙ sym (reads_bad w.0 start text (suc (length text)) (omega arith) w.1 w.2 w.3 w.4) ∙ scan_words text v.0
only_verdict text (Err (Unclosed p)) v =
    let w = v.1 in
    ap (λ q. Err (Unclosed q)) w.4 ∙ sym (reads_open w.0 start text (suc (length text)) (omega arith) w.1 w.2 w.3) ∙ scan_words text v.0

-- a text that is not too long is judged by what stands in it
judged : (text : List ℕ) (a : Result (List Spot) ScanFault) → length text ≤ longest → Judged start text a → Verdict text a
judged text (Ok ws) h j = (h, j)
judged text (Err TooLong) h j = absurd j
judged text (Err (Byte p)) h j = (h, j)
judged text (Err (Unclosed p)) h j = (h, j)

some_verdict : (text : List ℕ) → (a : Result (List Spot) ScanFault) × Verdict text a
some_verdict text =
    elim (cases_lt longest (length text)) [
      | inl h ↦ (Err TooLong, h)
      | inr h ↦ let j = judged_by (suc (length text)) start text (omega arith) in (j.0, judged text j.0 h j.1)
    ]

pub verdict_of : (text : List ℕ) → Verdict text (scan_of text)
verdict_of text = let v = some_verdict text in subst (Verdict text) (only_verdict text v.0 v.1) v.1

pub one_verdict : (text : List ℕ) → OneVerdict text
one_verdict text a b v w = only_verdict text a v ∙ sym (only_verdict text b w)
