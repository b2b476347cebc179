-- The words of a text, counted over a scanner. Assumes nothing.
use Rattle.std.proofs.Common.{◌≡◌, ℕ, ◌+◌, ◌≤◌, List, length, Some, Ok, Err, Option, Result, sym, refl, ap, ◌∙◌, arith}
use Rattle.scanning.specs.declared.Cursor.{Cursor}
use Rattle.scanning.specs.declared.Word.{Word}
use Rattle.scanning.specs.declared.ScanFault.{ScanFault}
use Rattle.scanning.specs.Pieces.{Spot}
use Rattle.scanning.specs.Scan.{before, next_in, scan_of, counted, plus, told_by, Moves}
use Rattle.scanning.proofs.Turns.{left_of, spot_of, turned}

plus_one : (m : ℕ) (w : Spot) (r : Result (List Spot) ScanFault) → plus m (counted (before w r)) ≡ plus (m + 1) (counted r)
plus_one m w (Ok ws) = ap Ok (omega arith)
plus_one m w (Err e) = refl

-- how a scanner over the text t stands behind n words
pub record Counting (text t : List ℕ) (n : ℕ) (c : Cursor) : Type 0 where
  pub same : t ≡ text
  pub few : n ≤ c.at
  pub sofar : plus n (counted (left_of text n c)) ≡ counted (scan_of text)

-- a scanner that gave one word more, with t, c before and u, d behind it
pub counting_more : (text t u : List ℕ) (n : ℕ) (c d : Cursor) (r : Result (Option Word) ScanFault) (w : Word) → Counting text t n c → u ≡ t → r ≡ Ok (Some w) → told_by r d u ≡ next_in t c → Moves r c d → d.at ≤ length u → Counting text u (n + 1) d
counting_more text t u n c d r w h e came told goes within =
    let turn = turned text t u n c d r w came h.same e goes told within h.few in
    record {
      same = e ∙ h.same;
      few = omega (arith, h.few, turn.goes);
      sofar = sym (plus_one n (spot_of w) (left_of text (n + 1) d)) ∙ ap (λ x. plus n (counted x)) (sym turn.more) ∙ h.sofar;
    }
