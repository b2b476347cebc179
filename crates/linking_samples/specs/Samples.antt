-- Samples of lists and what reading answers of each. Assumes nothing.
use Rattle.std.specs.Prelude.{◌≡◌, ℕ, List, [], Ok, Err, codes}
use Rattle.linking.specs.declared.LinkFault.TheVariants.{Unlinked}
use Rattle.linking.specs.Faults.{cause_of as link_cause}
use Rattle.linking.specs.Verdict.{Verdict}

-- the list of the worked run
abbrev pub worked_text : List ℕ
worked_text = codes ":001 I000 U001 E D001 Z J1 :000 LI00 + LF010 SF010 SY02 J0"

-- the empty text is refused by 10 at line 1, column 1; the worked run's list is accepted with figures 4 and 5
pub record LinkedSamples : Type 0 where
  pub empty_text : Verdict [] (Err (Unlinked (record { line = 1; column = 1 })))
  pub by_ten : link_cause (Unlinked (record { line = 1; column = 1 })) ≡ 10
  pub worked_run : Verdict worked_text (Ok (record { quick = 4; slow = 5 }))
