-- What a panel answers, by its meaning alone. Assumes nothing.
use Rattle.std.specs.Prelude.{ℕ, Bool, false, cond, Ok, Err, Result, nat_lt, slice_index, slice_index_or}
use Rattle.panel.specs.declared.PanelFault.{PanelFault}
use Rattle.panel.specs.declared.PanelFault.TheVariants.{NoSuchWord, Silent}
use Rattle.panel.specs.Meaning.{Meaning}

-- an answer for a word that there is, and else the refusal by 16
abbrev pub for_word : {X : Type 0} → ℕ → Result X PanelFault → Result X PanelFault
for_word k r = cond (nat_lt k 8) r (Err (NoSuchWord k))

abbrev pub index_of : ℕ → Result ℕ PanelFault
index_of k = for_word k (Ok k)

-- the refusal of a silent word by 15
abbrev pub unless_silent : ℕ → Bool → Result (Unit {0}) PanelFault
unless_silent k answers = cond answers (Ok tt) (Err (Silent k))

abbrev pub read_of : Meaning → ℕ → Result ℕ PanelFault
read_of m k = for_word k (cond (slice_index_or m.input_answers k false) (Ok (slice_index m.inputs k)) (Err (Silent k)))

abbrev pub put_answer : Meaning → ℕ → Result (Unit {0}) PanelFault
put_answer m k = for_word k (cond (slice_index_or m.output_answers k false) (Ok tt) (Err (Silent k)))
