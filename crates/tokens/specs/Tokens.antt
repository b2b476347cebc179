-- What each word of the source is, by its first bytes. Assumes nothing.
use Rattle.std.specs.Prelude.{ℕ, Bool, true, false, cond, not, ◌&&◌, ◌||◌, List, length, drop, Some, None, Ok, Err, Option, Result, ◌==◌, nat_le, slice_index}
use Rattle.tokens.specs.declared.WordFault.{WordFault}
use Rattle.tokens.specs.declared.WordFault.TheVariants.{Unlisted}
use Rattle.tokens.specs.declared.BitCell.{BitCell}
use Rattle.tokens.specs.declared.WordCell.{WordCell}
use Rattle.tokens.specs.declared.Operator.{Operator}
use Rattle.tokens.specs.declared.Operator.TheVariants.{And, Or, Xor, Add, Subtract}
use Rattle.tokens.specs.declared.Comparison.{Comparison}
use Rattle.tokens.specs.declared.Comparison.TheVariants.{Less, Greater, Equal, AtMost, AtLeast}
use Rattle.tokens.specs.declared.Token.{Token}
use Rattle.tokens.specs.declared.Token.TheVariants.{Open as OpenToken, Close as CloseToken, Number as NumberToken, LoadNumber, LoadBit, LoadWord, StoreBit, StoreWord, Switch, Test, Operator as OperatorToken, Comparison as ComparisonToken, Else, EndIf, End, Return, Label, Call}
use Rattle.tokens.specs.Numbers.{between, value_of, shaped, up_to, number_of}
use Rattle.tokens.specs.Cells.{bit_of, word_of, word_like, switched_of}

-- what a token decodes to
pub data Kind : Type 0 where
  bracket_opens : Kind
  bracket_closes : Kind
  number : ℕ → Kind
  load_number : ℕ → Kind
  load_bit : BitCell → Bool → Kind
  load_word : WordCell → Bool → Kind
  store_bit : BitCell → Bool → Kind
  store_word : WordCell → Bool → Kind
  switch : BitCell → Bool → Kind
  test : BitCell → Bool → Kind
  operator : Operator → Kind
  comparison : Comparison → Kind
  otherwise : Kind
  end_of_condition : Kind
  end_of_level : ℕ → Kind
  return : Kind
  label : ℕ → Kind
  call : ℕ → Kind

-- a token by the bytes of its part and what they decode to
pub record Lexeme : Type 0 where
  pub part : List ℕ
  pub kind : Kind

abbrev pub lexeme : Token → Lexeme
lexeme (OpenToken d) = record { part = d.now; kind = bracket_opens }
lexeme (CloseToken d) = record { part = d.now; kind = bracket_closes }
lexeme (NumberToken d v) = record { part = d.now; kind = number v }
lexeme (LoadNumber d v) = record { part = d.now; kind = load_number v }
lexeme (LoadBit d c n) = record { part = d.now; kind = load_bit c n }
lexeme (LoadWord d c n) = record { part = d.now; kind = load_word c n }
lexeme (StoreBit d c n) = record { part = d.now; kind = store_bit c n }
lexeme (StoreWord d c n) = record { part = d.now; kind = store_word c n }
lexeme (Switch d c u) = record { part = d.now; kind = switch c u }
lexeme (Test d c n) = record { part = d.now; kind = test c n }
lexeme (OperatorToken d o) = record { part = d.now; kind = operator o }
lexeme (ComparisonToken d o) = record { part = d.now; kind = comparison o }
lexeme (Else d) = record { part = d.now; kind = otherwise }
lexeme (EndIf d) = record { part = d.now; kind = end_of_condition }
lexeme (End d v) = record { part = d.now; kind = end_of_level v }
lexeme (Return d) = record { part = d.now; kind = return }
lexeme (Label d v) = record { part = d.now; kind = label v }
lexeme (Call d v) = record { part = d.now; kind = call v }

abbrev pub lexed : Result Token WordFault → Result Lexeme WordFault
lexed (Ok t) = Ok (lexeme t)
lexed (Err e) = Err e

abbrev pub on_ok : {A B : Type 0} → (A → B) → Result A WordFault → Result B WordFault
on_ok f (Ok a) = Ok (f a)
on_ok f (Err e) = Err e

-- bytes that decode so
abbrev pub named : List ℕ → Result Kind WordFault → Result Lexeme WordFault
named w (Ok k) = Ok (record { part = w; kind = k })
named w (Err e) = Err e

-- 000 to 199 without 002
abbrev pub label_in : ℕ → Option ℕ
label_in v = cond (nat_le v 199 && not (v == 2)) (Some v) None

-- 003 to 199
abbrev pub call_in : ℕ → Option ℕ
call_in v = cond (nat_le 3 v && nat_le v 199) (Some v) None

-- a byte that is a token
abbrev pub mark : ℕ → Option Kind
mark b =
    cond (b == 65) (Some (operator And)) (cond (b == 79) (Some (operator Or)) (cond (b == 88) (Some (operator Xor))
    (cond (b == 43) (Some (operator Add)) (cond (b == 45) (Some (operator Subtract))
    (cond (b == 60) (Some (comparison Less)) (cond (b == 62) (Some (comparison Greater)) (cond (b == 61) (Some (comparison Equal))
    (cond (b == 91) (Some bracket_opens) (cond (b == 93) (Some bracket_closes)
    (cond (b == 69) (Some otherwise) (cond (b == 90) (Some end_of_condition) (cond (b == 82) (Some return) None))))))))))))

-- a byte that is a token together with `=`
abbrev pub mark_equal : ℕ → Option Kind
mark_equal b = cond (b == 60) (Some (comparison AtMost)) (cond (b == 62) (Some (comparison AtLeast)) None)

abbrev pub marked : Option Kind → Result Kind WordFault
marked None = Err Unlisted
marked (Some k) = Ok k

unfoldable pub mark_of : List ℕ → Result Kind WordFault
mark_of bs =
    cond (length bs == 1) (marked (mark (slice_index bs 0)))
    (cond (length bs == 2 && slice_index bs 1 == 61) (marked (mark_equal (slice_index bs 0))) (Err Unlisted))

-- a byte that a number begins with
abbrev pub numeric : ℕ → Bool
numeric b = b == 46 || between 48 57 b

abbrev pub load_cell_of : Bool → List ℕ → Result Kind WordFault
load_cell_of negated bs =
    cond (word_like bs) (on_ok (λ c. load_word c negated) (word_of bs)) (on_ok (λ c. load_bit c negated) (bit_of bs))

abbrev pub load_number_of : List ℕ → Result Kind WordFault
load_number_of bs = on_ok (λ v. load_number v) (number_of bs)

-- behind `L`
unfoldable pub load_of : List ℕ → Result Kind WordFault
load_of bs = cond (numeric (slice_index bs 0)) (load_number_of bs) (load_cell_of false bs)

-- Y, F and T can be stored to
abbrev pub stored : ℕ → Bool
stored b = b == 89 || (b == 70 || b == 84)

abbrev pub store_cell_of : Bool → List ℕ → Result Kind WordFault
store_cell_of negated bs =
    cond (word_like bs) (on_ok (λ c. store_word c negated) (word_of bs)) (on_ok (λ c. store_bit c negated) (bit_of bs))

-- behind `S`
unfoldable pub store_of : Bool → List ℕ → Result Kind WordFault
store_of negated bs = cond (stored (slice_index bs 0)) (store_cell_of negated bs) (Err Unlisted)

-- behind `U` or `D`
abbrev pub switch_of : Bool → List ℕ → Result Kind WordFault
switch_of on bs = on_ok (λ c. switch c on) (switched_of bs)

abbrev pub test_of : Bool → List ℕ → Result Kind WordFault
test_of negated bs = on_ok (λ c. test c negated) (bit_of bs)

-- behind `N`
unfoldable pub not_of : List ℕ → Result Kind WordFault
not_of bs =
    cond (slice_index bs 0 == 76) (load_cell_of true (drop 1 bs))
    (cond (slice_index bs 0 == 83) (store_of true (drop 1 bs)) (test_of true bs))

-- behind `J`
abbrev pub end_of : List ℕ → Result Kind WordFault
end_of bs = on_ok (λ v. end_of_level v) (shaped (up_to 1) (value_of 10 1 1 bs))

-- behind `:`
abbrev pub label_of : List ℕ → Result Kind WordFault
label_of bs = on_ok (λ v. label v) (shaped label_in (value_of 10 3 3 bs))

-- behind `G`
abbrev pub call_of : List ℕ → Result Kind WordFault
call_of bs = on_ok (λ v. call v) (shaped call_in (value_of 10 3 3 bs))

abbrev pub number_word_of : List ℕ → Result Kind WordFault
number_word_of bs = on_ok (λ v. number v) (number_of bs)

-- I, Y, V, F
abbrev pub tested : ℕ → Bool
tested b = b == 73 || (b == 89 || (b == 86 || b == 70))

-- a word that begins with none of the letters below
unfoldable pub plain_of : List ℕ → Result Kind WordFault
plain_of bs =
    cond (tested (slice_index bs 0)) (test_of false bs) (cond (numeric (slice_index bs 0)) (number_word_of bs) (mark_of bs))

unfoldable pub kind_of : List ℕ → Result Kind WordFault
kind_of bs =
    cond (slice_index bs 0 == 76) (load_of (drop 1 bs))
    (cond (slice_index bs 0 == 78) (not_of (drop 1 bs))
    (cond (slice_index bs 0 == 83) (store_of false (drop 1 bs))
    (cond (slice_index bs 0 == 85) (switch_of true (drop 1 bs))
    (cond (slice_index bs 0 == 68) (switch_of false (drop 1 bs))
    (cond (slice_index bs 0 == 74) (end_of (drop 1 bs))
    (cond (slice_index bs 0 == 58) (label_of (drop 1 bs))
    (cond (slice_index bs 0 == 71) (call_of (drop 1 bs)) (plain_of bs))))))))

-- whether it is label n
abbrev pub labels : ℕ → Kind → Bool
labels n (label m) = n == m
labels n k = false
