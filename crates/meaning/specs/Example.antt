-- Worked examples. Assumes nothing.
use Rattle.std.specs.Prelude.{◌≡◌, ℕ, true, false, List, [], ◌∷◌, map, length, replicate, Ok, codes, slice_set, Some}
use Rattle.tokens.specs.declared.Area.TheVariants.{Input, Output, Internal}
use Rattle.tokens.specs.declared.WordCell.TheVariants.{Pair}
use Rattle.tokens.specs.declared.Operator.TheVariants.{Add, Subtract}
use Rattle.tokens.specs.declared.Comparison.TheVariants.{Less}
use Rattle.tokens.specs.Cells.{bit_cell_in}
use Rattle.tokens.specs.Tokens.{kind_of}
use Rattle.grammar.specs.Grammar.{number_loaded, word_loaded, no_more, apply_then, word_taken, bracket_taken, word_stored, switched, called, with_number, bit_tested, compared, loading, applying, acting, choosing, done, and_then, no_else, else_do, Module, module_of, spell}
use Rattle.program.specs.declared.instruction.Source.TheVariants.{Number, Word}
use Rattle.program.specs.declared.instruction.Check.TheVariants.{Bit as BitCheck, Compare}
use Rattle.program.specs.declared.instruction.Instruction.TheVariants.{Return, Load, Apply, Open, Close, StoreWord, Switch, Test, Skip, Call}
use Rattle.program.specs.Cells.{Sight, State}
use Rattle.meaning.specs.Meaning.{last, trail}
use Rattle.meaning.specs.Figure.{figure}
use Rattle.meaning.specs.Code.{code, place_of}
use Rattle.meaning.specs.Nesting.{depth, chain}

-- the first word of inputs at v, all others 0
abbrev pub seeing : ℕ → Sight
seeing v = record { inputs = v ∷ replicate 7 0; previous = replicate 8 0 }

-- all cells 0 and nothing stored
abbrev pub cleared : State
cleared = record { op = 0; bytes = replicate 144 0; timers = replicate 20 0; stored = replicate 144 false }

-- the bytes at the end of a pass
abbrev pub left_by : List Module → ℕ → ℕ → List ℕ
left_by ms l v = (last cleared (trail ms l (seeing v) cleared)).bytes

-- ---- two levels
abbrev pub two_levels_words : List (List ℕ)
two_levels_words =
    codes ":001" ∷ codes "I000" ∷ codes "U001" ∷ codes "E" ∷ codes "D001" ∷ codes "Z" ∷ codes "J1"
    ∷ codes ":000" ∷ codes "LI00" ∷ codes "+" ∷ codes "LF010" ∷ codes "SF010" ∷ codes "SY02" ∷ codes "J0" ∷ []

abbrev pub two_levels : List Module
two_levels =
    module_of 1
    (and_then (choosing (bit_tested (bit_cell_in Input 0 0) false) (and_then (acting (switched (bit_cell_in Output 0 1) true)) done) (else_do (and_then (acting (switched (bit_cell_in Output 0 1) false)) done))) done)
    ∷ module_of 0
    (and_then (loading (word_loaded (Pair Input 0) false))
    (and_then (applying Add (word_taken (Pair Internal 10) false))
    (and_then (acting (word_stored (Pair Internal 10) false))
    (and_then (acting (word_stored (Pair Output 2) false)) done))))
    ∷ []

pub record TwoLevelsStand : Type 0 where
  pub written : map kind_of two_levels_words ≡ map (λ k. Ok k) (spell two_levels)
  pub figure_1 : figure two_levels 1 ≡ 4
  pub figure_0 : figure two_levels 0 ≡ 5
  pub steps_1_true : length (trail two_levels 1 (seeing 1) cleared) ≡ 4
  pub steps_1_false : length (trail two_levels 1 (seeing 0) cleared) ≡ 3
  pub steps_0 : length (trail two_levels 0 (seeing 1) cleared) ≡ 5
  pub left_1_true : left_by two_levels 1 1 ≡ slice_set (replicate 144 0) 128 2
  pub left_1_false : left_by two_levels 1 0 ≡ replicate 144 0
  pub left_0 : left_by two_levels 0 1 ≡ slice_set (slice_set (replicate 144 0) 10 1) 130 1
  pub place_1 : place_of two_levels 1 ≡ 0
  pub place_0 : place_of two_levels 0 ≡ 5
  pub coded : code two_levels ≡ Test (BitCheck (bit_cell_in Input 0 0) false) 2 ∷ Switch (bit_cell_in Output 0 1) true ∷ Skip 1 ∷ Switch (bit_cell_in Output 0 1) false ∷ Return ∷ Load (Word (Pair Input 0) false) ∷ Apply Add (Word (Pair Internal 10) false) ∷ StoreWord (Pair Internal 10) false ∷ StoreWord (Pair Output 2) false ∷ Return ∷ Return ∷ []

-- ---- brackets, and a call of a module with a condition and no `E`
abbrev pub nested_words : List (List ℕ)
nested_words =
    codes ":000" ∷ codes "L5" ∷ codes "+" ∷ codes "[" ∷ codes "L1" ∷ codes "-" ∷ codes "[" ∷ codes "L2" ∷ codes "]" ∷ codes "]" ∷ codes "G003" ∷ codes "J0"
    ∷ codes ":003" ∷ codes "<" ∷ codes "9" ∷ codes "SF000" ∷ codes "Z" ∷ codes "R" ∷ []

abbrev pub nested : List Module
nested =
    module_of 0
    (and_then (loading (number_loaded 5))
    (and_then (applying Add (bracket_taken (number_loaded 1) (apply_then Subtract (bracket_taken (number_loaded 2) no_more) no_more)))
    (and_then (acting (called 3)) done)))
    ∷ module_of 3
    (and_then (choosing (compared Less (with_number 9)) (and_then (acting (word_stored (Pair Internal 0) false)) done) no_else) done)
    ∷ []

pub record NestedStands : Type 0 where
  pub written : map kind_of nested_words ≡ map (λ k. Ok k) (spell nested)
  pub figure_0 : figure nested 0 ≡ 12
  pub figure_3 : figure nested 3 ≡ 3
  pub ops : map (λ (s : State). s.op) (trail nested 0 (seeing 0) cleared) ≡ 5 ∷ 5 ∷ 1 ∷ 1 ∷ 2 ∷ 65535 ∷ 4 ∷ 4 ∷ 4 ∷ 4 ∷ 4 ∷ 4 ∷ []
  pub left : left_by nested 0 0 ≡ slice_set (replicate 144 0) 0 4
  pub depth_0 : depth nested 0 ≡ 2
  pub chain_0 : chain nested 0 ≡ 2
  pub coded : code nested ≡ Load (Number 5) ∷ Open (Some Add) ∷ Load (Number 1) ∷ Open (Some Subtract) ∷ Load (Number 2) ∷ Close ∷ Close ∷ Call 9 ∷ Return ∷ Test (Compare Less (Number 9)) 1 ∷ StoreWord (Pair Internal 0) false ∷ Return ∷ Return ∷ []

pub record ExamplesStand : Type 0 where
  pub two_levels : TwoLevelsStand
  pub nested : NestedStands
