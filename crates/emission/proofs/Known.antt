-- The tokens of a text that is read name only cells that there are. Assumes nothing.
use Rattle.std.proofs.Common.{◌≡◌, ℕ, ◌+◌, ◌*◌, ◌%◌, ◌<◌, true, eqb, ltb, List, [], ◌∷◌, refl, ap, ◌∙◌, arith, lt-ltb, eq-eqb}
use Rattle.std.proofs.lemmas.Bool.{and_from}
use Rattle.scanning.specs.Pieces.{Spot}
use Rattle.tokens.specs.declared.Area.{Area}
use Rattle.tokens.specs.declared.Area.TheVariants.{Input, Output, Change, Internal}
use Rattle.tokens.specs.declared.BitCell.{BitCell}
use Rattle.tokens.specs.declared.WordCell.{WordCell}
use Rattle.tokens.specs.declared.WordCell.TheVariants.{Pair, Timer}
use Rattle.tokens.specs.Cells.{bit_cell_in}
use Rattle.tokens.specs.Tokens.{Kind}
use Rattle.tokens.specs.Listed.{BoardBit, InternalBit, BoardWord, BitReference, input_bit, output_bit, change_bit, internal_bit, WordReference, input_word, output_word, change_word, internal_word, timer_word, StoredArea, StoredWord, Sign, is_and, is_or, is_xor, is_plus, is_minus, is_less, is_greater, is_equal, is_at_most, is_at_least, is_open, is_close, is_else, is_end_of_condition, is_return, Listed, is_number, is_load_number, is_load_bit, is_load_word, is_store_bit, is_store_word, is_switch_output, is_switch_internal, is_test, is_sign, is_end_of_level, is_label, is_call}
use Rattle.reading.specs.Items.{Item}
use Rattle.reading.specs.Verdict.{Tokens}
use Rattle.grammar.specs.Verdict.{kinds}
use Rattle.program.specs.Sound.{area_size, known_bit, known_word, stored_area, stored_word}
use Rattle.emission.specs.Claims.{known_kind, AllKnown}

known_in : (a : Area) (b r : ℕ) → b < area_size a → r < 8 → known_bit (bit_cell_in a b r) ≡ true
known_in a b r p q = and_from (ltb b (area_size a)) (ltb r 8) (lt-ltb b (area_size a) p) (lt-ltb r 8 q)

known_board_bit : (a : Area) (ds : List ℕ) (c : BitCell) → area_size a ≡ 16 → BoardBit a ds c → known_bit c ≡ true
known_board_bit a ds c e h = ap known_bit h.names ∙ known_in a (4 * h.board + h.byte) h.bit (omega (arith, h.board_within, h.byte_within)) (omega (arith, h.bit_within))

known_internal_bit : (ds : List ℕ) (c : BitCell) → InternalBit ds c → known_bit c ≡ true
known_internal_bit ds c h = ap known_bit h.names ∙ known_in Internal h.byte h.bit (omega (arith, h.byte_within)) (omega (arith, h.bit_within))

known_bit_reference : (w : List ℕ) (c : BitCell) → BitReference w c → known_bit c ≡ true
known_bit_reference w c (input_bit ds e h) = known_board_bit Input ds c refl h
known_bit_reference w c (output_bit ds e h) = known_board_bit Output ds c refl h
known_bit_reference w c (change_bit ds e h) = known_board_bit Change ds c refl h
known_bit_reference w c (internal_bit ds e h) = known_internal_bit ds c h

known_pair : (a : Area) (b : ℕ) → b < area_size a → b % 2 ≡ 0 → known_word (Pair a b) ≡ true
known_pair a b p q = and_from (ltb b (area_size a)) (eqb (b % 2) 0) (lt-ltb b (area_size a) p) (eq-eqb (b % 2) 0 q)

known_board_word : (a : Area) (ds : List ℕ) (c : WordCell) → area_size a ≡ 16 → BoardWord a ds c → known_word c ≡ true
known_board_word a ds c e h = ap known_word h.names ∙ known_pair a (4 * h.board + 2 * h.half) (omega (arith, h.board_within, h.half_within)) (omega arith)

known_word_reference : (w : List ℕ) (c : WordCell) → WordReference w c → known_word c ≡ true
known_word_reference w c (input_word ds e h) = known_board_word Input ds c refl h
known_word_reference w c (output_word ds e h) = known_board_word Output ds c refl h
known_word_reference w c (change_word ds e h) = known_board_word Change ds c refl h
known_word_reference w c (internal_word ds e h) = ap known_word h.names ∙ known_pair Internal (2 * h.half) (omega (arith, h.within)) (omega arith)
known_word_reference w c (timer_word ds e h) = ap known_word h.names ∙ lt-ltb h.timer 20 (omega (arith, h.within))

area_stored : (a : Area) → StoredArea a → stored_area a ≡ true
area_stored Input p = absurd p
area_stored Output p = refl
area_stored Change p = absurd p
area_stored Internal p = refl

word_stored : (c : WordCell) → StoredWord c → stored_word c ≡ true
word_stored (Pair a b) p = area_stored a p
word_stored (Timer t) p = refl

known_sign : (w : List ℕ) (k : Kind) → Sign w k → known_kind k ≡ true
known_sign w k (is_and e f) = ap known_kind f
known_sign w k (is_or e f) = ap known_kind f
known_sign w k (is_xor e f) = ap known_kind f
known_sign w k (is_plus e f) = ap known_kind f
known_sign w k (is_minus e f) = ap known_kind f
known_sign w k (is_less e f) = ap known_kind f
known_sign w k (is_greater e f) = ap known_kind f
known_sign w k (is_equal e f) = ap known_kind f
known_sign w k (is_at_most e f) = ap known_kind f
known_sign w k (is_at_least e f) = ap known_kind f
known_sign w k (is_open e f) = ap known_kind f
known_sign w k (is_close e f) = ap known_kind f
known_sign w k (is_else e f) = ap known_kind f
known_sign w k (is_end_of_condition e f) = ap known_kind f
known_sign w k (is_return e f) = ap known_kind f

known_listed : (w : List ℕ) (k : Kind) → Listed w k → known_kind k ≡ true
known_listed w k (is_number v n e) = ap known_kind e
known_listed w k (is_load_number ds v e n f) = ap known_kind f
known_listed w k (is_load_bit n ds c e h f) = ap known_kind f ∙ known_bit_reference ds c h
known_listed w k (is_load_word n ds c e h f) = ap known_kind f ∙ known_word_reference ds c h
known_listed w k (is_store_bit n ds c e h s f) = ap known_kind f ∙ and_from (known_bit c) (stored_area c.area) (known_bit_reference ds c h) (area_stored c.area s)
known_listed w k (is_store_word n ds c e h s f) = ap known_kind f ∙ and_from (known_word c) (stored_word c) (known_word_reference ds c h) (word_stored c s)
known_listed w k (is_switch_output on ds c e h f) = ap known_kind f ∙ and_from (known_bit c) (stored_area c.area) (known_board_bit Output ds c refl h) (ap (λ (x : BitCell). stored_area x.area) h.names)
known_listed w k (is_switch_internal on ds c e h f) = ap known_kind f ∙ and_from (known_bit c) (stored_area c.area) (known_internal_bit ds c h) (ap (λ (x : BitCell). stored_area x.area) h.names)
known_listed w k (is_test n ds c e h f) = ap known_kind f ∙ known_bit_reference ds c h
known_listed w k (is_sign s) = known_sign w k s
known_listed w k (is_end_of_level d l e f) = ap known_kind f
known_listed w k (is_label ds v e h l n f) = ap known_kind f
known_listed w k (is_call ds v e h l n f) = ap known_kind f

pub known_tokens : (ws : List Spot) (ts : List Item) → Tokens ws ts → AllKnown (kinds ts)
known_tokens [] [] h = tt
known_tokens [] (t ∷ ts) h = absurd h
known_tokens (w ∷ ws) [] h = absurd h
known_tokens (w ∷ ws) (t ∷ ts) h = (known_listed w.bytes t.token.kind h.2, known_tokens ws ts h.3)
