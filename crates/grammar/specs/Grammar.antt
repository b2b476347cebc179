-- The grammar: trees, and the tokens that each is written as. `spell-.. t rest` is the tokens of t, and then rest. Assumes nothing.
use Rattle.std.specs.Prelude.{◌≡◌, ℕ, Bool, cond, List, [], ◌∷◌, ◌++◌, ◌==◌}
use Rattle.tokens.specs.declared.BitCell.{BitCell}
use Rattle.tokens.specs.declared.WordCell.{WordCell}
use Rattle.tokens.specs.declared.Operator.{Operator}
use Rattle.tokens.specs.declared.Comparison.{Comparison}
use Rattle.tokens.specs.Tokens.{Kind, bracket_opens, bracket_closes, number, load_number, load_bit, load_word, store_bit, store_word, switch, test, operator, comparison, otherwise, end_of_condition, end_of_level, return, label, call}

-- the flag of a reference says that it is negated, that of a switch that it switches on
mutual
  pub data Load : Type 0 where
    number_loaded : ℕ → Load
    bit_loaded : BitCell → Bool → Load
    word_loaded : WordCell → Bool → Load
    bracket_loaded : Load → Ops → Load

  pub data Ops : Type 0 where
    no_more : Ops
    apply_then : Operator → Operand → Ops → Ops

  pub data Operand : Type 0 where
    number_taken : ℕ → Operand
    bit_taken : BitCell → Bool → Operand
    word_taken : WordCell → Bool → Operand
    bracket_taken : Load → Ops → Operand

pub data Act : Type 0 where
  bit_stored : BitCell → Bool → Act
  word_stored : WordCell → Bool → Act
  switched : BitCell → Bool → Act
  called : ℕ → Act

-- what a test compares with
pub data Comparand : Type 0 where
  with_number : ℕ → Comparand
  with_word : WordCell → Bool → Comparand

pub data Test : Type 0 where
  bit_tested : BitCell → Bool → Test
  compared : Comparison → Comparand → Test

mutual
  pub data Command : Type 0 where
    loading : Load → Command
    applying : Operator → Operand → Command
    acting : Act → Command
    choosing : Test → Cmds → Alternative → Command

  pub data Cmds : Type 0 where
    done : Cmds
    and_then : Command → Cmds → Cmds

  pub data Alternative : Type 0 where
    no_else : Alternative
    else_do : Cmds → Alternative

-- a module by its label and its commands
pub data Module : Type 0 where
  module_of : ℕ → Cmds → Module

-- the token that ends a module: `J1` for label 001, `J0` for 000, `R` for any other
abbrev pub closing : ℕ → Kind
closing n = cond (n == 1) (end_of_level 1) (cond (n == 0) (end_of_level 0) return)

abbrev mutual
  pub spell_load : Load → List Kind → List Kind
  spell_load (number_loaded v) rest = load_number v ∷ rest
  spell_load (bit_loaded c n) rest = load_bit c n ∷ rest
  spell_load (word_loaded c n) rest = load_word c n ∷ rest
  spell_load (bracket_loaded l os) rest = bracket_opens ∷ spell_load l (spell_ops os (bracket_closes ∷ rest))

  pub spell_ops : Ops → List Kind → List Kind
  spell_ops no_more rest = rest
  spell_ops (apply_then o x os) rest = operator o ∷ spell_operand x (spell_ops os rest)

  pub spell_operand : Operand → List Kind → List Kind
  spell_operand (number_taken v) rest = number v ∷ rest
  spell_operand (bit_taken c n) rest = load_bit c n ∷ rest
  spell_operand (word_taken c n) rest = load_word c n ∷ rest
  spell_operand (bracket_taken l os) rest = bracket_opens ∷ spell_load l (spell_ops os (bracket_closes ∷ rest))

abbrev pub spell_act : Act → List Kind → List Kind
spell_act (bit_stored c n) rest = store_bit c n ∷ rest
spell_act (word_stored c n) rest = store_word c n ∷ rest
spell_act (switched c on) rest = switch c on ∷ rest
spell_act (called n) rest = call n ∷ rest

abbrev pub spell_comparand : Comparand → List Kind → List Kind
spell_comparand (with_number v) rest = number v ∷ rest
spell_comparand (with_word c n) rest = load_word c n ∷ rest

abbrev pub spell_test : Test → List Kind → List Kind
spell_test (bit_tested c n) rest = test c n ∷ rest
spell_test (compared o x) rest = comparison o ∷ spell_comparand x rest

abbrev mutual
  pub spell_command : Command → List Kind → List Kind
  spell_command (loading l) rest = spell_load l rest
  spell_command (applying o x) rest = operator o ∷ spell_operand x rest
  spell_command (acting a) rest = spell_act a rest
  spell_command (choosing t cs b) rest = spell_test t (spell_cmds cs (spell_alternative b (end_of_condition ∷ rest)))

  pub spell_cmds : Cmds → List Kind → List Kind
  spell_cmds done rest = rest
  spell_cmds (and_then c cs) rest = spell_command c (spell_cmds cs rest)

  pub spell_alternative : Alternative → List Kind → List Kind
  spell_alternative no_else rest = rest
  spell_alternative (else_do cs) rest = otherwise ∷ spell_cmds cs rest

abbrev pub spell_module : Module → List Kind → List Kind
spell_module (module_of n cs) rest = label n ∷ spell_cmds cs (closing n ∷ rest)

abbrev pub spell_modules : List Module → List Kind → List Kind
spell_modules [] rest = rest
spell_modules (m ∷ ms) rest = spell_module m (spell_modules ms rest)

abbrev pub spell : List Module → List Kind
spell ms = spell_modules ms []

-- a text of the grammar, limits aside
abbrev pub Text : List Kind → Type 0
Text ks = (ms : List Module) × (spell ms ≡ ks)

-- what some text begins with
abbrev pub Begins : List Kind → Type 0
Begins ks = (behind : List Kind) × Text (ks ++ behind)

-- no two lists of modules are written alike
abbrev pub OneTree : Type 0
OneTree = (ms ns : List Module) → spell ms ≡ spell ns → ms ≡ ns
