-- What a move does to the state and the open conditions is what it does to the stack that they stand for. Assumes nothing.
use Rattle.std.proofs.Common.{◌≡◌, ℕ, zero, suc, ◌+◌, ◌-◌, List, [], ◌∷◌, length, Some, None, Option, sym, refl, ap, add-one, arith}
use Rattle.grammar.specs.declared.table.Ending.{Ending}
use Rattle.grammar.specs.declared.table.Branch.{Branch}
use Rattle.grammar.specs.declared.table.Branch.TheVariants.{Then}
use Rattle.grammar.specs.declared.table.Pending.{Pending}
use Rattle.grammar.specs.declared.table.Pending.TheVariants.{First, Operand}
use Rattle.grammar.specs.declared.table.Want.{Want}
use Rattle.grammar.specs.declared.table.Want.TheVariants.{Modules, Pending as Pending!, Rest}
use Rattle.grammar.specs.declared.table.Move.{Move}
use Rattle.grammar.specs.Limits.{brackets_after, conditions_after}
use Rattle.grammar.specs.Machine.{Fits, keeps, fills, begins, nests_first, nests_operand, operates, operates_rest, unnests, enters, tests, compares, turns, leaves, finishes, applied, role_of, start}
use Rattle.grammar.specs.Parsing.{branches, outer, rests, wants, head_of, tail_from, pending_after, branches_after, body_after, Ready}

abbrev pub Acts : Move → Option Pending → ℕ → List Branch → Option Ending → Type 0
Acts m p b bs e =
    (wants (pending_after m p) (brackets_after (role_of m) b) (branches_after m bs) (body_after m e) ≡ applied m (head_of (wants p b bs e)) (tail_from (wants p b bs e)))
    × Ready m b
    × (length (branches_after m bs) ≡ conditions_after (role_of m) (length bs))

one_more : (b : ℕ) (s : List Want) → Pending! First ∷ rests (b + 1) s ≡ Pending! First ∷ Rest ∷ rests b s
one_more b s = ap (λ n. Pending! First ∷ rests n s) (add-one b)

pub acts : (p : Option Pending) (b : ℕ) (bs : List Branch) (e : Option Ending) {m : Move} → Fits (head_of (wants p b bs e)) m → Acts m p b bs e
acts (Some p) b bs e fills = (refl, tt, refl)
acts (Some First) b bs e nests_first = (one_more b _, tt, refl)
acts (Some Operand) b bs e nests_operand = (one_more b _, tt, refl)
acts None (suc b) bs e operates_rest = (refl, tt, refl)
acts None (suc b) bs e unnests = (ap (λ n. rests n (branches bs (outer e))) (let q : suc b - 1 ≡ b = omega arith in q), omega arith, refl)
acts None zero (x ∷ bs) e keeps = (refl, tt, refl)
acts None zero (x ∷ bs) e begins = (refl, tt, refl)
acts None zero (x ∷ bs) e operates = (refl, tt, refl)
acts None zero (x ∷ bs) e tests = (refl, tt, sym (add-one (length (x ∷ bs))))
acts None zero (x ∷ bs) e compares = (refl, tt, sym (add-one (length (x ∷ bs))))
acts None zero (Then ∷ bs) e turns = (refl, tt, refl)
acts None zero (x ∷ bs) e leaves = (refl, tt, let q : length bs ≡ suc (length bs) - 1 = omega arith in q)
acts None zero [] (Some e) keeps = (refl, tt, refl)
acts None zero [] (Some e) begins = (refl, tt, refl)
acts None zero [] (Some e) operates = (refl, tt, refl)
acts None zero [] (Some e) tests = (refl, tt, refl)
acts None zero [] (Some e) compares = (refl, tt, refl)
acts None zero [] (Some e) finishes = (refl, tt, refl)
acts None zero [] None enters = (refl, tt, refl)

-- a stack with `Modules` on top is the one at the start
pub at_start : (p : Option Pending) (b : ℕ) (bs : List Branch) (e : Option Ending) → head_of (wants p b bs e) ≡ Modules → wants p b bs e ≡ start
at_start (Some p) b bs e h = cc
at_start None (suc b) bs e h = cc
at_start None zero (x ∷ bs) e h = cc
at_start None zero [] (Some e) h = cc
at_start None zero [] None h = refl

-- no stack is empty
pub has_top : (p : Option Pending) (b : ℕ) (bs : List Branch) (e : Option Ending) → wants p b bs e ≡ head_of (wants p b bs e) ∷ tail_from (wants p b bs e)
has_top (Some p) b bs e = refl
has_top None (suc b) bs e = refl
has_top None zero (x ∷ bs) e = refl
has_top None zero [] (Some e) = refl
has_top None zero [] None = refl
