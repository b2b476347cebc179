-- What each test says of one byte, and of the byte behind it. Assumes nothing.
use Rattle.std.proofs.Common.{◌≡◌, ℕ, true, false, ◌&&◌, eqb, List, [], ◌∷◌, ◌++◌, get_or, None, refl, arith}
use Rattle.std.proofs.lemmas.Bool.{ne_eqb, cond-false}
use Rattle.std.proofs.lemmas.Bool.Decides.{nat_tests}
use Rattle.faults.specs.declared.Place.{Place}
use Rattle.scanning.specs.declared.Mode.TheVariants.{Between}
use Rattle.scanning.specs.Text.{past, white, allowed, bracket, in_run}
use Rattle.scanning.specs.Scan.{mode_after, across}

-- the byte behind, whatever stands further on
pub same_first : (cs : List ℕ) (b : ℕ) (xs ys : List ℕ) → get_or (cs ++ b ∷ xs) 0 0 ≡ get_or (cs ++ b ∷ ys) 0 0
same_first [] b xs ys = refl
same_first (c ∷ cs) b xs ys = refl

-- two bytes that are not a comment's end
pub no_close : (b c : ℕ) → ((b ≡ 42) × (c ≡ 47) → ⊥) → (eqb b 42 && eqb c 47) ≡ false
no_close b c h = grind (arith, nat_tests)

pub run_stops_skip : (p : Place) (b c : ℕ) → in_run b c ≡ true → mode_after Between p b c ≡ None
run_stops_skip p b c h = grind (arith, nat_tests)

pub bracket_stops_skip : (p : Place) (b c : ℕ) → bracket b ≡ true → mode_after Between p b c ≡ None
bracket_stops_skip p b c h = grind (arith, nat_tests)

pub bad_stops_skip : (p : Place) (b c : ℕ) → allowed b ≡ false → mode_after Between p b c ≡ None
bad_stops_skip p b c h = grind (arith, nat_tests)

pub run_no_bracket : (b c : ℕ) → in_run b c ≡ true → bracket b ≡ false
run_no_bracket b c h = grind (arith, nat_tests)

pub bad_no_bracket : (b : ℕ) → allowed b ≡ false → bracket b ≡ false
bad_no_bracket b h = grind (arith, nat_tests)

pub bad_no_run : (b c : ℕ) → allowed b ≡ false → in_run b c ≡ false
bad_no_run b c h = grind (arith, nat_tests)

-- a byte of which nothing else holds is not allowed
pub else_bad : (b c : ℕ) → white b ≡ false → (b ≡ 59 → ⊥) → ((b ≡ 47) × (c ≡ 42) → ⊥) → bracket b ≡ false → in_run b c ≡ false → allowed b ≡ false
else_bad b c w r o k i = grind (arith, nat_tests)

run_no_feed : (b c : ℕ) → in_run b c ≡ true → b ≡ 10 → ⊥
run_no_feed b c h e = grind (arith, nat_tests)

bracket_no_feed : (b : ℕ) → bracket b ≡ true → b ≡ 10 → ⊥
bracket_no_feed b h e = grind (arith, nat_tests)

-- a byte of a word goes one column on
pub past_run : (p : Place) (b c : ℕ) → in_run b c ≡ true → past p b ≡ across p 1
past_run p b c h = cond-false _ _ _ (ne_eqb b 10 (run_no_feed b c h))

pub past_bracket : (p : Place) (b : ℕ) → bracket b ≡ true → past p b ≡ across p 1
past_bracket p b h = cond-false _ _ _ (ne_eqb b 10 (bracket_no_feed b h))
