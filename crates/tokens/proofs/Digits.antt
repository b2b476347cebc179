-- One digit more. Assumes nothing.
use Rattle.std.proofs.Common.{◌≡◌, ℕ, ◌+◌, ◌*◌, ◌^◌, ◌<◌, ◌≤◌, List, length, get_or, drop, Some, None, mul-le-mul_left, pow-suc, add-one, arith}
use native.Mathlib.Nat.{pow-le-pow_right}
use Rattle.std.proofs.lemmas.Bool.Decides.{nat_tests}
use Rattle.std.proofs.lemmas.List.{drop_more, drop_all}
use Rattle.tokens.specs.Numbers.{digit, value_after}

pub more : (v r d i : ℕ) → v < 16 ^ i → r ≤ 16 → d < 16 → v * r + d < 16 ^ (i + 1)
more v r d i hv hr hd =
    let a = mul-le-mul_left v hr in
    rw (add-one, pow-suc) (omega arith)

pub room : (i : ℕ) → i ≤ 5 → 16 ^ i ≤ 1048576
room i h = pow-le-pow_right {n = 16} (omega arith) h

-- the product and the sum of one turn are small
pub small : (v r d i : ℕ) → v < 16 ^ i → i ≤ 5 → r ≤ 16 → d < 16 → v * r + d < 16777216
small v r d i hv hi hr hd =
    let a = mul-le-mul_left v hr in
    let b = room i hi in
    omega arith

pub value_more : (radix v i d : ℕ) (bs : List ℕ) → i < length bs → digit radix (get_or bs i 0) ≡ Some d → value_after radix v (drop i bs) ≡ value_after radix (v * radix + d) (drop (i + 1) bs)
value_more radix v i d bs h e = rw (drop_more bs i 0 h, value_after, e)

pub value_stops : (radix v i : ℕ) (bs : List ℕ) → i < length bs → digit radix (get_or bs i 0) ≡ None → value_after radix v (drop i bs) ≡ None
value_stops radix v i bs h e = rw (drop_more bs i 0 h, value_after, e)

-- what one turn over the digits needs
pub ruleset one_more = (more, value_more, value_stops, drop_all, nat_tests)
