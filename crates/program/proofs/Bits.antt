-- A byte with one bit written by a mask. Assumes nothing.
use Rattle.std.proofs.Common.{◌≡◌, ℕ, ◌-◌, ◌*◌, ◌%◌, ◌^◌, ◌<◌, ap, ◌∙◌, bit_and, bit_or, arith}
use Rattle.std.proofs.Math.Pow.{pow-lt}
use Rattle.std.specs.Int.Bits.{or_add_and}
use Rattle.std.proofs.lemmas.Nat.{one_shl, and_le_l, and_comm, and-not}
use Rattle.std.proofs.lemmas.Nat.Bits.{and_pow}
use Rattle.program.specs.Cells.{with_bit}

pub bit_set : (byte r : ℕ) → r < 8 → bit_or byte (1 * 2 ^ r % 256) ≡ with_bit byte r 1
bit_set byte r h =
    let mask : 1 * 2 ^ r % 256 ≡ 2 ^ r = one_shl r 8 h in
    ap (bit_or byte) mask ∙ omega (arith, or_add_and byte (2 ^ r), and_pow byte r, and_le_l byte (2 ^ r))

pub bit_cleared : (byte r : ℕ) → byte < 256 → r < 8 → bit_and byte (255 - 1 * 2 ^ r % 256) ≡ with_bit byte r 0
bit_cleared byte r b h =
    let mask : 1 * 2 ^ r % 256 ≡ 2 ^ r = one_shl r 8 h in
    ap (λ (m : ℕ). bit_and byte (255 - m)) mask ∙ and_comm byte (255 - 2 ^ r)
    ∙ omega (arith, and-not 8 (2 ^ r) byte (pow-lt h) b, and_comm (2 ^ r) byte, and_pow byte r)
