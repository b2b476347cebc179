-- What `{:02}` and `{:03}` write. Assumes nothing.
use Rattle.std.proofs.Common.{◌≡◌, ℕ, ◌-◌, ◌^◌, false, List, [], ◌++◌, length, replicate, append-nil, arith}
use Rattle.std.specs.Fmt.{char_count, format_spec, padded_integral}

pub zeros_before : (width : ℕ) (digits : List ℕ) → padded_integral (format_spec 32 0 4 width (2 ^ 64 - 1)) false [] digits ≡ replicate (width - length digits) 48 ++ digits
unfolding padded_integral char_count
zeros_before width digits = search (arith, append-nil)
