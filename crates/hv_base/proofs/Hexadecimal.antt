-- Numbers in 16 hexadecimal digits, as a format writes them.
use Rattle.std.proofs.Common.{arith}
use Rattle.std.specs.Prelude.{◌≡◌, ℕ, ◌-◌, ◌^◌, List, [], ◌++◌, length, replicate, false}
use Rattle.std.specs.Fmt.{padded_integral, format_spec, char_count}
use Rattle.std.proofs.lemmas.List.{append-nil}

-- zeros stand before the digits of a number that is told in 16 of them
pub filled : (numeral : List ℕ)
    → padded_integral (format_spec 32 0 4 16 (2 ^ 64 - 1)) false [] numeral
    ≡ replicate (16 - length numeral) 48 ++ numeral
unfolding padded_integral char_count
filled numeral =
    let short : 16 - length numeral - 0 - 0 ≡ 16 - length numeral = omega arith in
    rw (short, append-nil numeral)
