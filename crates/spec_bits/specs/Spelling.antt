-- The bits that spell a value: u(n) (7.2), ue(v) and se(v) (9.2), and byte_alignment() (7.3.2.12).
use Rattle.std.specs.Prelude.{ℕ, zero, suc, ◌+◌, ◌-◌, ◌*◌, ◌%◌, ℤ, pos, negsuc, Bool, true, false, List, [], ◌∷◌}
use Rattle.std.specs.Prelude.{◌++◌}
use Rattle.std.specs.Prelude.{replicate}
use Rattle.std.specs.Int.Count.{count_leading_zeros}
use Rattle.spec_bits.specs.Bits.{bit_of}

-- u(n): the n binary digits of the value, the greatest first
unfoldable pub u_bits : ℕ → ℕ → List Bool
u_bits zero value = []
u_bits (suc n) value = bit_of value n ∷ u_bits n value

-- leadingZeroBits of the code of a value up to 4294967294: value + 1 has one binary digit more than that
unfoldable pub leading_zero_bits_of : ℕ → ℕ
leading_zero_bits_of value = 31 - count_leading_zeros 32 (value + 1)

-- ue(v): zeros, and then the digits of value + 1
unfoldable pub ue_bits : ℕ → List Bool
ue_bits value =
    let zeros = leading_zero_bits_of value in
    replicate zeros false ++ u_bits (zeros + 1) (value + 1)

-- the code number of a signed value (9.2.2): 2k - 1 of k > 0, and -2k of the others
unfoldable pub code_of : ℤ → ℕ
code_of (pos k) = 2 * k - 1
code_of (negsuc k) = 2 * (k + 1)

-- se(v)
unfoldable pub se_bits : ℤ → List Bool
se_bits value = ue_bits (code_of value)

-- byte_alignment() after so many bits: a 1, and zeros up to the end of a byte
unfoldable pub aligned_bits : ℕ → List Bool
aligned_bits before = true ∷ replicate (7 - before % 8) false
