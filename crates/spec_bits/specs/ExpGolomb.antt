-- 0-th order Exp-Golomb codes (9.2).
use Rattle.std.specs.Prelude.{ℕ, suc, ◌+◌, ◌-◌, ◌/◌, ◌%◌, ◌^◌, ℤ, pos, neg_ℤ, Bool, true, false, List, [], ◌∷◌}
use Rattle.std.specs.Prelude.{Option}
use Rattle.std.specs.Prelude.{Some, None, nat_lt, ◌==◌, if◌then◌else◌}
use Rattle.spec_bits.specs.Bits.{u_at, ◌>>=◌}

-- leadingZeroBits: how many zeros stand before the next 1
abbrev pub leading_zero_bits : List Bool → ℕ
leading_zero_bits [] = 0
leading_zero_bits (true ∷ bs) = 0
leading_zero_bits (false ∷ bs) = suc (leading_zero_bits bs)

-- ue(v): codeNum = 2^leadingZeroBits - 1 + read_bits(leadingZeroBits). The 1 and as many bits after it as zeros are
-- before it spell codeNum + 1. A prefix of over 31 zeros, which no field of the standard has, is no code.
unfoldable pub ue_at : List Bool → Option (ℕ × List Bool)
ue_at bs =
    let zeros = leading_zero_bits bs in
    if nat_lt 31 zeros
    then None
    else (do
      prefix ← u_at zeros bs
      code ← u_at (zeros + 1) prefix.1
      Some (code.0 - 1, code.1))

-- the same in the words of 9.2: zeros up to a 1, and then leadingZeroBits bits, whose number is added to
-- 2^leadingZeroBits - 1
unfoldable pub code_num_at : List Bool → Option (ℕ × List Bool)
code_num_at bs =
    let zeros = leading_zero_bits bs in
    if nat_lt 31 zeros
    then None
    else (do
      prefix ← u_at (zeros + 1) bs
      suffix ← u_at zeros prefix.1
      Some (2 ^ zeros - 1 + suffix.0, suffix.1))

-- the signed value of a code number: 0, 1, -1, 2, -2 .. (9.2.2)
unfoldable pub signed_of : ℕ → ℤ
signed_of code = if code % 2 == 1 then pos (code / 2 + 1) else neg_ℤ (pos (code / 2))

-- se(v)
unfoldable pub se_at : List Bool → Option (ℤ × List Bool)
se_at bs = do
  code ← ue_at bs
  Some (signed_of code.0, code.1)
