-- Arithmetic right shifts that round (5.5).
use Rattle.std.specs.Prelude.{ℕ, ◌-◌, ◌^◌, ℤ, pos, ◌+ℤ◌}
use Rattle.std.specs.Int.{int_shr}

-- ( z + ( 1 << ( shift - 1 ) ) ) >> shift, where shift isn't 0: the whole number nearest to z / 2^shift, of two the
-- greater one (5.5)
abbrev pub rounded : ℕ → ℤ → ℤ
rounded shift z = int_shr (z +ℤ pos (2 ^ (shift - 1))) shift
