-- byte_alignment(): a 1 and zeros up to the end of a byte (7.3.2.12).
use Rattle.std.specs.Prelude.{ℕ, ◌+◌, ◌-◌, ◌%◌, ◌^◌, Bool, true, false, List, length, Option, Some, ◌==◌}
use Rattle.std.specs.Prelude.{if◌then◌else◌}
use Rattle.spec_bits.specs.Bits.{u_at, ◌>>=◌}

-- the bits up to the next end of a byte, where a bit is left: 1 to 8 of them. The byte string ends at the end of a
-- byte, so the count of bits left tells the place.
unfoldable pub up_to_boundary : List Bool → ℕ
up_to_boundary bs = (length bs - 1) % 8 + 1

-- whether they are a 1 and then zeros, which spell 2 to how many zeros there are; only where they are, they are read
unfoldable pub aligned_at : List Bool → Option (Bool × List Bool)
aligned_at bs = do
  found ← u_at (up_to_boundary bs) bs
  if found.0 == 2 ^ (up_to_boundary bs - 1)
      then Some (true, found.1)
      else Some (false, bs)
