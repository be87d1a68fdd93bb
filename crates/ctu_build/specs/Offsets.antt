-- Offsets of quantization parameters.
use Rattle.std.specs.Prelude.{ℤ, pos, negsuc}
use Rattle.spec_arithmetic.specs.Clipping.{clip3}

-- an offset, or where it is so far from 0 that qPi is held anyway, one that is far enough
unfoldable pub near_offset : ℤ → ℤ
near_offset offset = clip3 (negsuc 511) (pos 511) offset
