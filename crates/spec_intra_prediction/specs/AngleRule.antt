-- The angles by a rule: nine steps, mirrored about horizontal, vertical and the diagonal between them.
use Rattle.std.specs.Prelude.{ℕ, ◌+◌, ◌/◌, [], ◌∷◌, slice_index_or}

-- the size of the angle of a mode so many modes from horizontal (10) or vertical (26)
unfoldable pub angle_step : ℕ → ℕ
angle_step distance = slice_index_or (0 ∷ 2 ∷ 5 ∷ 9 ∷ 13 ∷ 17 ∷ 21 ∷ 26 ∷ 32 ∷ []) distance 0

-- 256 * 32 divided by a step, rounded to the nearest
unfoldable pub rounded_inverse : ℕ → ℕ
rounded_inverse step = (8192 + step / 2) / step
