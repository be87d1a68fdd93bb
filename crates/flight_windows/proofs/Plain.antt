-- Numbers of 32 bits as they are handed over.
use Rattle.std.proofs.Common.{◌≡◌, ℕ, ℤ, pos, ◌+ℤ◌, arith}
use Rattle.std.proofs.lemmas.Int.{to_z-of_z}
use mir.Val.{SFits, to_z, of_z}
use mir.Syntax.{w32}

pub plain : (x : ℤ) → SFits w32 x → to_z w32 (of_z w32 x) ≡ x
plain x fits = grind (arith, to_z-of_z)

-- a value by a column, counted from one that is handed over, and by a line that is
pub handed : (h : ℤ → ℤ → ℕ) (x y : ℤ) (i : ℕ) → SFits w32 x → SFits w32 y
    → h (to_z w32 (of_z w32 x) +ℤ pos i) (to_z w32 (of_z w32 y)) ≡ h (x +ℤ pos i) y
handed h x y i fx fy = λ t. h (plain x fx t +ℤ pos i) (plain y fy t)

-- and by both, counted from such
pub handed_on : (h : ℤ → ℤ → ℕ) (x y : ℤ) (i j : ℕ) → SFits w32 x → SFits w32 y
    → h (to_z w32 (of_z w32 x) +ℤ pos i) (to_z w32 (of_z w32 y) +ℤ pos j) ≡ h (x +ℤ pos i) (y +ℤ pos j)
handed_on h x y i j fx fy = λ t. h (plain x fx t +ℤ pos i) (plain y fy t +ℤ pos j)
