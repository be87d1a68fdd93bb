-- The matrices of the transformation process (8.6.4.2).
use Rattle.std.specs.Prelude.{ℕ, ◌+◌, ◌-◌, ◌*◌, ◌/◌, ◌%◌, ◌==◌, nat_le, if◌then◌else◌, Bool, true, false, ℤ, pos}
use Rattle.std.specs.Prelude.{neg_ℤ}
use Rattle.std.specs.Prelude.{List, slice_index_or}
use Rattle.spec_transforms.specs.declared.matrices.TheConstants.{COSINE_MATRIX, COSINES, SINE_MATRIX, SINES}

-- the number at a place of a list
abbrev pub at : List ℤ → ℕ → ℤ
at values i = slice_index_or values i (pos 0)

-- a matrix by row and column
abbrev pub Matrix : Type 0
Matrix = ℕ → ℕ → ℤ

-- the matrix whose rows stand so far apart in a list
abbrev pub matrix_in : List ℤ → ℕ → Matrix
matrix_in entries stride k n = at entries (stride * k + n)

-- the matrix of a transform: the sines of size 4, or of the cosines of size 32 the rows 32 / size apart
unfoldable pub entry : Bool → ℕ → Matrix
entry true size = matrix_in SINE_MATRIX 4
entry false size = matrix_in COSINE_MATRIX (32 * (32 / size))

-- the cosine of an angle in units of a sixty-fourth of half a turn, by the quarter that it lies in
abbrev pub cosine : ℕ → ℤ
cosine m = if nat_le m 32 then at COSINES m else (if nat_le m 64 then neg_ℤ (at COSINES (64 - m))
    else (if nat_le m 96 then neg_ℤ (at COSINES (m - 64)) else at COSINES (128 - m)))

-- row k of size 32 has the cosines of k times the odd angles; row 0 is constant
unfoldable pub cosine_entry : Matrix
cosine_entry k n = if k == 0 then pos 64 else cosine ((2 * n + 1) * k % 128)

-- the sine of an angle in units of a ninth of half a turn, by the quarter that it lies in
abbrev pub sine : ℕ → ℤ
sine m = if nat_le m 4 then at SINES m else (if nat_le m 9 then at SINES (9 - m)
    else (if nat_le m 13 then neg_ℤ (at SINES (m - 9)) else neg_ℤ (at SINES (18 - m))))

-- row k of size 4 has the sines of 2 k + 1 times the angles from 1 on
unfoldable pub sine_entry : Matrix
sine_entry k n = sine ((2 * k + 1) * (n + 1) % 18)
