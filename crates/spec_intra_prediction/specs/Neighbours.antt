-- The neighbouring samples of a block of N columns and lines, as one list of 4N + 1: p[-1][2N - 1] up to p[-1][0], the
-- corner p[-1][-1], and p[0][-1] to p[2N - 1][-1] (8.4.4.2.1). It is the order in which missing ones are substituted.
use Rattle.std.specs.Prelude.{ℕ, ◌+◌, ◌-◌, ◌*◌, Option, nat_le, List, map, drop, slice_index_or, if◌then◌else◌}
use Rattle.std.specs.List.{range_with_len}

-- a sample of a list by its number
abbrev pub at : List ℕ → ℕ → ℕ
at samples k = slice_index_or samples k 0

-- p[-1][y]
abbrev pub left_at : ℕ → List ℕ → ℕ → ℕ
left_at n p y = at p (2 * n - (y + 1))

-- p[x][-1]
abbrev pub above_at : ℕ → List ℕ → ℕ → ℕ
above_at n p x = at p (2 * n + 1 + x)

-- the corner and what lies below it: p[-1][-1], p[-1][0] to p[-1][2N - 1]
unfoldable pub left_side : ℕ → List ℕ → List ℕ
left_side n p = map (λ k. at p (2 * n - k)) (range_with_len 0 (2 * n + 1))

-- the corner and what lies to the right of it: p[-1][-1], p[0][-1] to p[2N - 1][-1]
abbrev pub above_side : ℕ → List ℕ → List ℕ
above_side n p = drop (2 * n) p

-- what is known at the place of a neighbour of a block at (x, y). Columns and lines of `known` are counted from 1, so
-- that the column on the left of a block at x is x and the line above a block at y is y
abbrev pub known_beside : (ℕ → ℕ → Option ℕ) → ℕ → ℕ → ℕ → ℕ → Option ℕ
known_beside known n x y k = if nat_le k (2 * n) then known x (y + (2 * n - k)) else known (x + (k - 2 * n)) y

-- the neighbours of a block at (x, y), each that isn't available as none
unfoldable pub beside : (ℕ → ℕ → Option ℕ) → ℕ → ℕ → ℕ → List (Option ℕ)
beside known n x y = map (known_beside known n x y) (range_with_len 0 (4 * n + 1))
