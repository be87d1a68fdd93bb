-- Planar and DC prediction (8.4.4.2.4, 8.4.4.2.5).
use Rattle.std.specs.Prelude.{ℕ, ◌+◌, ◌-◌, ◌*◌, ◌/◌, ◌^◌, ◌==◌, Bool, List, if◌then◌else◌}
use Rattle.spec_arithmetic.specs.Sums.{sum_below}
use Rattle.spec_intra_prediction.specs.Neighbours.{left_at, above_at}

-- planar: the mean of a line from the left to the upper right end, and one from above to the lower left end
unfoldable pub planar : ℕ → List ℕ → ℕ → ℕ → ℕ
planar log2 p x y =
    let n : ℕ = 2 ^ log2 in
    ((n - 1 - x) * left_at n p y + (x + 1) * above_at n p n + (n - 1 - y) * above_at n p x + (y + 1) * left_at n p n
    + n)
    / 2 ^ (log2 + 1)

-- dcVal: the mean of what stands on the left and above
unfoldable pub mean_beside : ℕ → List ℕ → ℕ
mean_beside log2 p =
    let n : ℕ = 2 ^ log2 in
    (sum_below n (above_at n p) + sum_below n (left_at n p) + n) / 2 ^ (log2 + 1)

-- DC: the mean everywhere; where edges are filtered, the first line and column come closer to what stands beside them
abbrev pub levelled : Bool → ℕ → List ℕ → ℕ → ℕ → ℕ → ℕ
levelled edges n p mean x y =
    if edges
    then (if y == 0
    then (if x == 0 then (left_at n p 0 + 2 * mean + above_at n p 0 + 2) / 4 else (above_at n p x + 3 * mean + 2) / 4)
    else (if x == 0 then (left_at n p y + 3 * mean + 2) / 4 else mean))
    else mean

-- the sample at (x, y) of DC prediction
unfoldable pub dc : Bool → ℕ → List ℕ → ℕ → ℕ → ℕ
dc edges log2 p x y = levelled edges (2 ^ log2) p (mean_beside log2 p) x y
