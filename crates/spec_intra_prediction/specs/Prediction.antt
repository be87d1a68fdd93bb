-- Intra prediction of a block from its neighbours (8.4.4.2): they are substituted, filtered, and predicted from.
use Rattle.std.specs.Prelude.{ℕ, ◌^◌, ◌==◌, Bool, ◌&&◌, nat_lt, List, if◌then◌else◌}
use Rattle.spec_intra_prediction.specs.Neighbours.{left_side, above_side}
use Rattle.spec_intra_prediction.specs.Smoothing.{filtered}
use Rattle.spec_intra_prediction.specs.PlanarDc.{planar, dc}
use Rattle.spec_intra_prediction.specs.Angular.{angular}

-- whether DC, horizontal and vertical filter a block's edges: in luma below 32 columns
abbrev pub has_filtered_edges : ℕ → ℕ → Bool
has_filtered_edges c log2 = c == 0 && nat_lt log2 5

-- the sample at (x, y) of a block in a component, in a direction from neighbours in the order of substitution
abbrev pub directed : Bool → ℕ → ℕ → ℕ → List ℕ → ℕ → ℕ → ℕ
directed edges log2 mode depth p x y =
    if nat_lt mode 18
    then angular edges log2 mode depth (left_side (2 ^ log2) p) (above_side (2 ^ log2) p) y x
    else angular edges log2 mode depth (above_side (2 ^ log2) p) (left_side (2 ^ log2) p) x y

-- the sample at (x, y) from neighbours that are filtered where they have to be: planar is mode 0, DC mode 1
unfoldable pub predicted_from : ℕ → ℕ → ℕ → ℕ → List ℕ → ℕ → ℕ → ℕ
predicted_from c log2 mode depth p x y =
    if mode == 0 then planar log2 p x y
    else (if mode == 1 then dc (has_filtered_edges c log2) log2 p x y
    else directed (has_filtered_edges c log2) log2 mode depth p x y)

-- the sample at (x, y) of a block of 2^log2 columns in component c, by a mode, from its substituted neighbours:
-- predSamples[x][y]
abbrev pub predicted : ℕ → ℕ → ℕ → Bool → ℕ → List ℕ → ℕ → ℕ → ℕ
predicted c log2 mode strong depth p x y =
    predicted_from c log2 mode depth (filtered c log2 mode strong depth p) x y
