-- The filtering of neighbouring samples (8.4.4.2.3).
use Rattle.std.specs.Prelude.{ℕ, ◌+◌, ◌-◌, ◌*◌, ◌/◌, ◌^◌, ◌==◌, Bool, not, ◌&&◌, nat_le, nat_lt, List, map, length}
use Rattle.std.specs.Prelude.{min}
use Rattle.std.specs.Prelude.{if◌then◌else◌}
use Rattle.std.specs.Int.{abs_diff}
use Rattle.std.specs.List.{range_with_len}
use Rattle.spec_intra_prediction.specs.Neighbours.{at}

-- how far a mode is from horizontal (10) and vertical (26): minDistVerHor
abbrev pub distance : ℕ → ℕ
distance mode = min (abs_diff mode 26) (abs_diff mode 10)

-- intraHorVerDistThres of blocks of 8, 16 and 32 columns
abbrev pub distance_threshold : ℕ → ℕ
distance_threshold log2 = if log2 == 3 then 7 else (if log2 == 4 then 1 else 0)

-- whether a block's neighbours are filtered: those of luma, but for DC (1) and for blocks of 4 columns, where the mode
-- is farther from horizontal and vertical than the threshold
unfoldable pub is_filtered : ℕ → ℕ → ℕ → Bool
is_filtered c log2 mode =
    (c == 0 && not (mode == 1)) && (not (log2 == 2) && nat_lt (distance_threshold log2) (distance mode))

-- 1, 2, 1 over what stands beside one another; the two ends stay
abbrev pub smoothed_at : List ℕ → ℕ → ℕ
smoothed_at p k =
    if k == 0 then at p k
    else (if k + 1 == length p then at p k else (at p (k - 1) + 2 * at p k + at p (k + 1) + 2) / 4)

-- the neighbours behind the filter of three samples
unfoldable pub smoothed : List ℕ → List ℕ
smoothed p = map (smoothed_at p) (range_with_len 0 (length p))

-- whether the second difference of three samples is below 1 << (BitDepth - 5)
abbrev pub is_flat : ℕ → ℕ → ℕ → ℕ → Bool
is_flat depth first middle last = nat_lt (abs_diff (first + last) (2 * middle)) (2 ^ (depth - 5))

-- biIntFlag: blocks of 32 columns, both of whose sides are flat from the corner over the middle to the end
unfoldable pub is_strong : ℕ → Bool → ℕ → List ℕ → Bool
is_strong log2 strong depth p =
    (strong && log2 == 5)
    && (is_flat depth (at p 64) (at p 96) (at p 128) && is_flat depth (at p 64) (at p 32) (at p 0))

-- each side drawn straight from the corner, at place 64, to its end
abbrev pub straight_at : List ℕ → ℕ → ℕ
straight_at p k =
    if nat_le k 64
    then ((64 - k) * at p 0 + k * at p 64 + 32) / 64
    else ((128 - k) * at p 64 + (k - 64) * at p 128 + 32) / 64

-- the neighbours on straight lines between corner and ends (strong_intra_smoothing)
unfoldable pub straightened : List ℕ → List ℕ
straightened p = map (straight_at p) (range_with_len 0 129)

-- the neighbours that a mode predicts from
unfoldable pub filtered : ℕ → ℕ → ℕ → Bool → ℕ → List ℕ → List ℕ
filtered c log2 mode strong depth p =
    if is_filtered c log2 mode then (if is_strong log2 strong depth p then straightened p else smoothed p) else p
