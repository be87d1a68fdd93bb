-- The samples of a plane behind deblocking, by column and line (8.7.2). A sample lies within four of one edge of the
-- grid of eight samples alone.
use Rattle.std.specs.Prelude.{ℕ, ◌+◌, ◌-◌, ◌*◌, ◌/◌, ◌%◌, ◌^◌, ◌&&◌, nat_lt, if◌then◌else◌}
use Rattle.spec_deblocking.specs.declared.line.Line.{Line}
use Rattle.spec_deblocking.specs.declared.place.Place.{Place}
use Rattle.spec_deblocking.specs.declared.place.Plane.{Plane}
use Rattle.spec_deblocking.specs.Lines.{across, nth}
use Rattle.spec_deblocking.specs.Places.{side, place_before, place_behind, turned}
use Rattle.spec_deblocking.specs.Thresholds.{tc}
use Rattle.spec_deblocking.specs.Decisions.{edge_filter}
use Rattle.spec_deblocking.specs.Filters.{filtered}

-- line y across the edge at column 8 e, filtered by what the first and the last line of its place decide
unfoldable pub filtered_line : Plane → ℕ → (ℕ → ℕ → Place) → (ℕ → ℕ → ℕ) → ℕ → ℕ → Line
filtered_line plane depth places samples e y =
    let p : Place = place_before plane places e y in
    let q : Place = place_behind plane places e y in
    let first : ℕ = side plane * (y / side plane) in
    let last : ℕ = first + (side plane - 1) in
    filtered (edge_filter plane depth p q (across samples (8 * e - 4) first) (across samples (8 * e - 4) last))
    (2 ^ depth - 1) (tc plane depth p q) (across samples (8 * e - 4) y)

-- sample k of line y across that edge; the samples of a side that is kept stay
unfoldable pub edge_sample : Plane → ℕ → (ℕ → ℕ → Place) → (ℕ → ℕ → ℕ) → ℕ → ℕ → ℕ → ℕ
edge_sample plane depth places samples e y k =
    if (if nat_lt k 4 then (place_before plane places e y).kept else (place_behind plane places e y).kept)
    then nth (across samples (8 * e - 4) y) k
    else nth (filtered_line plane depth places samples e y) k

-- the samples after the vertical edges of a plane of so many columns
unfoldable pub vertical : Plane → ℕ → ℕ → (ℕ → ℕ → Place) → (ℕ → ℕ → ℕ) → ℕ → ℕ → ℕ
vertical plane depth width places samples x y =
    if nat_lt 0 ((x + 4) / 8) && nat_lt (8 * ((x + 4) / 8)) width
    then edge_sample plane depth places samples ((x + 4) / 8) y ((x + 4) % 8)
    else samples x y

-- the samples after the horizontal edges of a plane of so many lines: the same with columns and lines exchanged
unfoldable pub horizontal : Plane → ℕ → ℕ → (ℕ → ℕ → Place) → (ℕ → ℕ → ℕ) → ℕ → ℕ → ℕ
horizontal plane depth height places samples x y =
    vertical plane depth height (turned places) (λ column line. samples line column) y x

-- a plane after all its edges, the vertical ones first
unfoldable pub deblocked : Plane → ℕ → ℕ → ℕ → (ℕ → ℕ → Place) → (ℕ → ℕ → ℕ) → ℕ → ℕ → ℕ
deblocked plane depth width height places samples =
    horizontal plane depth height places (vertical plane depth width places samples)
