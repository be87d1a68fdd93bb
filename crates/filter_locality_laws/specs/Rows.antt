-- Rows of coding tree blocks of a component, their places, and the samples between the steps of the loop filters.
use Rattle.std.specs.Prelude.{◌≡◌, ℕ, ◌+◌, ◌*◌, ◌%◌, ◌<◌, ◌≤◌}
use Rattle.spec_loop_filters.specs.SpecDeblocking.{Place}
use Rattle.spec_loop_filters.specs.SpecDeblocking.{horizontal, vertical}
use Rattle.spec_loop_filters.specs.declared.format.FilterFormat.{FilterFormat}
use Rattle.spec_loop_filters.specs.Filters.{depth_of, height_of, plane_of, size_of, width_of}

-- the sides of a picture and of its coding tree blocks, as sequence parameter sets have them
pub record IsFilterFormat (format : FilterFormat) : Type 0 where
  pub width : format.width % 8 ≡ 0
  pub height : format.height % 8 ≡ 0
  pub some : 1 ≤ format.ctb_size
  pub ctb_size : format.ctb_size % 16 ≡ 0

-- a line of a component is in a row of coding tree blocks, or at most so many lines above or below it
abbrev pub IsOfRow : FilterFormat → ℕ → ℕ → ℕ → ℕ → Type 0
IsOfRow format c row beside y =
    (size_of format c * row ≤ y + beside) × (y < size_of format c * row + size_of format c + beside)

-- a row of places of 4x4 luma samples is in a row of coding tree blocks, or at most so many above or below it
abbrev pub IsPlaceOfRow : FilterFormat → ℕ → ℕ → ℕ → Type 0
IsPlaceOfRow format row beside s =
    (format.ctb_size * row ≤ 4 * s + 4 * beside)
    × (4 * s < format.ctb_size * row + format.ctb_size + 4 * beside)

-- the samples of a component behind its vertical edges
abbrev pub behind_vertical : FilterFormat → (ℕ → ℕ → Place) → ℕ → (ℕ → ℕ → ℕ) → ℕ → ℕ → ℕ
behind_vertical format places c f = vertical (plane_of format c) (depth_of format c) (width_of format c) places f

-- and behind its horizontal ones
abbrev pub behind_horizontal : FilterFormat → (ℕ → ℕ → Place) → ℕ → (ℕ → ℕ → ℕ) → ℕ → ℕ → ℕ
behind_horizontal format places c f = horizontal (plane_of format c) (depth_of format c) (height_of format c) places f
