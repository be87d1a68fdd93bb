-- The samples of a component after sample adaptive offset, by place (8.7.3).
use Rattle.std.specs.Prelude.{◌≡◌, ◌≤◌, ◌<◌, ℕ, ◌+◌, ◌-◌, ◌/◌, ◌^◌, ◌==◌, nat_lt, nat_le, Bool, ◌&&◌, ◌||◌, ℤ, List}
use Rattle.std.specs.Prelude.{if◌then◌else◌}
use Rattle.block_geometry.specs.CodingTreeBlocks.{is_decoded_before}
use Rattle.ctu_records.specs.declared.offset.ComponentOffset.{ComponentOffset}
use Rattle.ctu_records.specs.declared.offset.ComponentOffset.TheVariants.{Off, Band, Edge}
use Rattle.spec_sample_adaptive_offset.specs.declared.unit.OffsetUnit.{OffsetUnit}
use Rattle.spec_sample_adaptive_offset.specs.Offsets.{band_moved, edge_moved}

-- what the samples of a component depend on apart from the deblocked plane
pub record OffsetPlane : Type 0 where
  -- columns and lines of the component
  pub width : ℕ
  pub height : ℕ
  -- the columns of its coding tree blocks
  pub ctb_size : ℕ
  -- the bits of a sample
  pub depth : ℕ
  -- the coding tree unit in a column and a row of such units
  pub unit : ℕ → ℕ → OffsetUnit
  -- whether a sample stays as it was deblocked, by column and line: that of a coding unit with
  -- cu_transquant_bypass_flag, or with pcm_flag where pcm_loop_filter_disabled_flag is 1
  pub kept : ℕ → ℕ → Bool

-- the coding tree unit that a sample belongs to
abbrev pub unit_at : OffsetPlane → ℕ → ℕ → OffsetUnit
unit_at plane x y = plane.unit (x / plane.ctb_size) (y / plane.ctb_size)

-- whether samples of two coding tree units may be compared: those of one slice, and those of two slices where the flag
-- of the slice that is later in decoding order is 1
abbrev pub meets : OffsetUnit → OffsetUnit → Bool
meets unit other =
    unit.slice == other.slice || (if is_decoded_before unit.slice other.slice then other.across else unit.across)

-- whether a neighbour of a sample is inside the picture and may be compared with it. Its column and line are counted
-- from those before the sample's, so that 0, 1, 2 are before, at and behind it.
abbrev pub may_read : OffsetPlane → ℕ → ℕ → ℕ → ℕ → Bool
may_read plane x y column line =
    ((nat_lt 0 (x + column) && nat_le (x + column) plane.width)
    && (nat_lt 0 (y + line) && nat_le (y + line) plane.height))
    && meets (unit_at plane x y) (unit_at plane (x + column - 1) (y + line - 1))

-- hPos and vPos of the first neighbour, by SaoEoClass: on the left, above, above on the left, above on the right
abbrev pub first_column : ℕ → ℕ
first_column class = if class == 1 then 1 else (if class == 3 then 2 else 0)

-- vPos of the first neighbour
abbrev pub first_line : ℕ → ℕ
first_line class = if class == 0 then 1 else 0

-- a sample by edge offset, whose two neighbours stand across from each other, the first before it or above
unfoldable pub edge_sample : OffsetPlane → (ℕ → ℕ → ℕ) → List ℤ → ℕ → ℕ → ℕ → ℕ → ℕ
edge_sample plane f offsets column line x y =
    if may_read plane x y column line && may_read plane x y (2 - column) (2 - line)
    then edge_moved plane.depth offsets (f x y) (f (x + column - 1) (y + line - 1))
    (f (x + (2 - column) - 1) (y + (2 - line) - 1))
    else f x y

-- a sample by the parameters of its coding tree unit
unfoldable pub sample_by : OffsetPlane → (ℕ → ℕ → ℕ) → ComponentOffset → ℕ → ℕ → ℕ
sample_by plane f Off x y = f x y
sample_by plane f (Band position offsets) x y = band_moved plane.depth position offsets (f x y)
sample_by plane f (Edge class offsets) x y = edge_sample plane f offsets (first_column class) (first_line class) x y

-- a sample of the deblocked plane f after sample adaptive offset: saoPicture[x][y]
unfoldable pub offset_sample : OffsetPlane → (ℕ → ℕ → ℕ) → ℕ → ℕ → ℕ
offset_sample plane f x y = if plane.kept x y then f x y else sample_by plane f (unit_at plane x y).offset x y

-- two planes that agree at a place, and on the samples and units at most one column and one line from it
pub record AgreeBeside (p q : OffsetPlane) (f g : ℕ → ℕ → ℕ) (x y : ℕ) : Type 0 where
  pub width : p.width ≡ q.width
  pub height : p.height ≡ q.height
  pub depth : p.depth ≡ q.depth
  pub inside : (x < p.width) × (y < p.height)
  pub kept : p.kept x y ≡ q.kept x y
  pub units : (i j : ℕ) → i < p.width → j < p.height → x ≤ i + 1 → i ≤ x + 1 → y ≤ j + 1 → j ≤ y + 1
      → unit_at p i j ≡ unit_at q i j
  pub samples : (i j : ℕ) → i < p.width → j < p.height → x ≤ i + 1 → i ≤ x + 1 → y ≤ j + 1 → j ≤ y + 1 → f i j ≡ g i j
