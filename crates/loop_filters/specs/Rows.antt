-- Rows of coding tree blocks in a plane.
use Rattle.std.specs.Prelude.{◌≡◌, ◌<◌, ◌≤◌, ℕ, ◌+◌, ◌-◌, ◌*◌, ◌/◌, ◌^◌, List, min, slice_index_or}
use Rattle.spec_loop_filters.specs.SpecDeblocking.{Place}
use Rattle.spec_loop_filters.specs.SpecDeblocking.{deblocked, vertical}
use Rattle.spec_sample_adaptive_offset.specs.declared.unit.OffsetUnit.{OffsetUnit}
use Rattle.spec_sample_adaptive_offset.specs.Plane.{offset_sample}
use Rattle.spec_loop_filters.specs.declared.format.FilterFormat.{FilterFormat}
use Rattle.spec_loop_filters.specs.Filters.{offset_plane}
use Rattle.deblock.specs.declared.row.Row.{Row}
use Rattle.deblock.specs.Samples.{IsBounded}
use Rattle.deblock.specs.Windows.{at}
use Rattle.loop_filters.specs.declared.component.Component.{Component}
use Rattle.loop_filters.specs.Formats.{filters_of}

-- how many lines a row has
abbrev pub lines_of : Component → ℕ → ℕ
lines_of component row = min component.size (component.height - component.size * row)

-- the samples of plane f that the offsets of a row depend on are there: its lines and the one below in the plane, the
-- one above in a line of its own
pub record StandsAround (component : Component) (row : ℕ) (f : ℕ → ℕ → ℕ) (samples last : List ℕ) : Type 0 where
  pub own : (x y : ℕ) → x < component.width → y < component.height → component.size * row ≤ y
      → y ≤ component.size * row + component.size → at component.width samples x y ≡ f x y
  pub above : 0 < component.size * row → (x : ℕ) → x < component.width
      → slice_index_or last x 0 ≡ f x (component.size * row - 1)

-- a row of a plane, all of whose lines are there
abbrev pub row_of : Component → ℕ → Row
row_of component row = record {
  plane = component.plane;
  bit_depth = component.depth;
  width = component.width;
  height = component.height;
  first = 0;
  end = component.height;
  top = component.size * row;
  bottom = min (component.size * row + component.size) component.height;
}

-- a plane that is deblocked
abbrev pub deblocked_of : Component → (ℕ → ℕ → Place) → (ℕ → ℕ → ℕ) → ℕ → ℕ → ℕ
deblocked_of component places before =
    deblocked component.plane component.depth component.width component.height places before

-- and then has its offsets
abbrev pub filtered_of : FilterFormat → Component → (ℕ → ℕ → Place) → (ℕ → ℕ → ℕ → OffsetUnit) → (ℕ → ℕ → ℕ) → ℕ
    → ℕ → ℕ
filtered_of format component places units before =
    offset_sample (offset_plane (filters_of format places units) component.c) (deblocked_of component places before)

-- the last deblocked line above the row before
abbrev pub IsAbove : Component → ℕ → (ℕ → ℕ → ℕ) → List ℕ → Type 0
IsAbove component row f last =
    0 < component.size * (row - 1) → (x : ℕ) → x < component.width
    → slice_index_or last x 0 ≡ f x (component.size * (row - 1) - 1)

-- a plane between the filters of its rows: what it becomes above line `done`, deblocked where the horizontal edges
-- above line `next` reach, its vertical edges filtered above line `ready`, and below that as it was before
pub record IsStage (component : Component) (places : ℕ → ℕ → Place) (before behind : ℕ → ℕ → ℕ) (done next ready : ℕ)
    (samples : List ℕ) : Type 0 where
  pub final : (x y : ℕ) → x < component.width → y < component.height → y < done
      → at component.width samples x y ≡ behind x y
  pub deblocked : (x y : ℕ) → x < component.width → y < component.height → done ≤ y → 8 * ((y + 4) / 8) < next
      → at component.width samples x y ≡ deblocked_of component places before x y
  pub vertical : (x y : ℕ) → x < component.width → y < component.height → next ≤ 8 * ((y + 4) / 8) → y < ready
      → at component.width samples x y ≡ vertical component.plane component.depth component.width places before x y
  pub yet : (x y : ℕ) → x < component.width → y < component.height → ready ≤ y
      → at component.width samples x y ≡ before x y

-- a plane before the filters of a row: the row above has no offsets yet
pub record IsBetween (format : FilterFormat) (component : Component) (places : ℕ → ℕ → Place)
    (units : ℕ → ℕ → ℕ → OffsetUnit) (before : ℕ → ℕ → ℕ) (row : ℕ) (samples last : List ℕ) : Type 0 where
  pub stage : IsStage component places before (filtered_of format component places units before)
      (component.size * (row - 1)) (component.size * row) (component.size * row) samples
  pub above : IsAbove component row (deblocked_of component places before) last
  pub bounded : IsBounded (2 ^ component.depth - 1) samples
