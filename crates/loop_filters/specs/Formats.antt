-- Pictures and their components, as the filters take them.
use Rattle.std.specs.Prelude.{◌≡◌, ◌≤◌, ◌<◌, ℕ, ◌+◌, ◌-◌, ◌*◌, ◌/◌, ◌%◌, ◌^◌, ℤ}
use Rattle.spec_loop_filters.specs.SpecDeblocking.{Place}
use Rattle.spec_loop_filters.specs.SpecDeblocking.{Chroma}
use Rattle.spec_loop_filters.specs.SpecDeblocking.{side}
use Rattle.spec_sample_adaptive_offset.specs.declared.unit.OffsetUnit.{OffsetUnit}
use Rattle.spec_loop_filters.specs.declared.format.FilterFormat.{FilterFormat}
use Rattle.spec_loop_filters.specs.Filters.{LoopFilters, depth_of, height_of, plane_of, size_of, width_of}
use Rattle.loop_filters.specs.declared.component.Component.{Component}

-- PicWidthInCtbsY and PicHeightInCtbsY
abbrev pub columns_of : FilterFormat → ℕ
columns_of format = (format.width + format.ctb_size - 1) / format.ctb_size

abbrev pub rows_of : FilterFormat → ℕ
rows_of format = (format.height + format.ctb_size - 1) / format.ctb_size

-- sides up to 8192 in coding blocks of at least eight samples, and depths from 8 to 14
pub record IsFormat (format : FilterFormat) : Type 0 where
  pub width : (8 ≤ format.width) × (format.width ≤ 8192)
  pub height : (8 ≤ format.height) × (format.height ≤ 8192)
  pub columns : format.width % 8 ≡ 0
  pub lines : format.height % 8 ≡ 0
  pub size : (16 ≤ format.ctb_size) × (format.ctb_size ≤ 64)
  pub grid : format.ctb_size % 16 ≡ 0
  pub luma_depth : (8 ≤ format.luma_depth) × (format.luma_depth ≤ 14)
  pub chroma_depth : (8 ≤ format.chroma_depth) × (format.chroma_depth ≤ 14)

abbrev pub filters_of : FilterFormat → (ℕ → ℕ → Place) → (ℕ → ℕ → ℕ → OffsetUnit) → LoopFilters
filters_of format places units = record { format = format; places = places; units = units }

-- a plane that can be filtered
pub record IsPlane (component : Component) : Type 0 where
  pub depth : (8 ≤ component.depth) × (component.depth ≤ 14)
  pub width : (1 ≤ component.width) × (component.width ≤ 8192)
  pub height : (1 ≤ component.height) × (component.height ≤ 8192)
  pub columns : component.width % 4 ≡ 0
  pub lines : component.height % 4 ≡ 0

-- a component of a picture of a format
pub record IsComponent (format : FilterFormat) (component : Component) : Type 0 where
  pub c : component.c < 3
  pub is_plane : IsPlane component
  pub plane : component.plane ≡ plane_of format component.c
  pub depth : component.depth ≡ depth_of format component.c
  pub width : component.width ≡ width_of format component.c
  pub height : component.height ≡ height_of format component.c
  pub size : component.size ≡ size_of format component.c
  pub place_side : 2 ^ component.place_log2 ≡ side component.plane
  pub place_few : component.place_log2 ≤ 6
  pub places : component.places ≡ format.width / 4
  pub rows : component.rows ≡ rows_of format
  pub size_few : (8 ≤ component.size) × (component.size ≤ 64)
  pub grid : component.size % 8 ≡ 0
  pub wide : (component.width ≤ component.size * columns_of format)
      × (component.size * columns_of format < component.width + component.size)
  pub high : (component.height ≤ component.size * component.rows)
      × (component.size * component.rows < component.height + component.size)
  pub across : component.width ≡ side component.plane * (format.width / 4)
  pub down : component.height ≡ side component.plane * (format.height / 4)
  pub block : component.size ≡ side component.plane * (format.ctb_size / 4)

-- what a component of chroma has, by what luma has
abbrev pub halved : FilterFormat → Component → ℤ → Component
halved format luma offset = record {
  c = luma.c;
  plane = Chroma offset;
  depth = format.chroma_depth;
  width = luma.width / 2;
  height = luma.height / 2;
  size = luma.size / 2;
  place_log2 = 1;
  places = luma.places;
  rows = luma.rows;
}
