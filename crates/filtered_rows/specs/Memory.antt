-- Memory in which rows of coding tree blocks are filtered.
use Rattle.std.specs.Prelude.{◌≡◌, ◌≤◌, ◌*◌, vec_len}
use Rattle.spec_loop_filters.specs.declared.format.FilterFormat.{FilterFormat}
use Rattle.filtered_rows.specs.declared.memory.FilterMemory.{FilterMemory}

-- there is room for rows of the pictures of a format: for their places and units, for 64 lines with four on each side,
-- and for a copy of 64 with one on each side
pub record HasRoomFor (format : FilterFormat) (memory : FilterMemory) : Type 0 where
  pub width : memory.places.format.width ≡ format.width
  pub ctb_size : memory.places.format.ctb_size ≡ format.ctb_size
  pub lines : format.width * 72 ≤ vec_len memory.lines
  pub copy : format.width * 66 ≤ vec_len memory.copy
