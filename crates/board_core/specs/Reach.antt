-- Which rows of reference pictures inter prediction of a coding tree unit reads, and the ranges that hold them.
use Rattle.std.specs.Prelude.{ℕ, ◌≡◌, ◌+◌, ◌*◌, ◌/◌, ◌^◌, ◌<◌, ◌≤◌, ℤ, pos, ◌+ℤ◌, ◌-ℤ◌, List, [], map, length}
use Rattle.std.specs.Prelude.{slice_index_or}
use Rattle.std.specs.Int.{int_shr}
use Rattle.spec_inter_prediction.specs.BlockGeometry.{line_in, row_of_line, tap_line}
use Rattle.spec_inter_prediction.specs.Chroma.{chroma_first}
use Rattle.flight_plan.specs.Flight.{FlightRows, picture_at}
use Rattle.flight_plan.specs.declared.row_range.RowRange.{RowRange}
use Rattle.hv_base.specs.declared.line.Line.{Line}
use Rattle.board_core.specs.declared.predicted_blocks.LumaLines.{LumaLines}
use Rattle.board_core.specs.declared.predicted_blocks.PredictedBlock.{PredictedBlock}
use Rattle.board_core.specs.Places.{IsLine, width_of}
use Rattle.board_core.specs.Needs.{unit_in_picture}

-- pictures have an even number of luma lines, since chroma has half of them, and at most 8192; coding tree blocks have
-- an even number too
pub record IsLumaLines (lines : LumaLines) : Type 0 where
  pub some : 1 ≤ lines.height
  pub height : lines.height ≤ 8192
  pub even : 2 * (lines.height / 2) ≡ lines.height
  pub some_log2 : 1 ≤ lines.ctb_log2
  pub log2 : lines.ctb_log2 ≤ 6

-- a block lies in a picture
pub record IsBlock (block : PredictedBlock) : Type 0 where
  pub first : block.first ≤ 8192
  pub lines : block.lines ≤ 8192

-- the row that has a line of a chroma component, clamped into the picture: line c of chroma lies at the luma lines 2c
-- and 2c + 1
abbrev pub row_of_chroma_line : LumaLines → ℤ → ℕ
row_of_chroma_line lines c = 2 * line_in (lines.height / 2) c / 2 ^ lines.ctb_log2

-- the prediction of a block reads a sample of this row of its reference picture (8.5.3.3.3): by a tap of the luma
-- filter at one of its luma lines, or by one of the chroma filter at one of its chroma lines
pub data ReadsRow (lines : LumaLines) (block : PredictedBlock) (row : ℕ) : Type 0 where
  Luma : (y tap : ℕ) → block.first ≤ y → y < block.first + block.lines → tap < 8
      → row ≡ row_of_line lines.height lines.ctb_log2 (tap_line y block.down tap)
      → ReadsRow lines block row
  Chroma : (y tap : ℕ) → block.first ≤ 2 * y → 2 * y + 2 ≤ block.first + block.lines → tap < 4
      → row ≡ row_of_chroma_line lines (chroma_first y block.down +ℤ pos tap)
      → ReadsRow lines block row

-- the rows from that of the third line above the block to that of the fourth line below it, moved by the vector
abbrev pub range_of : LumaLines → PredictedBlock → RowRange
range_of lines block =
    record {
      picture = block.reference;
      first = row_of_line lines.height lines.ctb_log2 (pos block.first +ℤ int_shr block.down 2 -ℤ pos 3);
      last =
          row_of_line lines.height lines.ctb_log2
          (pos (block.first + block.lines) +ℤ int_shr block.down 2 +ℤ pos 3);
    }

-- what a coding tree unit with these blocks reaches
abbrev pub reach_of : LumaLines → List PredictedBlock → List RowRange
reach_of lines blocks = map (range_of lines) blocks

-- the row ranges that a plan tells of the coding tree unit x of a line
abbrev pub told_reach : FlightRows → Line → ℕ → List RowRange
told_reach plan l x = slice_index_or (picture_at plan l.picture).reach (unit_in_picture plan l x) []

-- the motion of a flight: the luma lines of its pictures, and by picture and by unit there, in raster order, the blocks
-- that are predicted from other pictures, one for each vector; a unit at which a rule is broken has none
pub record FlightMotion : Type 0 where
  pub lines : LumaLines
  pub blocks : ℕ → ℕ → List PredictedBlock

-- those of the coding tree unit x of a line
abbrev pub blocks_of : FlightRows → FlightMotion → Line → ℕ → List PredictedBlock
blocks_of plan motion l x = motion.blocks l.picture (unit_in_picture plan l x)

-- the plan tells what the vectors of its units reach, and its pictures have these luma lines
pub record TellsMotion (plan : FlightRows) (motion : FlightMotion) : Type 0 where
  pub lines : IsLumaLines motion.lines
  pub rows : (k : ℕ) → k < length plan.pictures
      → motion.lines.height ≤ (picture_at plan k).rows * 2 ^ motion.lines.ctb_log2
  pub reach : (l : Line) → (x : ℕ) → IsLine plan l → x < width_of plan l
      → told_reach plan l x ≡ reach_of motion.lines (blocks_of plan motion l x)
