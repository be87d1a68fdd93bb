-- The prediction of transform blocks of intra coding units (8.4.4.1).
use Rattle.std.specs.Prelude.{ℕ, ◌+◌, ◌-◌, ◌*◌, ◌/◌, ◌%◌, ◌^◌, ◌==◌, ◌&&◌, Bool, None, is_some, if◌then◌else◌}
use Rattle.ctu_records.specs.declared.item.Square.{Square}
use Rattle.spec_intra_prediction.specs.Neighbours.{beside}
use Rattle.spec_intra_prediction.specs.Substitution.{substituted}
use Rattle.spec_intra_prediction.specs.Prediction.{predicted}
use Rattle.spec_reconstruction.specs.declared.format.UnitFormat.{UnitFormat}
use Rattle.spec_reconstruction.specs.Known.{Known, laid}
use Rattle.spec_reconstruction.specs.Parameters.{depth_of}
use Rattle.spec_motion.specs.Vectors as motion
use Rattle.spec_slice_data.specs.Residual.{samples_of_place}
use Rattle.spec_slice_data.specs.Transform.{whole_of_fourth}

-- the place of 4x4 luma samples that has a sample of a component, both counted from 1 at the unit's first one
abbrev pub place_of_sample : ℕ → ℕ → ℕ
place_of_sample c k = (k + samples_of_place c - 1) / samples_of_place c

-- whether a sample is predicted in inter mode: its place has motion
abbrev pub is_inter : motion.Known → ℕ → ℕ → ℕ → Bool
is_inter motion c column line = is_some (motion (place_of_sample c column) (place_of_sample c line))

-- what intra blocks are predicted from: where prediction is constrained to intra samples, no others (8.4.4.2.2)
unfoldable pub offered : UnitFormat → motion.Known → Known → Known
offered format motion known c column line =
    if format.constrained_intra && is_inter motion c column line then None else known c column line

-- a block of 2^log2 samples on a side that is predicted by a mode from what is known beside it
unfoldable pub block_predicted : UnitFormat → motion.Known → ℕ → ℕ → ℕ → ℕ → ℕ → Known → Known
block_predicted format motion c log2 mode x y known =
    laid c x y (2 ^ log2)
    (predicted c log2 mode format.strong_intra_smoothing (depth_of format c)
    (substituted (depth_of format c) (beside (offered format motion known c) (2 ^ log2) x y)))
    known

-- the chroma blocks of a square of at least 8x8 luma samples, Cb first
unfoldable pub chroma_predicted : UnitFormat → motion.Known → ℕ → Square → Known → Known
chroma_predicted format motion mode square known =
    block_predicted format motion 2 (square.log2_size + 1) mode (2 * square.x) (2 * square.y)
    (block_predicted format motion 1 (square.log2_size + 1) mode (2 * square.x) (2 * square.y) known)

-- whether a square of 4x4 luma samples is the fourth of its four
abbrev pub is_fourth : Square → Bool
is_fourth square = square.x % 2 == 1 && square.y % 2 == 1

-- the chroma blocks that belong to a transform unit: behind the fourth of four blocks of 4x4 luma samples those of the
-- square that was split
unfoldable pub chroma_of_unit_predicted : UnitFormat → motion.Known → ℕ → Square → Known → Known
chroma_of_unit_predicted format motion mode square known =
    if square.log2_size == 0
    then (if is_fourth square then chroma_predicted format motion mode (whole_of_fourth square) known else known)
    else chroma_predicted format motion mode square known

-- the blocks of a transform unit by their modes
unfoldable pub unit_predicted : UnitFormat → motion.Known → ℕ → ℕ → Square → Known → Known
unit_predicted format motion luma_mode chroma_mode square known =
    chroma_of_unit_predicted format motion chroma_mode square
    (block_predicted format motion 0 (square.log2_size + 2) luma_mode (4 * square.x) (4 * square.y) known)
