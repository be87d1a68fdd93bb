-- Pictures that agree where the prediction units of a unit read them.
use Rattle.std.specs.Prelude.{◌≡◌, ℕ, ◌+◌, ◌-◌, ◌*◌, true, Option, Some, ⊤}
use Rattle.ctu_records.specs.declared.item.Item.{Item}
use Rattle.ctu_records.specs.declared.item.Item.TheVariants.{Unit, Luma, Chroma, Prediction, Pcm, Sample, Transform}
use Rattle.ctu_records.specs.declared.item.Item.TheVariants.{Delta, Block, Level}
use Rattle.ctu_records.specs.declared.prediction.Rectangle.{Rectangle}
use Rattle.ctu_records.specs.Prediction.{is_inside, part_block, rectangle}
use Rattle.spec_motion.specs.declared.vectors.Motion.{Motion}
use Rattle.spec_picture_build.specs.SpecReconstruction.{UnitFormat}
use Rattle.spec_picture_build.specs.SpecReconstruction.{InterUnit, Pictures, inter_sample, samples_of}
use Rattle.picture_layout.specs.SpecSliceData.{samples_of_place}

abbrev pub with_pictures : InterUnit → Pictures → InterUnit
with_pictures inter f = record {
  motion = inter.motion;
  slice = inter.slice;
  weighting = inter.weighting;
  pictures = f;
  column = inter.column;
  row = inter.row;
}

-- a block of samples by columns and lines that are counted from 1
abbrev pub part_of : Rectangle → Rectangle
part_of block = rectangle (block.x + 1) (block.y + 1) block.width block.height

-- the samples of a block of places are the same by a motion
abbrev pub SamplesSame : UnitFormat → InterUnit → Pictures → Pictures → Rectangle → Motion → Type 0
SamplesSame format inter f g block m =
    (c column line : ℕ) → is_inside (part_of (samples_of c block)) column line ≡ true
    → inter_sample format (with_pictures inter f) c m (samples_of_place c * inter.column + (column - 1))
    (samples_of_place c * inter.row + (line - 1))
    ≡ inter_sample format (with_pictures inter g) c m (samples_of_place c * inter.column + (column - 1))
    (samples_of_place c * inter.row + (line - 1))

-- those of a prediction unit are the same over two pictures
abbrev pub ReadsSame : UnitFormat → InterUnit → Pictures → Pictures → Item → Type 0
ReadsSame format inter f g (Unit unit) = ⊤
ReadsSame format inter f g (Luma luma) = ⊤
ReadsSame format inter f g (Chroma mode) = ⊤
ReadsSame format inter f g (Prediction unit) =
    (m : Motion)
    → inter.motion ((part_block unit.unit unit.part_mode unit.part).x + 1)
    ((part_block unit.unit unit.part_mode unit.part).y + 1)
    ≡ Some m
    → SamplesSame format inter f g (part_block unit.unit unit.part_mode unit.part) m
ReadsSame format inter f g (Pcm square) = ⊤
ReadsSame format inter f g (Sample value) = ⊤
ReadsSame format inter f g (Transform unit) = ⊤
ReadsSame format inter f g (Delta delta) = ⊤
ReadsSame format inter f g (Block block) = ⊤
ReadsSame format inter f g (Level place value) = ⊤
