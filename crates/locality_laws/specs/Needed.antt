-- Pictures of two buffers that agree in the rows of coding tree blocks that the prediction units of a unit need.
use Rattle.std.specs.Prelude.{◌≡◌, ℕ, ◌+◌, ◌-◌, ◌*◌, ◌/◌, ◌%◌, ◌^◌, ◌<◌, ◌≤◌, ◌==◌, ℤ, pos, ◌+ℤ◌, ◌-ℤ◌, List}
use Rattle.std.specs.Prelude.{slice_get}
use Rattle.std.specs.Prelude.{Option, Some, None, ⊤, if◌then◌else◌}
use Rattle.std.specs.Int.{int_shr}
use Rattle.block_geometry.specs.Rows.{row_of_line}
use Rattle.ctu_records.specs.declared.item.Item.{Item}
use Rattle.ctu_records.specs.declared.item.Item.TheVariants.{Prediction}
use Rattle.ctu_records.specs.declared.prediction.Rectangle.{Rectangle}
use Rattle.ctu_records.specs.Prediction.{part_block}
use Rattle.header_types.specs.declared.sps.PictureFormat.{PictureFormat}
use Rattle.spec_motion.specs.declared.vectors.Motion.{Motion}
use Rattle.spec_motion.specs.declared.vectors.Vector.{Vector}
use Rattle.spec_motion.specs.Vectors.{reference_in}
use Rattle.spec_picture_build.specs.SpecReconstruction.{InterUnit}
use Rattle.spec_picture_build.specs.References.{DecodedPicture, format_height, format_width}

-- sides of which chroma has half, in whole samples
pub record IsHalved (format : PictureFormat) : Type 0 where
  pub wide : 2 ≤ format.pic_width_in_luma_samples
  pub high : 2 ≤ format.pic_height_in_luma_samples
  pub even : format.pic_height_in_luma_samples % 2 ≡ 0

-- the luma line in which a line of a component begins
abbrev pub luma_line : ℕ → ℕ → ℕ
luma_line c y = if c == 0 then y else 2 * y

-- two pictures have one format, and the same samples in the rows of coding tree blocks from one to another
pub record HaveSameRows (ctb_log2 first last : ℕ) (a b : DecodedPicture) : Type 0 where
  pub halved : IsHalved a.format
  pub format : a.format ≡ b.format
  pub samples : (c x y : ℕ) → x < format_width a.format c → y < format_height a.format c
      → first ≤ luma_line c y / 2 ^ ctb_log2 → luma_line c y / 2 ^ ctb_log2 ≤ last → a.samples c x y ≡ b.samples c x y

-- the first row and the last one that a block of h lines from line y0 on needs of a reference picture of this height,
-- by its vertical vector in quarters of a sample: those of the luma filter's taps
abbrev pub first_needed : ℕ → ℕ → ℕ → ℤ → ℕ
first_needed height ctb_log2 y0 my = row_of_line height ctb_log2 (pos y0 +ℤ int_shr my 2 -ℤ pos 3)

abbrev pub last_needed : ℕ → ℕ → ℕ → ℕ → ℤ → ℕ
last_needed height ctb_log2 y0 h my = row_of_line height ctb_log2 (pos (y0 + h) +ℤ int_shr my 2 +ℤ pos 3)

-- two places of buffers have pictures that agree in the rows that such a block needs, or neither has one
abbrev pub AgreeWhereNeeded : ℕ → ℕ → ℕ → ℤ → Option DecodedPicture → Option DecodedPicture → Type 0
AgreeWhereNeeded ctb_log2 y0 h my None None = ⊤
AgreeWhereNeeded ctb_log2 y0 h my None (Some b) = ⊥
AgreeWhereNeeded ctb_log2 y0 h my (Some a) None = ⊥
AgreeWhereNeeded ctb_log2 y0 h my (Some a) (Some b) =
    HaveSameRows ctb_log2 (first_needed a.format.pic_height_in_luma_samples ctb_log2 y0 my)
    (last_needed a.format.pic_height_in_luma_samples ctb_log2 y0 h my) a b

-- the pictures of two buffers that a vector of a list of a block of a unit points to agree so
abbrev pub AgreeAlong : ℕ → InterUnit → List DecodedPicture → List DecodedPicture → Rectangle → ℕ → Option Vector
    → Type 0
AgreeAlong ctb_log2 inter a b block list None = ⊤
AgreeAlong ctb_log2 inter a b block list (Some v) =
    AgreeWhereNeeded ctb_log2 (4 * (inter.row + block.y)) (4 * block.height) v.mv.y
    (slice_get a (reference_in inter.slice list v.ref_idx).picture)
    (slice_get b (reference_in inter.slice list v.ref_idx).picture)

-- those that its motion points to do
abbrev pub AgreeByMotion : ℕ → InterUnit → List DecodedPicture → List DecodedPicture → Rectangle → Option Motion
    → Type 0
AgreeByMotion ctb_log2 inter a b block None = ⊤
AgreeByMotion ctb_log2 inter a b block (Some m) =
    AgreeAlong ctb_log2 inter a b block 0 m.list_0 × AgreeAlong ctb_log2 inter a b block 1 m.list_1

-- the pictures of two buffers agree in the rows of coding tree blocks that a prediction unit needs
abbrev pub AgreeForItem : ℕ → InterUnit → List DecodedPicture → List DecodedPicture → Item → Type 0
AgreeForItem ctb_log2 inter a b (Prediction unit) =
    AgreeByMotion ctb_log2 inter a b (part_block unit.unit unit.part_mode unit.part)
    (inter.motion ((part_block unit.unit unit.part_mode unit.part).x + 1)
    ((part_block unit.unit unit.part_mode unit.part).y + 1))
AgreeForItem ctb_log2 inter a b other = ⊤
