-- The samples of a unit depend on the rows of reference pictures that its prediction units need.
use Rattle.std.proofs.Common.{◌≡◌, ℕ, zero, suc, ◌+◌, ◌-◌, ◌*◌, ◌/◌, ◌%◌, ◌^◌, ◌<◌, ◌≤◌, ◌==◌, Bool, true, false}
use Rattle.std.proofs.Common.{refl, ap}
use Rattle.std.proofs.Common.{sym, subst, nat_le, ◌∙◌, Option, Some, None, List, All, min, if◌then◌else◌, slice_get}
use Rattle.std.proofs.Common.{arith}
use Rattle.std.proofs.Common.{get_or, ℤ, pos, ◌+ℤ◌, ◌-ℤ◌, ◌≤ℤ◌}
use Rattle.std.proofs.lemmas.Bool.{and_parts, leb-true, ltb-true}
use Rattle.std.proofs.lemmas.Bool.Decides.{nat_tests}
use Rattle.std.proofs.lemmas.Int.{ints, clamps}
use Rattle.std.specs.Int.{int_shr}
use Rattle.block_geometry.specs.Rows.{line_in, row_of_line}
use Rattle.block_geometry.proofs.Rows.{row_of_line-le}
use Rattle.ctu_records.specs.declared.item.Item.{Item}
use Rattle.ctu_records.specs.declared.item.Item.TheVariants.{Unit, Luma, Chroma, Prediction, Pcm, Sample, Transform}
use Rattle.ctu_records.specs.declared.item.Item.TheVariants.{Delta, Block, Level}
use Rattle.ctu_records.specs.declared.prediction.PredictionUnit.{PredictionUnit}
use Rattle.ctu_records.specs.declared.prediction.Rectangle.{Rectangle}
use Rattle.ctu_records.specs.Prediction.{is_inside, part_block, rectangle}
use Rattle.header_types.specs.declared.sps.PictureFormat.{PictureFormat}
use Rattle.spec_motion.specs.declared.vectors.Motion.{Motion}
use Rattle.spec_motion.specs.declared.vectors.Vector.{Vector}
use Rattle.spec_motion.specs.Vectors.{reference_in}
use Rattle.spec_inter_prediction.specs.declared.weighting.Weighting.{Weighting}
use Rattle.spec_inter_prediction.specs.Weighting.{weighted_one, weighted_two}
use Rattle.spec_inter_prediction.specs.Taps.{clamped}
use Rattle.spec_inter_prediction.specs.Chroma.{chroma_sample}
use Rattle.spec_inter_prediction.specs.Luma.{luma_sample}
use Rattle.spec_inter_prediction.proofs.Filters.{block_same}
use Rattle.spec_picture_build.specs.SpecReconstruction.{UnitFormat}
use Rattle.spec_picture_build.specs.SpecReconstruction.{InterUnit, Pictures, inter_sample, motion_weighting}
use Rattle.spec_picture_build.specs.SpecReconstruction.{predicted_by}
use Rattle.spec_picture_build.specs.SpecReconstruction.{sample_by, samples_of}
use Rattle.spec_picture_build.specs.SpecReconstruction.{Known}
use Rattle.spec_picture_build.specs.SpecReconstruction.{depth_of}
use Rattle.spec_picture_build.specs.SpecReconstruction.{unit_built}
use Rattle.picture_layout.specs.SpecSliceData.{samples_of_place}
use Rattle.spec_picture_build.specs.References.{DecodedPicture, format_height, format_width, greatest_sample}
use Rattle.spec_picture_build.specs.References.{pictures_of, reference_sample}
use Rattle.locality_laws.specs.Needed.{AgreeAlong, AgreeByMotion, AgreeForItem, AgreeWhereNeeded, HaveSameRows}
use Rattle.locality_laws.specs.Needed.{IsHalved, first_needed, last_needed, luma_line}
use Rattle.locality_laws.specs.References.{ReadsSame, SamplesSame, part_of, with_pictures}
use Rattle.locality_laws.proofs.Lines.{chroma_block_same, chroma_lines_between, chroma_row_is}
use Rattle.locality_laws.proofs.References.{unit_same}

inside : (side : ℕ) (v : ℤ) → 1 ≤ side → clamped v side < side
unfolding clamped
inside side v some = omega (arith, ints, clamps)

luma_line_is : (height : ℕ) (line : ℤ) → clamped line height ≡ line_in height line
unfolding clamped
luma_line_is height line = refl

no_luma : (k : ℕ) → (suc k == 0) ≡ false
no_luma k = grind (arith, nat_tests)

half_some : (n : ℕ) → 2 ≤ n → 1 ≤ n / 2
half_some n some = omega arith

module _ (picture : PictureFormat) (ctb_log2 y0 h : ℕ) (my : ℤ) (some : 1 ≤ ctb_log2) where
  -- the sample of a component at a line of a row that is needed
  held_same : (first last : ℕ) (a b : DecodedPicture) → HaveSameRows ctb_log2 first last a b → (c : ℕ)
      (column line : ℤ)
      → 1 ≤ format_width a.format c → 1 ≤ format_height a.format c
      → first ≤ luma_line c (clamped line (format_height a.format c)) / 2 ^ ctb_log2
      → luma_line c (clamped line (format_height a.format c)) / 2 ^ ctb_log2 ≤ last
      → reference_sample picture (Some a) c column line ≡ reference_sample picture (Some b) c column line
  unfolding reference_sample
  held_same first last a b same c column line wide high low most =
      ap (λ v. min v (greatest_sample picture c)) (same.samples c (clamped column (format_width a.format c))
      (clamped line (format_height a.format c)) (inside _ column wide) (inside _ line high) low most
      ∙ ap (λ (f : PictureFormat). b.samples c (clamped column (format_width f c)) (clamped line (format_height f c)))
      same.format)

  -- luma, by place of a buffer
  luma_held : (o q : Option DecodedPicture) → AgreeWhereNeeded ctb_log2 y0 h my o q → (column line : ℤ)
      → (pos y0 +ℤ int_shr my 2 -ℤ pos 3) ≤ℤ line → line ≤ℤ (pos (y0 + h) +ℤ int_shr my 2 +ℤ pos 3)
      → reference_sample picture o 0 column line ≡ reference_sample picture q 0 column line
  luma_held None None agree column line low high = refl
  luma_held None (Some b) agree column line low high = let no : ⊥ = agree in absurd no
  luma_held (Some a) None agree column line low high = let no : ⊥ = agree in absurd no
  luma_held (Some a) (Some b) agree column line low high =
      let height : ℕ = a.format.pic_height_in_luma_samples in
      let same : HaveSameRows ctb_log2 (first_needed a.format.pic_height_in_luma_samples ctb_log2 y0 my)
      (last_needed a.format.pic_height_in_luma_samples ctb_log2 y0 h my) a b = agree in
      let at = luma_line_is height line in
      let from = row_of_line-le height ctb_log2 _ line low in
      let to = row_of_line-le height ctb_log2 line _ high in
      held_same _ _ a b same 0 column line (omega (arith, same.halved.wide)) (omega (arith, same.halved.high))
      (rw at from) (rw at to)

  -- chroma; c and d are the block's first line and how many it has
  chroma_held : (c d : ℕ) → y0 ≡ 2 * c → h ≡ 2 * d → (component : ℕ) → (component == 0) ≡ false
      → (o q : Option DecodedPicture) → AgreeWhereNeeded ctb_log2 y0 h my o q → (column line : ℤ)
      → (pos c +ℤ int_shr my 3 -ℤ pos 1) ≤ℤ line → line ≤ℤ (pos (c + d) +ℤ int_shr my 3 +ℤ pos 1)
      → reference_sample picture o component column line ≡ reference_sample picture q component column line
  chroma_held c d e f component chroma None None agree column line low high = refl
  chroma_held c d e f component chroma None (Some b) agree column line low high = let no : ⊥ = agree in absurd no
  chroma_held c d e f component chroma (Some a) None agree column line low high = let no : ⊥ = agree in absurd no
  chroma_held c d e f component chroma (Some a) (Some b) agree column line low high =
      let height : ℕ = a.format.pic_height_in_luma_samples in
      let same : HaveSameRows ctb_log2 (first_needed a.format.pic_height_in_luma_samples ctb_log2 y0 my)
      (last_needed a.format.pic_height_in_luma_samples ctb_log2 y0 h my) a b = agree in
      let lines = chroma_lines_between y0 h c d my line e f low high in
      let rows = chroma_row_is height ctb_log2 _ _ line same.halved.high same.halved.even some lines.0 lines.1 in
      held_same _ _ a b same component column line (rw chroma (half_some _ same.halved.wide))
      (rw chroma (half_some _ same.halved.high)) (rw chroma rows.0) (rw chroma rows.1)

-- a unit's block of places by a motion
module _ (format : UnitFormat) (inter : InterUnit) (picture : PictureFormat) (ctb_log2 : ℕ) (a b : List DecodedPicture)
    (some : 1 ≤ ctb_log2) (block : Rectangle) where
  abbrev F : InterUnit
  F = with_pictures inter (pictures_of picture a)

  abbrev G : InterUnit
  G = with_pictures inter (pictures_of picture b)

  luma_predicted : (list : ℕ) (v : Vector) → AgreeAlong ctb_log2 inter a b block list (Some v) → (x y : ℕ)
      → 4 * (inter.row + block.y) ≤ y → y < 4 * (inter.row + block.y) + 4 * block.height
      → predicted_by format F list 0 v x y ≡ predicted_by format G list 0 v x y
  unfolding predicted_by
  luma_predicted list v agree x y low high =
      let place : ℕ = (reference_in inter.slice list v.ref_idx).picture in
      block_same format.luma_depth (pictures_of picture a place 0) (pictures_of picture b place 0) v.mv.x v.mv.y
      (4 * (inter.row + block.y)) (4 * block.height) x y
      (λ column line from to. luma_held picture ctb_log2 (4 * (inter.row + block.y)) (4 * block.height) v.mv.y some
      (slice_get a place) (slice_get b place) agree column line from to) low high

  chroma_predicted : (c : ℕ) → (c == 0) ≡ false → (list : ℕ) (v : Vector)
      → AgreeAlong ctb_log2 inter a b block list (Some v) → (x y : ℕ)
      → 2 * (inter.row + block.y) ≤ y → y < 2 * (inter.row + block.y) + 2 * block.height
      → predicted_by format F list c v x y ≡ predicted_by format G list c v x y
  unfolding predicted_by
  chroma_predicted c chroma list v agree x y low high =
      let place : ℕ = (reference_in inter.slice list v.ref_idx).picture in
      rw chroma (chroma_block_same format.chroma_depth (pictures_of picture a place c) (pictures_of picture b place c)
      v.mv.x v.mv.y (2 * (inter.row + block.y)) (2 * block.height) x y
      (λ column line from to. chroma_held picture ctb_log2 (4 * (inter.row + block.y)) (4 * block.height) v.mv.y some
      (2 * (inter.row + block.y)) (2 * block.height) (omega arith) (omega arith) c chroma
      (slice_get a place) (slice_get b place) agree column line from to) low high)

  predicted : (c list : ℕ) (v : Vector) → AgreeAlong ctb_log2 inter a b block list (Some v) → (x y : ℕ)
      → samples_of_place c * (inter.row + block.y) ≤ y
      → y < samples_of_place c * (inter.row + block.y) + samples_of_place c * block.height
      → predicted_by format F list c v x y ≡ predicted_by format G list c v x y
  predicted zero list v agree x y low high = luma_predicted list v agree x y low high
  predicted (suc k) list v agree x y low high =
      let chroma = no_luma k in
      let two : samples_of_place (suc k) ≡ 2 = rw chroma refl in
      chroma_predicted (suc k) chroma list v agree x y (subst (λ n. n * (inter.row + block.y) ≤ y) two low)
      (subst (λ n. y < n * (inter.row + block.y) + n * block.height) two high)

  sample_same : (c : ℕ) (w : Weighting) (v u : Option Vector) → AgreeAlong ctb_log2 inter a b block 0 v
      → AgreeAlong ctb_log2 inter a b block 1 u → (x y : ℕ)
      → samples_of_place c * (inter.row + block.y) ≤ y
      → y < samples_of_place c * (inter.row + block.y) + samples_of_place c * block.height
      → sample_by format F c w v u x y ≡ sample_by format G c w v u x y
  unfolding sample_by
  sample_same c w None None p q x y low high = refl
  sample_same c w (Some v) None p q x y low high =
      ap (λ z. weighted_one (depth_of format c) w 0 z) (predicted c 0 v p x y low high)
  sample_same c w None (Some u) p q x y low high =
      ap (λ z. weighted_one (depth_of format c) w 1 z) (predicted c 1 u q x y low high)
  sample_same c w (Some v) (Some u) p q x y low high =
      ap (λ z. weighted_two (depth_of format c) w z (predicted_by format F 1 c u x y))
      (predicted c 0 v p x y low high)
      ∙ ap (λ z. weighted_two (depth_of format c) w (predicted_by format G 0 c v x y) z)
      (predicted c 1 u q x y low high)

  -- the lines of the block, from the unit's first one on
  lines_of : (n line : ℕ) → n * block.y + 1 ≤ line → line < n * block.y + 1 + n * block.height
      → (n * (inter.row + block.y) ≤ n * inter.row + (line - 1))
      × (n * inter.row + (line - 1) < n * (inter.row + block.y) + n * block.height)
  lines_of n line low high =
      let e : n * (inter.row + block.y) ≡ n * inter.row + n * block.y = grind arith in
      (omega (arith, e, low), omega (arith, e, low, high))

  block_agrees : (m : Motion) → AgreeAlong ctb_log2 inter a b block 0 m.list_0
      → AgreeAlong ctb_log2 inter a b block 1 m.list_1
      → SamplesSame format inter (pictures_of picture a) (pictures_of picture b) block m
  block_agrees m p q c column line t =
      let rows = (and_parts _ _ t).1 in
      let tests = and_parts (nat_le (samples_of_place c * block.y + 1) line) _ rows in
      let at = lines_of (samples_of_place c) line (leb-true _ _ tests.0) (ltb-true _ _ tests.1) in
      sample_same c (motion_weighting inter c m) m.list_0 m.list_1 p q
      (samples_of_place c * inter.column + (column - 1)) (samples_of_place c * inter.row + (line - 1)) at.0 at.1

-- and all units
module _ (format : UnitFormat) (inter : InterUnit) (picture : PictureFormat) (ctb_log2 : ℕ) (a b : List DecodedPicture)
    (some : 1 ≤ ctb_log2) where
  by_motion : (unit : PredictionUnit) → AgreeForItem ctb_log2 inter a b (Prediction unit) → (m : Motion)
      → inter.motion ((part_block unit.unit unit.part_mode unit.part).x + 1)
      ((part_block unit.unit unit.part_mode unit.part).y + 1)
      ≡ Some m
      → SamplesSame format inter (pictures_of picture a) (pictures_of picture b)
      (part_block unit.unit unit.part_mode unit.part) m
  by_motion unit agree m is =
      let block : Rectangle = part_block unit.unit unit.part_mode unit.part in
      let both : AgreeByMotion ctb_log2 inter a b block (Some m) =
      subst (AgreeByMotion ctb_log2 inter a b block) is agree in
      block_agrees format inter picture ctb_log2 a b some block m both.0 both.1

  item_agrees : (item : Item) → AgreeForItem ctb_log2 inter a b item
      → ReadsSame format inter (pictures_of picture a) (pictures_of picture b) item
  item_agrees (Prediction unit) agree = λ m is. by_motion unit agree m is
  item_agrees (Unit unit) agree = tt
  item_agrees (Luma luma) agree = tt
  item_agrees (Chroma mode) agree = tt
  item_agrees (Pcm square) agree = tt
  item_agrees (Sample value) agree = tt
  item_agrees (Transform unit) agree = tt
  item_agrees (Delta delta) agree = tt
  item_agrees (Block other) agree = tt
  item_agrees (Level place value) agree = tt

  pub needed_same : (items : List Item) (known : Known) → All (AgreeForItem ctb_log2 inter a b) items
      → unit_built format (with_pictures inter (pictures_of picture a)) items known
      ≡ unit_built format (with_pictures inter (pictures_of picture b)) items known
  needed_same items known agree =
      unit_same format inter (pictures_of picture a) (pictures_of picture b) items known
      (λ k item at. item_agrees (get_or items k item) (agree k item at))
