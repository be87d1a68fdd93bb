-- The samples and places of a unit are its own in the picture.
use Rattle.std.proofs.Common.{◌≡◌, ℕ, ◌+◌, ◌-◌, ◌*◌, ◌/◌, ◌^◌, ◌<◌, ◌≤◌, ◌==◌, ◌&&◌, nat_le, nat_lt, true}
use Rattle.std.proofs.Common.{min, refl, ap, subst, ◌∙◌, arith}
use Rattle.std.proofs.Math.Nat.{pow-le-pow_right}
use Rattle.std.proofs.lemmas.Bool.Decides.{nat_tests}
use Rattle.std.proofs.lemmas.Nat.{div-mul-add, mod-mul-add}
use Rattle.header_types.specs.declared.sps.SpsFields.{SpsFields}
use Rattle.header_types.specs.declared.pps.PpsFields.{PpsFields}
use Rattle.header_types.specs.SequenceParameterSets.{IsSps, blocks_across, ctb_log2, height_in_ctbs, width_in_ctbs}
use Rattle.picture_layout.proofs.Sizes.{four}
use Rattle.spec_slice_data.specs.Residual.{samples_of_place}
use Rattle.spec_slice_data.specs.Segment.{PictureShape, column_of, row_of}
use Rattle.spec_picture_trees.specs.Places.{first_column, first_row, is_of_unit as has_place_of, unit_at}
use Rattle.spec_picture_trees.specs.Shapes.{picture_shape}
use Rattle.spec_picture_build.specs.Border.{has_sample, unit_column, unit_line}
use Rattle.spec_picture_build.specs.Built.{is_of_unit}
use Rattle.sample_words.specs.declared.sizes.FlightSizes.{FlightSizes}
use Rattle.sample_words.specs.Contents.{component_side}
use Rattle.sample_words.specs.Sizes.{columns, ctb_size, height_of, width_of}
use Rattle.row_borders.specs.SpecFlights.{flight_sizes}
use Rattle.flight_packing_laws.proofs.Sizes.{IsPlaceIn, IsSampleIn, eighth, few_blocks, place_at, place_in, sample_in}

-- tests of a place and of a sample
place_tests : (across down first line n x y : ℕ) → x < across → y < down → first ≤ x → x < first + n → line ≤ y
    → y < line + n
    → ((nat_lt x across && nat_lt y down)
    && ((nat_le first x && nat_lt x (first + n)) && (nat_le line y && nat_lt y (line + n)))) ≡ true
place_tests across down first line n x y a b c d e f = grind (arith, nat_tests)

sample_tests : (c width height x y at address : ℕ) → c < 3 → x < width → y < height → at ≡ address
    → ((nat_lt c 3 && (nat_lt x width && nat_lt y height)) && at == address) ≡ true
sample_tests c width height x y at address few across down is = grind (arith, nat_tests)

turned : (a b : ℕ) → a * b ≡ b * a
turned a b = grind arith

-- a place or a sample by the unit that has it
unit_of : (side c i : ℕ) → i < side → (side * c + i) / side ≡ c
unit_of side c i small = ap (λ k. (k + i) / side) (turned side c) ∙ div-mul-add c side i small

more_is : (a i : ℕ) → a + i - a ≡ i
more_is a i = omega arith

module _ (sps : SpsFields) (pps : PpsFields) (is : IsSps sps) (pictures row column : ℕ)
    (inside : column < width_in_ctbs sps) where
  abbrev pub shape : PictureShape
  shape = picture_shape sps pps

  abbrev pub sizes : FlightSizes
  sizes = flight_sizes sps pictures

  -- its side in places
  abbrev pub side : ℕ
  side = 2 ^ (ctb_log2 sps.blocks - 2)

  abbrev pub address : ℕ
  address = row * width_in_ctbs sps + column

  whole : ctb_size sizes ≡ 4 * side
  whole = four (ctb_log2 sps.blocks) (omega (arith, is.blocks.least_ctb))

  column_is : column_of shape address ≡ column
  unfolding picture_shape
  column_is = mod-mul-add row (width_in_ctbs sps) column inside

  row_is : row_of shape address ≡ row
  unfolding picture_shape
  row_is = div-mul-add row (width_in_ctbs sps) column inside

  -- places
  pub column_at : (i : ℕ) → column * ctb_size sizes / 4 + i ≡ side * column + i
  column_at i = ap (λ s. column * s / 4 + i) whole ∙ place_at side column i

  pub row_at : (j : ℕ) → row * ctb_size sizes / 4 + j ≡ side * row + j
  row_at j = ap (λ s. row * s / 4 + j) whole ∙ place_at side row j

  pub column_in : (i : ℕ) → i < width_of sizes column / 4
      → IsPlaceIn side column sps.format.pic_width_in_luma_samples i
  unfolding width_of
  column_in i less =
      place_in side column sps.format.pic_width_in_luma_samples i
      (subst (λ s. i < min s (sps.format.pic_width_in_luma_samples - column * s) / 4) whole less)

  pub row_in : (j : ℕ) → j < height_of sizes row / 4 → IsPlaceIn side row sps.format.pic_height_in_luma_samples j
  unfolding height_of
  row_in j less =
      place_in side row sps.format.pic_height_in_luma_samples j
      (subst (λ s. j < min s (sps.format.pic_height_in_luma_samples - row * s) / 4) whole less)

  pub from_column : (i : ℕ) → side * column + i - first_column shape address ≡ i
  unfolding picture_shape
  from_column i = ap (λ c. side * column + i - side * c) column_is ∙ more_is (side * column) i

  pub from_row : (j : ℕ) → side * row + j - first_row shape address ≡ j
  unfolding picture_shape
  from_row j = ap (λ r. side * row + j - side * r) row_is ∙ more_is (side * row) j

  pub place_there : (i j : ℕ) → i < width_of sizes column / 4 → j < height_of sizes row / 4
      → has_place_of shape address (side * column + i) (side * row + j) ≡ true
  unfolding picture_shape
  place_there i j across down =
      let x = column_in i across in
      let y = row_in j down in
      let first : first_column shape address ≡ side * column = ap (λ c. side * c) column_is in
      let line : first_row shape address ≡ side * row = ap (λ r. side * r) row_is in
      place_tests shape.across shape.down (first_column shape address) (first_row shape address) side
      (side * column + i) (side * row + j) x.there y.there (omega (arith, first)) (omega (arith, first, x.small))
      (omega (arith, line)) (omega (arith, line, y.small))

  -- samples
  pub sample_column : (c i : ℕ) → i < component_side c (width_of sizes column)
      → IsSampleIn c side column sps.format.pic_width_in_luma_samples i
  unfolding width_of
  sample_column c i less =
      sample_in c side column sps.format.pic_width_in_luma_samples i
      (eighth sps.format.pic_width_in_luma_samples sps.blocks.log2_min_luma_coding_block_size_minus3
      is.blocks.min_cb is.blocks.columns)
      (subst (λ s. i < component_side c (min s (sps.format.pic_width_in_luma_samples - column * s))) whole less)

  pub sample_line : (c j : ℕ) → j < component_side c (height_of sizes row)
      → IsSampleIn c side row sps.format.pic_height_in_luma_samples j
  unfolding height_of
  sample_line c j less =
      sample_in c side row sps.format.pic_height_in_luma_samples j
      (eighth sps.format.pic_height_in_luma_samples sps.blocks.log2_min_luma_coding_block_size_minus3
      is.blocks.min_cb is.blocks.rows)
      (subst (λ s. j < component_side c (min s (sps.format.pic_height_in_luma_samples - row * s))) whole less)

  -- the side of the unit in samples of a component
  abbrev pub across : ℕ → ℕ
  across c = samples_of_place c * side

  pub sample_there : (c i j : ℕ) → c < 3 → i < component_side c (width_of sizes column)
      → j < component_side c (height_of sizes row)
      → is_of_unit shape address c (across c * column + i) (across c * row + j) ≡ true
  unfolding picture_shape has_sample unit_at
  sample_there c i j few less lower =
      let x = sample_column c i less in
      let y = sample_line c j lower in
      sample_tests c (samples_of_place c * shape.across) (samples_of_place c * shape.down) (across c * column + i)
      (across c * row + j)
      (shape.width * ((across c * row + j) / across c) + (across c * column + i) / across c) address few x.there
      y.there
      (ap (λ r. shape.width * r + (across c * column + i) / across c) (unit_of (across c) row j y.small)
      ∙ ap (λ m. shape.width * row + m) (unit_of (across c) column i x.small)
      ∙ ap (λ m. m + column) (turned shape.width row))

  pub from_unit_column : (c i : ℕ) → across c * column + i - unit_column shape c address ≡ i
  unfolding picture_shape
  from_unit_column c i = ap (λ m. across c * column + i - across c * m) column_is ∙ more_is (across c * column) i

  pub from_unit_line : (c j : ℕ) → across c * row + j - unit_line shape c address ≡ j
  unfolding picture_shape
  from_unit_line c j = ap (λ m. across c * row + j - across c * m) row_is ∙ more_is (across c * row) j

  pub sample_column_at : (c i : ℕ) → i < component_side c (width_of sizes column)
      → component_side c (column * ctb_size sizes) + i ≡ across c * column + i
  sample_column_at c i less =
      ap (λ s. component_side c (column * s) + i) whole ∙ ap (λ m. m + i) ((sample_column c i less).first)

  pub sample_line_at : (c j : ℕ) → j < component_side c (height_of sizes row)
      → component_side c (row * ctb_size sizes) + j ≡ across c * row + j
  sample_line_at c j less =
      ap (λ s. component_side c (row * s) + j) whole ∙ ap (λ m. m + j) ((sample_line c j less).first)

  -- whole pictures
  pub columns_are : columns sizes ≡ width_in_ctbs sps
  unfolding blocks_across columns
  columns_are = refl

  wide : 16 ≤ ctb_size sizes
  wide = pow-le-pow_right {n = 2} (omega arith) is.blocks.least_ctb

  pub few_columns : column < 512
  unfolding blocks_across
  few_columns =
      few_blocks (ctb_size sizes) sps.format.pic_width_in_luma_samples column wide is.format.width inside

  pub few_rows : row < height_in_ctbs sps → row < 512
  unfolding blocks_across
  few_rows less =
      few_blocks (ctb_size sizes) sps.format.pic_height_in_luma_samples row wide is.format.height less
