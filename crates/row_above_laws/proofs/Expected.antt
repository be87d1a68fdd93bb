-- The words that a flight expects of a unit's places, by the places of the picture.
use Rattle.std.proofs.Common.{◌≡◌, ℕ, zero, suc, ◌+◌, ◌-◌, ◌*◌, ◌/◌, ◌^◌, ◌<◌, ◌≤◌, min, Some, length, slice_get, ap}
use Rattle.std.proofs.Common.{List, slice_index, true, sym, ◌∙◌, arith}
use Rattle.std.proofs.Math.Nat.{div-mul-le_self, mul-le-mul_right, one-le-pow}
use Rattle.std.proofs.lemmas.Bool.{and_from, le-leb, lt-ltb}
use Rattle.std.proofs.lemmas.Nat.{div-mul-add, mod-mul-add, pow-add}
use Rattle.hv_base.specs.declared.line.Line.{Line}
use Rattle.hv_base.specs.declared.line.Phase.TheVariants.{B}
use Rattle.header_types.specs.SequenceParameterSets.{IsSps, blocks_across, ctb_log2, height_in_ctbs}
use Rattle.header_types.specs.SequenceParameterSets.{width_in_ctbs}
use Rattle.plan_types.specs.declared.picture_plan.PicturePlan.{PicturePlan}
use Rattle.spec_slice_data.specs.Segment.{PictureShape}
use Rattle.spec_picture_trees.specs.Places.{first_column, first_row, is_of_unit, unit_places}
use Rattle.spec_picture_trees.specs.Shapes.{picture_shape}
use Rattle.sample_words.specs.declared.sizes.FlightSizes.{FlightSizes}
use Rattle.sample_words.specs.declared.unit_content.UnitContent.{UnitContent}
use Rattle.sample_words.specs.declared.unit_content.UnitContent.TheVariants.{Modes, Offsets, Vectors}
use Rattle.sample_words.specs.declared.unit_word.UnitWord.{UnitWord}
use Rattle.sample_words.specs.Contents.{IsContent, PictureValues, content_value, expected_word, index_of}
use Rattle.sample_words.specs.Offsets.{first_word, second_word}
use Rattle.sample_words.specs.Sizes.{ctb_size, height_of, width_of}
use Rattle.sample_words.specs.Values.{modes_word, vectors_word}
use Rattle.sample_words.specs.Words.{unit_word}
use Rattle.sample_words.proofs.Contents.{content_found}
use Rattle.flight_value_laws.specs.SpecFlights.{PlannedFlight, folded_at}
use Rattle.flight_value_laws.specs.SpecFlights.{expected, expected_in, flight_sizes, values_in}
use Rattle.row_above_laws.specs.Above.{AreAbove, AreExpectedAbove, expected_content, places_across}
use Rattle.row_above_laws.proofs.Above.{last_row}

-- a place of a unit
place_at : (n c i : ℕ) → c * (4 * n) / 4 + i ≡ n * c + i
place_at n c i =
    let e : c * (4 * n) ≡ n * c * 4 + 0 = grind arith in
    ap (λ m. m / 4 + i) e ∙ ap (λ m. m + i) (div-mul-add (n * c) 4 0 (omega arith))

-- how many a unit has of a side
places_in : (n c w : ℕ) → min (4 * n) (w - c * (4 * n)) / 4 ≡ min n (w / 4 - n * c)
places_in n c w = let e : c * (4 * n) ≡ 4 * (n * c) = grind arith in omega (arith, e)

-- a unit that isn't the last of a side has all of its places
whole_side : (m row h : ℕ) → 0 < m → row < (h + (m - 1)) / m → row * m < h
whole_side m row h some less =
    let low = div-mul-le_self (h + (m - 1)) m in
    let most : (row + 1) * m ≤ (h + (m - 1)) / m * m = mul-le-mul_right m (omega (arith, less)) in
    let next : (row + 1) * m ≡ row * m + m = grind arith in
    omega (arith, low, most, next, some)

before_last : (n row h : ℕ) → 0 < row → row * (4 * n) < h → min (4 * n) (h - (row - 1) * (4 * n)) / 4 ≡ n
before_last n zero h some inside = absurd (omega (arith, some))
before_last n (suc r) h some inside =
    let e : suc r - 1 ≡ r = omega arith in
    let m : suc r * (4 * n) ≡ r * (4 * n) + 4 * n = grind arith in
    ap (λ k. min (4 * n) (h - k * (4 * n)) / 4) e ∙ omega (arith, m, inside)

module _ (p : PicturePlan) (sps : IsSps p.sps) (pictures : ℕ) where
  abbrev s : FlightSizes
  s = flight_sizes p.sps pictures

  abbrev n : ℕ
  n = unit_places (picture_shape p.sps p.pps)

  whole : ctb_size s ≡ 4 * n
  unfolding picture_shape
  whole =
      let e : ctb_log2 p.sps.blocks ≡ 2 + (ctb_log2 p.sps.blocks - 2) = omega (arith, sps.blocks.least_ctb) in
      ap (λ k. 2 ^ k) e ∙ pow-add 2 2 (ctb_log2 p.sps.blocks - 2)

  pub column_at : (x i : ℕ) → x * ctb_size (flight_sizes p.sps pictures) / 4 + i
      ≡ unit_places (picture_shape p.sps p.pps) * x + i
  column_at x i = ap (λ m. x * m / 4 + i) whole ∙ place_at n x i

  pub across_is : (x : ℕ) → width_of (flight_sizes p.sps pictures) x / 4 ≡ places_across (picture_shape p.sps p.pps) x
  unfolding width_of picture_shape
  across_is x =
      ap (λ m. min m (p.sps.format.pic_width_in_luma_samples - x * m) / 4) whole
      ∙ places_in n x p.sps.format.pic_width_in_luma_samples

  down_is : (row : ℕ)
      → height_of s row / 4 ≡ min n ((picture_shape p.sps p.pps).down - n * row)
  unfolding height_of picture_shape
  down_is row =
      ap (λ m. min m (p.sps.format.pic_height_in_luma_samples - row * m) / 4) whole
      ∙ places_in n row p.sps.format.pic_height_in_luma_samples

  -- a place of a unit is one of the picture
  module _ (row x i j : ℕ) (less : x < width_in_ctbs p.sps) (across : i < width_of s x / 4)
      (down : j < height_of s row / 4) where
    abbrev shape : PictureShape
    shape = picture_shape p.sps p.pps

    abbrev address : ℕ
    address = row * width_in_ctbs p.sps + x

    left : first_column shape address ≡ n * x
    unfolding picture_shape
    left = ap (λ c. n * c) (mod-mul-add row (width_in_ctbs p.sps) x less)

    top : first_row shape address ≡ n * row
    unfolding picture_shape
    top = ap (λ r. n * r) (div-mul-add row (width_in_ctbs p.sps) x less)

    pub mine : is_of_unit (picture_shape p.sps p.pps) (row * width_in_ctbs p.sps + x)
        (unit_places (picture_shape p.sps p.pps) * x + i) (unit_places (picture_shape p.sps p.pps) * row + j) ≡ true
    mine =
        let a = across_is x in
        let d = down_is row in
        let column : ℕ = n * x + i in
        let lower : ℕ = n * row + j in
        let there : column < shape.across = omega (arith, across, a) in
        let below : lower < shape.down = omega (arith, down, d) in
        let from_left : first_column shape address ≤ column = omega (arith, left) in
        let to_right : column < first_column shape address + n = omega (arith, left, across, a) in
        let from_top : first_row shape address ≤ lower = omega (arith, top) in
        let to_bottom : lower < first_row shape address + n = omega (arith, top, down, d) in
        and_from _ _ (and_from _ _ (lt-ltb _ _ there) (lt-ltb _ _ below))
        (and_from _ _ (and_from _ _ (le-leb _ _ from_left) (lt-ltb _ _ to_right))
        (and_from _ _ (le-leb _ _ from_top) (lt-ltb _ _ to_bottom)))

  pub above_is : (row : ℕ) → 0 < row → row < height_in_ctbs p.sps
      → height_of (flight_sizes p.sps pictures) (row - 1) / 4 ≡ unit_places (picture_shape p.sps p.pps)
  unfolding height_of blocks_across
  above_is row some lower =
      let h : ℕ = p.sps.format.pic_height_in_luma_samples in
      let wide : 0 < ctb_size s = omega (arith, whole_some) in
      let inside : row * ctb_size s < h = whole_side (ctb_size s) row h wide lower in
      let turned : row * ctb_size s ≡ row * (4 * n) = ap (λ m. row * m) whole in
      ap (λ m. min m (h - (row - 1) * m) / 4) whole ∙ before_last n row h some (omega (arith, inside, turned))
    where
      whole_some : 1 ≤ ctb_size s
      whole_some = one-le-pow (ctb_log2 p.sps.blocks) 2 (omega arith)

module _ (f : PlannedFlight) (k : ℕ) (p : PicturePlan) (sps : IsSps p.sps)
    (has : slice_get f.pictures k ≡ Some p) (row x : ℕ) where
  abbrev sizes : FlightSizes
  sizes = flight_sizes p.sps (length f.pictures)

  abbrev values : PictureValues
  values = values_in p (folded_at f k)

  abbrev line : Line
  line = record { phase = B; picture = k; row = row }

  abbrev word_of : UnitContent → UnitWord
  word_of content = unit_word B k row x (index_of sizes (width_of sizes x) (height_of sizes row) x content)

  content_is : (content : UnitContent) → IsContent sizes (width_of sizes x) (height_of sizes row) x content
      → expected_content f k p row x content ≡ content_value sizes values line x content
  unfolding expected expected_word
  content_is content is =
      ap (λ o. expected_in f o (word_of content)) has
      ∙ ap (content_value sizes values line x)
      (content_found sizes (width_of sizes x) (height_of sizes row) x content is)

  module _ (i j : ℕ) (across : i < width_of (flight_sizes p.sps (length f.pictures)) x / 4)
      (down : j < height_of (flight_sizes p.sps (length f.pictures)) row / 4) where
    abbrev column : ℕ
    column = unit_places (picture_shape p.sps p.pps) * x + i

    abbrev lower : ℕ
    lower = unit_places (picture_shape p.sps p.pps) * row + j

    pub vectors_are : expected_content f k p row x (Vectors i j)
        ≡ vectors_word ((values_in p (folded_at f k)).motion (unit_places (picture_shape p.sps p.pps) * x + i)
        (unit_places (picture_shape p.sps p.pps) * row + j))
    vectors_are =
        content_is (Vectors i j) (across, down)
        ∙ ap (λ c. vectors_word (values.motion c (row * ctb_size sizes / 4 + j)))
        (column_at p sps (length f.pictures) x i)
        ∙ ap (λ r. vectors_word (values.motion column r)) (column_at p sps (length f.pictures) row j)

    pub modes_are : expected_content f k p row x (Modes i j)
        ≡ modes_word ((values_in p (folded_at f k)).modes (unit_places (picture_shape p.sps p.pps) * x + i)
        (unit_places (picture_shape p.sps p.pps) * row + j))
        ((values_in p (folded_at f k)).motion (unit_places (picture_shape p.sps p.pps) * x + i)
        (unit_places (picture_shape p.sps p.pps) * row + j))
    modes_are =
        content_is (Modes i j) (across, down)
        ∙ ap (λ c. modes_word (values.modes c (row * ctb_size sizes / 4 + j))
        (values.motion c (row * ctb_size sizes / 4 + j))) (column_at p sps (length f.pictures) x i)
        ∙ ap (λ r. modes_word (values.modes column r) (values.motion column r))
        (column_at p sps (length f.pictures) row j)

  pub first_is : expected_content f k p row x (Offsets 0) ≡ first_word ((values_in p (folded_at f k)).offsets x row)
  first_is = content_is (Offsets 0) (omega arith)

  pub second_is : expected_content f k p row x (Offsets 1) ≡ second_word ((values_in p (folded_at f k)).offsets x row)
  second_is = content_is (Offsets 1) (omega arith)

-- the words of the unit above
module _ (f : PlannedFlight) (k : ℕ) (p : PicturePlan) (sps : IsSps p.sps)
    (has : slice_get f.pictures k ≡ Some p) (row x : ℕ) (some : 0 < row) (lower : row < height_in_ctbs p.sps)
    (modes offsets : List ℕ) (are : AreExpectedAbove f k p row x modes offsets) where
  abbrev side : ℕ
  side = unit_places (picture_shape p.sps p.pps)

  wide : 1 ≤ side
  wide = one-le-pow (picture_shape p.sps p.pps).size 2 (omega arith)

  each_is : (i : ℕ) → i < length modes
      → slice_index modes i
      ≡ modes_word ((values_in p (folded_at f k)).modes (side * x + i) (side * row - 1))
      ((values_in p (folded_at f k)).motion (side * x + i) (side * row - 1))
  each_is i inside =
      let down = above_is p sps (length f.pictures) row some lower in
      are.each i inside
      ∙ modes_are f k p sps has (row - 1) x i (side - 1) (omega (arith, inside, are.count))
      (omega (arith, down, wide))
      ∙ ap (λ y. modes_word ((values_in p (folded_at f k)).modes (side * x + i) y)
      ((values_in p (folded_at f k)).motion (side * x + i) y)) (sym (last_row side row wide some))

  pub lowest : AreAbove (picture_shape p.sps p.pps) (values_in p (folded_at f k)) row x modes offsets
  lowest = record {
    count = are.count ∙ across_is p sps (length f.pictures) x;
    each = each_is;
    first = are.first ∙ first_is f k p sps has (row - 1) x;
    second = are.second ∙ second_is f k p sps has (row - 1) x;
  }
