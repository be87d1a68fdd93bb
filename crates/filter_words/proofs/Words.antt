-- What the loop filters ask of a sound unit of a flight is what its words on the board have.
use Rattle.std.proofs.Common.{◌≡◌, ℕ, ◌+◌, ◌*◌, ◌/◌, ◌<◌, ◌≤◌, true, Option, Some, None, is_some}
use Rattle.std.proofs.Common.{length, slice_get, refl, sym, ap, subst, ◌∙◌, arith}
use Rattle.std.proofs.lemmas.Bool.{and_from, le-leb, lt-ltb}
use Rattle.std.proofs.lemmas.Nat.{div-mul-add}
use Rattle.std.proofs.lemmas.Option.{slice_get_within}
use Rattle.hv_base.specs.declared.line.Line.{Line}
use Rattle.hv_base.specs.declared.line.Phase.{Phase}
use Rattle.hv_base.specs.declared.line.Phase.TheVariants.{B}
use Rattle.header_types.specs.declared.pps.PpsFields.{PpsFields}
use Rattle.header_types.specs.declared.sps.SpsFields.{SpsFields}
use Rattle.header_types.specs.SequenceParameterSets.{IsSps, blocks_across, ctb_log2, height_in_ctbs, width_in_ctbs}
use Rattle.picture_layout.proofs.Sizes.{four}
use Rattle.ctu_records.specs.declared.offset.Sao.{Sao}
use Rattle.plan_types.specs.declared.picture_plan.PicturePlan.{PicturePlan}
use Rattle.plan_types.specs.declared.segment_plan.SegmentPlan.{SegmentPlan}
use Rattle.spec_slice_data.specs.Segment.{PictureShape}
use Rattle.spec_picture_trees.specs.Places.{first_column, first_row, is_of_unit, unit_places}
use Rattle.spec_picture_trees.specs.Shapes.{picture_shape}
use Rattle.spec_known_units.specs.Known.{KnownUnit, units_known}
use Rattle.flight_facts.proofs.KnownPictureLaws.{has_segment}
use Rattle.sample_words.specs.declared.modes.PlaceModes.{PlaceModes}
use Rattle.sample_words.specs.declared.sizes.FlightSizes.{FlightSizes}
use Rattle.sample_words.specs.declared.unit_content.UnitContent.{UnitContent}
use Rattle.sample_words.specs.declared.unit_content.UnitContent.TheVariants.{Modes, Offsets}
use Rattle.sample_words.specs.Contents.{IsContent, PictureValues, content_value, expected_word}
use Rattle.sample_words.specs.Offsets.{first_word, sao_in, second_word}
use Rattle.sample_words.specs.Sizes.{IsFlight, columns, ctb_size, height_of, rows, width_of}
use Rattle.sample_words.specs.Values.{modes_in, modes_word}
use Rattle.sample_words.specs.Words.{line_units}
use Rattle.sample_words.proofs.Contents.{content_found}
use Rattle.sample_words.proofs.Motions.{modes_found}
use Rattle.sample_words.proofs.OffsetWords.{sao_found}
use Rattle.flight_facts.specs.SpecFlights.{PlannedFlight, folded_at}
use Rattle.flight_facts.specs.SpecFlights.{is_sound, is_sound_in, is_sound_of}
use Rattle.flight_facts.specs.SpecFlights.{expected, flight_sizes, values_in}
use Rattle.flight_facts.specs.FlightValueLaws.{FitWords}
use Rattle.flight_facts.proofs.FlightValueLawsValues.{values_fit}
use Rattle.line_words.specs.Places.{UnitAt, word_at}
use Rattle.flight_facts.specs.declared.flight_facts.FlightFacts.{FlightFacts}
use Rattle.flight_facts.specs.Facts.{flight_in}
use Rattle.flight_facts.specs.Flights.{IsOfFlight}
use Rattle.flight_facts.proofs.Laid.{board_sizes, picture_sizes, word_is}
use Rattle.board_core.specs.Places.{line_of}
use Rattle.filter_words.specs.Filters.{filter_place, filter_unit}
use Rattle.filter_words.specs.Placed.{content_index}
use Rattle.filter_words.specs.Units.{IsSoundUnit, across_of, column_of, down_of, filters_at}
use Rattle.filter_words.specs.Units.{places_at, row_of, unit_side}
use Rattle.filter_words.proofs.Back.{column_is, flight_place, flight_segment, flight_unit, in_picture, row_is}
use Rattle.filter_words.proofs.Placed.{row_modes}
use Rattle.filter_words.proofs.Sizes.{column_along, row_along, whole}

some_known : (o : Option KnownUnit) → is_some o ≡ true → (known : KnownUnit) × (o ≡ Some known)
some_known None e = absurd cc
some_known (Some known) e = (known, refl)

columns_are : (sps : SpsFields) (pictures : ℕ) → columns (flight_sizes sps pictures) ≡ width_in_ctbs sps
unfolding blocks_across columns
columns_are sps pictures = refl

rows_are : (sps : SpsFields) (pictures : ℕ) → rows (flight_sizes sps pictures) ≡ height_in_ctbs sps
unfolding blocks_across rows
rows_are sps pictures = refl

-- the side of a unit in places, and the sides of a picture
side_is : (sps : SpsFields) (pps : PpsFields) (pictures : ℕ) → IsSps sps
    → unit_places (picture_shape sps pps) ≡ unit_side (flight_sizes sps pictures)
unfolding picture_shape
side_is sps pps pictures is =
    let f = four (ctb_log2 sps.blocks) (omega (arith, is.blocks.least_ctb)) in omega (arith, f)

shape_across : (sps : SpsFields) (pps : PpsFields) (pictures : ℕ)
    → (picture_shape sps pps).across ≡ (flight_sizes sps pictures).width / 4
unfolding picture_shape
shape_across sps pps pictures = refl

shape_down : (sps : SpsFields) (pps : PpsFields) (pictures : ℕ)
    → (picture_shape sps pps).down ≡ (flight_sizes sps pictures).height / 4
unfolding picture_shape
shape_down sps pps pictures = refl

-- a place of a unit
place_at : (n k i : ℕ) → k * (4 * n) / 4 + i ≡ n * k + i
place_at n k i =
    let e : k * (4 * n) ≡ n * k * 4 + 0 = grind arith in
    ap (λ m. m / 4 + i) e ∙ ap (λ m. m + i) (div-mul-add (n * k) 4 0 (omega arith))

-- the words of a flight are laid out by sizes that may be
pub flight_sized : (facts : FlightFacts) (s : FlightSizes) → IsOfFlight facts s → IsFlight s
flight_sized facts s is =
    let has = board_sizes facts s is in
    subst (λ (t : FlightSizes). IsFlight t) has.0 has.1.sizes

-- a word of a unit, by its place among the unit's words
pub read_at : (facts : FlightFacts) (u at : UnitAt) (first k n : ℕ) → at ≡ u → first + k ≡ n
    → expected (flight_in facts) (word_at at (first + k)) ≡ expected (flight_in facts) (word_at u n)
read_at facts u at first k n same place =
    ap (λ (v : UnitAt). expected (flight_in facts) (word_at v (first + k))) same
    ∙ ap (λ m. expected (flight_in facts) (word_at u m)) place

module _ (facts : FlightFacts) (p : PicturePlan) (u : UnitAt) (is : IsSoundUnit facts p u) where
  abbrev f : PlannedFlight
  f = flight_in facts

  abbrev k : ℕ
  k = u.line.picture

  abbrev values : PictureValues
  values = values_in p (folded_at (flight_in facts) u.line.picture)

  abbrev sps : IsSps p.sps
  sps = (is.flight.range.plans u.line.picture p is.picture).sps

  sizes_are : u.sizes ≡ flight_sizes p.sps (length (flight_in facts).pictures)
  sizes_are = picture_sizes facts u.sizes u.line.picture p is.flight is.picture

  pub are_sizes : IsFlight u.sizes
  are_sizes = flight_sized facts u.sizes is.flight

  -- where it stands
  pub column_inside : u.unit < columns u.sizes
  column_inside = subst (λ (t : Phase). u.unit < line_units u.sizes t) is.phase is.unit.unit

  column_less : u.unit < width_in_ctbs p.sps
  column_less =
      let e = ap (λ (s : FlightSizes). columns s) sizes_are ∙ columns_are p.sps (length f.pictures) in
      let less = column_inside in
      omega (arith, e, less)

  row_less : u.line.row < height_in_ctbs p.sps
  row_less =
      let e = ap (λ (s : FlightSizes). rows s) sizes_are ∙ rows_are p.sps (length f.pictures) in
      omega (arith, e, is.unit.line.row)

  abbrev address : ℕ
  address = u.line.row * width_in_ctbs p.sps + u.unit

  is_known : is_some (units_known p address) ≡ true
  unfolding is_sound
  is_known =
      sym (ap (λ o. is_sound_of o u.line u.unit) is.picture
      ∙ ap (λ (t : Phase). is_sound_in p t u.line.row u.unit) is.phase)
      ∙ is.sound

  known : (unit : KnownUnit) × (units_known p address ≡ Some unit)
  known = some_known (units_known p address) is_known

  inside : address < width_in_ctbs p.sps * height_in_ctbs p.sps
  inside = in_picture (width_in_ctbs p.sps) (height_in_ctbs p.sps) u.line.row u.unit row_less column_less

  segment : (s : SegmentPlan) × (slice_get p.segments known.0.segment ≡ Some s)
  segment = let own = has_segment p address known.0 inside known.1 in (own.0, own.1)

  -- a word of the unit, by its content
  abbrev line : Line
  line = line_of B u.line.picture u.line.row

  line_is : u.line ≡ line
  line_is = λ i. record u.line { phase = is.phase i }

  abbrev wide : ℕ
  wide = width_of u.sizes u.unit

  abbrev high : ℕ
  high = height_of u.sizes u.line.row

  content_is : (content : UnitContent) → IsContent u.sizes wide high u.unit content
      → expected (flight_in facts) (word_at u (content_index u content))
      ≡ content_value u.sizes values line u.unit content
  unfolding expected_word
  content_is content there =
      word_is facts u.sizes p (word_at u (content_index u content)) is.flight is.picture
      ∙ ap (λ (l : Line). expected_word u.sizes (λ j. values_in p (folded_at f j))
      (record { line = l; unit = u.unit; index = content_index u content })) line_is
      ∙ ap (content_value u.sizes values line u.unit) (content_found u.sizes wide high u.unit content there)

  fits : FitWords (flight_sizes p.sps (length (flight_in facts).pictures)) values
  fits = values_fit f is.flight.range k p is.picture

  -- its places
  place_column : (i : ℕ) → u.unit * ctb_size u.sizes / 4 + i ≡ column_of u + i
  place_column i =
      ap (λ m. u.unit * m / 4 + i) (whole u.sizes are_sizes) ∙ place_at (unit_side u.sizes) u.unit i

  place_row : (j : ℕ) → u.line.row * ctb_size u.sizes / 4 + j ≡ row_of u + j
  place_row j =
      ap (λ m. u.line.row * m / 4 + j) (whole u.sizes are_sizes) ∙ place_at (unit_side u.sizes) u.line.row j

  abbrev shape : PictureShape
  shape = picture_shape p.sps p.pps

  side : unit_places shape ≡ unit_side u.sizes
  side = side_is p.sps p.pps (length f.pictures) sps ∙ ap (λ (s : FlightSizes). unit_side s) (sym sizes_are)

  left : first_column shape address ≡ column_of u
  left = ap (λ k. unit_places shape * k) (column_is p u.line.row u.unit column_less) ∙ ap (λ n. n * u.unit) side

  top : first_row shape address ≡ row_of u
  top = ap (λ k. unit_places shape * k) (row_is p u.line.row u.unit column_less) ∙ ap (λ n. n * u.line.row) side

  wide_shape : shape.across ≡ u.sizes.width / 4
  wide_shape =
      shape_across p.sps p.pps (length f.pictures) ∙ ap (λ (s : FlightSizes). s.width / 4) (sym sizes_are)

  high_shape : shape.down ≡ u.sizes.height / 4
  high_shape =
      shape_down p.sps p.pps (length f.pictures) ∙ ap (λ (s : FlightSizes). s.height / 4) (sym sizes_are)

  mine : (i j : ℕ) → i < across_of u → j < down_of u
      → is_of_unit (picture_shape p.sps p.pps) address (column_of u + i) (row_of u + j) ≡ true
  mine i j across down =
      let a = column_along u.sizes are_sizes u.unit column_inside in
      let d = row_along u.sizes are_sizes u.line.row is.unit.line.row in
      let column : ℕ = column_of u + i in
      let row : ℕ = row_of u + j in
      let there : column < shape.across = omega (arith, across, a.ends, wide_shape) in
      let below : row < shape.down = omega (arith, down, d.ends, high_shape) in
      let from_left : first_column shape address ≤ column = omega (arith, left) in
      let to_right : column < first_column shape address + unit_places shape =
      omega (arith, left, side, across, a.few) in
      let from_top : first_row shape address ≤ row = omega (arith, top) in
      let to_bottom : row < first_row shape address + unit_places shape = omega (arith, top, side, down, d.few) in
      and_from _ _ (and_from _ _ (lt-ltb _ _ there) (lt-ltb _ _ below))
      (and_from _ _ (and_from _ _ (le-leb _ _ from_left) (lt-ltb _ _ to_right))
      (and_from _ _ (le-leb _ _ from_top) (lt-ltb _ _ to_bottom)))

  -- a word of the modes of a place
  abbrev pub IsRead : ℕ → ℕ → ℕ → Type 0
  IsRead i j word =
      word ≡ expected (flight_in facts) (word_at u (content_index u (Modes 0 0) + j * across_of u + i))

  module _ (i j word : ℕ) (across : i < across_of u) (down : j < down_of u) (read : IsRead i j word) where
    abbrev column : ℕ
    column = column_of u + i

    abbrev row : ℕ
    row = row_of u + j

    word_read : word ≡ modes_word (values.modes column row) (values.motion column row)
    word_read =
        read
        ∙ ap (λ n. expected f (word_at u n)) (row_modes u.sizes wide high u.unit i j)
        ∙ content_is (Modes i j) (across, down)
        ∙ ap (λ c. modes_word (values.modes c (u.line.row * ctb_size u.sizes / 4 + j))
        (values.motion c (u.line.row * ctb_size u.sizes / 4 + j))) (place_column i)
        ∙ ap (λ r. modes_word (values.modes column r) (values.motion column r)) (place_row j)

    modes_read : modes_in word ≡ values.modes column row
    modes_read =
        ap modes_in word_read
        ∙ modes_found (values.modes column row) (values.motion column row) (fits.modes column row)
        (fits.motion column row)

    segment_read : (modes_in word).segment ≡ known.0.segment
    segment_read =
        ap (λ (m : PlaceModes). m.segment) modes_read
        ∙ flight_segment f is.flight.range k p is.picture address known.0 inside known.1 column row
        (mine i j across down)

    pub segment_inside : (modes_in word).segment < length p.segments
    segment_inside =
        let e = segment_read in
        let less = slice_get_within p.segments known.0.segment segment.0 segment.1 in
        omega (arith, e, less)

    pub place_is_read : filter_place p (modes_in word) ≡ places_at facts u.line (column_of u + i) (row_of u + j)
    place_is_read =
        ap (filter_place p) modes_read
        ∙ sym (flight_place f is.flight.range k p is.picture address known.0 inside known.1 column row
        (mine i j across down))

    -- its components, by the words of its offsets
    pub unit_is_read : (first second c : ℕ)
        → first ≡ expected (flight_in facts) (word_at u (content_index u (Offsets 0)))
        → second ≡ expected (flight_in facts) (word_at u (content_index u (Offsets 1))) → c < 3
        → filter_unit p (modes_in word).segment (sao_in first second) c
        ≡ (filters_at facts u.line).units c u.unit u.line.row
    unit_is_read first second c one two few =
        let sao : Sao = values.offsets u.unit u.line.row in
        let a : first ≡ first_word sao = one ∙ content_is (Offsets 0) (omega arith) in
        let b : second ≡ second_word sao = two ∙ content_is (Offsets 1) (omega arith) in
        ap (λ n. filter_unit p n (sao_in first second) c) segment_read
        ∙ ap (λ n. filter_unit p known.0.segment (sao_in n second) c) a
        ∙ ap (λ n. filter_unit p known.0.segment (sao_in (first_word sao) n) c) b
        ∙ ap (λ o. filter_unit p known.0.segment o c) (sao_found sao (fits.offsets u.unit u.line.row))
        ∙ sym (flight_unit f is.flight.range k p is.picture u.line.row u.unit c known.0 row_less column_less few
        known.1)

  -- the places of the unit are of one segment
  pub same_segment : (i m j word other : ℕ) → i < across_of u → m < across_of u → j < down_of u → IsRead i j word
      → IsRead m j other → (modes_in word).segment ≡ (modes_in other).segment
  same_segment i m j word other across too down read again =
      segment_read i j word across down read ∙ sym (segment_read m j other too down again)
