-- A known unit is decoded from what agrees with the flight's pictures at the units that building it uses.
use Rattle.std.proofs.Common.{◌≡◌, ℕ, ◌+◌, ◌*◌, ◌/◌, ◌%◌, ◌^◌, ◌<◌, ◌≤◌, ◌⊎◌}
use Rattle.std.proofs.Common.{true, List, length, get_or, Option, Some, None, slice_get}
use Rattle.std.proofs.Common.{nat_lt, inl, inr, refl, sym, ap, subst, ◌∙◌, arith}
use Rattle.std.specs.Option.{option_and_then, option_map}
use Rattle.std.proofs.Math.Nat.{mul-le-mul_left}
use Rattle.std.proofs.lemmas.Bool.{and_parts, ltb-true}
use Rattle.std.proofs.lemmas.List.{length-map}
use Rattle.std.proofs.lemmas.List.FromFn.{get_or-map-range_with_len}
use Rattle.std.proofs.lemmas.Nat.{div-mul-add, mod-mul-add, pow_pos}
use Rattle.std.proofs.lemmas.Option.{slice_get-map, slice_get_cases}
use Rattle.hv_base.specs.declared.line.Line.{Line}
use Rattle.hv_base.specs.declared.line.Phase.TheVariants.{B}
use Rattle.header_types.specs.declared.reference_pictures.RefEntry.{RefEntry}
use Rattle.header_types.specs.SequenceParameterSets.{IsSps, blocks_across, ctb_log2, height_in_ctbs, size_in_ctbs}
use Rattle.header_types.specs.SequenceParameterSets.{width_in_ctbs}
use Rattle.plan_types.specs.declared.picture_plan.PicturePlan.{PicturePlan}
use Rattle.plan_types.specs.declared.segment_plan.SegmentPlan.{SegmentPlan}
use Rattle.known_picture_laws.specs.SpecSliceData.{samples_of_place}
use Rattle.known_picture_laws.specs.SpecSliceData.{PictureShape, column_of, row_of}
use Rattle.known_picture_laws.specs.SpecPictureTrees.{first_column, first_row, has_place, unit_places}
use Rattle.known_picture_laws.specs.SpecPictureTrees.{picture_shape, slice_start}
use Rattle.known_picture_laws.proofs.PictureLayoutLemmas.{covers, whole_width}
use Rattle.known_picture_laws.specs.SpecKnownUnits.{KnownUnit, units_known}
use Rattle.known_picture_laws.specs.SpecPictureMotion.{collocated_motions}
use Rattle.known_picture_laws.specs.SpecPictureMotion.{collocated_entry}
use Rattle.known_picture_laws.specs.SpecPictureBuild.{has_sample, unit_side, width_of as samples_wide}
use Rattle.known_picture_laws.specs.SpecPictureBuild.{DecodedPicture, motions_in, motions_of}
use Rattle.known_picture_laws.specs.SpecDecodedPictures.{DecodedUnits, decoded_by}
use Rattle.known_picture_laws.specs.SpecFlights.{BufferPicture, kept_as}
use Rattle.known_picture_laws.specs.LocalityLaws.{SamplesAgreeBeside, is_at_border}
use Rattle.known_picture_laws.specs.LocalityLaws.{MotionAgreesBeneath, MotionAgreesBeside}
use Rattle.known_picture_laws.proofs.LocalityLaws.{some_places}
use Rattle.known_picture_laws.proofs.LocalityLaws.{some_side}
use Rattle.flight_plan.specs.Flight.{FlightRows, PictureRows, picture_at}
use Rattle.flight_plan.specs.declared.row_range.Reference.{Reference}
use Rattle.flight_plan.specs.declared.row_range.Reference.TheVariants.{Base, Flight}
use Rattle.board_core.specs.Needs.{collocated_of, unit_in_picture}
use Rattle.board_core.specs.Places.{IsLine, line_of}
use Rattle.board_core.specs.Uses.{Collocated, Reading}
use Rattle.known_picture_laws.specs.SpecFlights.{PlannedFlight, buffer_before, folded_at, known_decoded}
use Rattle.known_picture_laws.specs.SpecFlights.{pictures_before}
use Rattle.known_picture_laws.specs.SpecFlights.{collocated_at, collocated_by, named, names_before, picture_named}
use Rattle.known_picture_laws.specs.SpecFlights.{segment_of}
use Rattle.known_picture_laws.specs.SpecFlights.{flight_rows, rows_in}
use Rattle.known_picture_laws.specs.FilterData.{is_directly_beside, is_place_beside}
use Rattle.known_picture_laws.proofs.Segments.{has_segment}
use Rattle.flight_unit_laws.specs.Planned.{IsPlanned}
use Rattle.flight_unit_laws.specs.Uses.{AgreeWhereUsed, BuffersAgree, NamedAgree, UsesTree}
use Rattle.flight_unit_laws.proofs.Border.{beside_used, block_is, border_used, not_far}
use Rattle.flight_unit_laws.proofs.Names.{all_named}
use Rattle.flight_unit_laws.proofs.Pictures.{height_is, rows_are, width_is}
use Rattle.flight_unit_laws.proofs.Sound.{in_picture}

-- the columns of units in which samples and places of a picture lie
module _ (p : PicturePlan) (sps : IsSps p.sps) where
  abbrev shape : PictureShape
  shape = picture_shape p.sps p.pps

  pub wide_is : shape.width ≡ width_in_ctbs p.sps
  unfolding picture_shape
  wide_is = refl

  across_fits : shape.across ≤ unit_places shape * width_in_ctbs p.sps
  unfolding picture_shape
  across_fits =
      let some = pow_pos (ctb_log2 p.sps.blocks) in
      covers p.sps.format.pic_width_in_luma_samples (ctb_log2 p.sps.blocks) (omega (arith, sps.blocks.least_ctb))
      (omega (arith, some)) (whole_width p.sps sps)

  pub place_column : (y z : ℕ) → has_place shape y z ≡ true → y / unit_places shape < width_in_ctbs p.sps
  place_column y z there =
      let less : y < shape.across = ltb-true _ _ (and_parts (nat_lt y shape.across) _ there).0 in
      not_far (unit_places shape) (width_in_ctbs p.sps) y (some_places shape) (omega (arith, less, across_fits))

  pub sample_column : (c y z : ℕ) → has_sample shape c y z ≡ true → y / unit_side shape c < width_in_ctbs p.sps
  unfolding has_sample
  sample_column c y z there =
      let tests = and_parts (nat_lt c 3) _ there in
      let less : y < samples_of_place c * shape.across =
      ltb-true _ _ (and_parts (nat_lt y (samples_wide shape c)) _ tests.1).0 in
      let most : samples_of_place c * shape.across
      ≤ samples_of_place c * (unit_places shape * width_in_ctbs p.sps) =
      mul-le-mul_left (samples_of_place c) across_fits in
      let turned : samples_of_place c * (unit_places shape * width_in_ctbs p.sps)
      ≡ samples_of_place c * unit_places shape * width_in_ctbs p.sps =
      grind arith in
      not_far (unit_side shape c) (width_in_ctbs p.sps) y (some_side shape c) (omega (arith, less, most, turned))

-- what stands at a place of the buffer before a picture and of another one
pub record AtPlace (f : PlannedFlight) (l : Line) (x k : ℕ) (p : PicturePlan) (others : List DecodedPicture) (i : ℕ)
    : Type 0 where
  pub name : Reference
  pub mine : DecodedPicture
  pub other : DecodedPicture
  pub name_is : slice_get (names_before f k) i ≡ Some name
  pub mine_is : slice_get (pictures_before f k) i ≡ Some mine
  pub other_is : slice_get others i ≡ Some other
  pub agree : NamedAgree f l x p name mine other

-- a unit of a picture of a flight
module _ (f : PlannedFlight) (planned : IsPlanned f) (k row x : ℕ) (p : PicturePlan)
    (has : slice_get f.pictures k ≡ Some p) (row_inside : row < height_in_ctbs p.sps)
    (inside : x < width_in_ctbs p.sps) where
  abbrev plan : FlightRows
  plan = flight_rows f

  abbrev l : Line
  l = line_of B k row

  abbrev a : ℕ
  a = row * width_in_ctbs p.sps + x

  abbrev s0 : IsSps p.sps
  s0 = planned.sps k p has

  column_is : column_of (shape p s0) a ≡ x
  column_is = ap (λ w. a % w) (wide_is p s0) ∙ mod-mul-add row (width_in_ctbs p.sps) x inside

  row_is : row_of (shape p s0) a ≡ row
  row_is = ap (λ w. a / w) (wide_is p s0) ∙ div-mul-add row (width_in_ctbs p.sps) x inside

  in_width : (column : ℕ) → column < width_in_ctbs p.sps → column < (picture_at plan k).width
  in_width column less = let w = width_is f k p has in omega (arith, w, less)

  -- what is at the border in units of any side is used
  border_is : (n y z : ℕ) → 1 ≤ n → y / n < width_in_ctbs p.sps
      → is_at_border n (n * column_of (shape p s0) a) (n * row_of (shape p s0) a) y z ≡ true
      → UsesTree f l x k (y / n) (z / n)
  border_is n y z some less border =
      Reading (border_used plan k row x n y z some (in_width (y / n) less)
      (ap (λ c. is_at_border n (n * c) (n * row) y z) (sym column_is)
      ∙ ap (λ r. is_at_border n (n * column_of (shape p s0) a) (n * r) y z) (sym row_is) ∙ border))

  beside_is : (y z : ℕ) → is_place_beside (shape p s0) a y z ≡ true → has_place (shape p s0) y z ≡ true
      → UsesTree f l x k (y / unit_places (shape p s0)) (z / unit_places (shape p s0))
  beside_is y z t there =
      let n : ℕ = unit_places (shape p s0) in
      let beside = (and_parts (has_place (shape p s0) y z) _ t).1 in
      Reading (beside_used plan k row x (unit_places (shape p s0)) y z (some_places (shape p s0))
      (in_width (y / unit_places (shape p s0)) (place_column p s0 y z there))
      (ap (λ c. is_directly_beside n (n * c) (n * row) y z) (sym column_is)
      ∙ ap (λ r. is_directly_beside n (n * column_of (shape p s0) a) (n * r) y z) (sym row_is) ∙ beside))

  module _ (g : DecodedUnits) (own : AgreeWhereUsed f l x k p (folded_at f k) g) where
    pub samples_beside : (slice : ℕ) → SamplesAgreeBeside (shape p s0) slice a (folded_at f k).samples g.samples
    samples_beside slice c y z border there =
        own.samples c y z (λ t.
        border_is (unit_side (shape p s0) c) y z (some_side (shape p s0) c) (sample_column p s0 c y z t) border)

    pub motions_beside : (slice : ℕ) → MotionAgreesBeside (shape p s0) slice a (folded_at f k).motions g.motions
    motions_beside slice y z border there =
        own.motions y z (λ t.
        border_is (unit_places (shape p s0)) y z (some_places (shape p s0)) (place_column p s0 y z t) border)

    pub edges_beside : (y z : ℕ) → is_place_beside (shape p s0) a y z ≡ true
        → (folded_at f k).motions y z ≡ g.motions y z
    edges_beside y z t = own.motions y z (beside_is y z t)

    pub coded_beside : (y z : ℕ) → is_place_beside (shape p s0) a y z ≡ true
        → (folded_at f k).filters.coded y z ≡ g.filters.coded y z
    coded_beside y z t = own.coded y z (beside_is y z t)

  module _ (others : List DecodedPicture) (buffers : BuffersAgree f l x k p others) where
    abbrev buffer : List DecodedPicture
    buffer = pictures_before f k

    abbrev names : List Reference
    names = names_before f k

    names_long : length names ≡ length buffer
    names_long =
        sym (length-map names (picture_named f)) ∙ ap (λ (o : List (Option BufferPicture)). length o) (all_named f k)
        ∙ length-map (buffer_before f k) Some ∙ sym (length-map (buffer_before f k) (λ (b : BufferPicture). b.picture))

    pub at_place : (i : ℕ)
        → ((slice_get buffer i ≡ None) × (slice_get others i ≡ None)) ⊎ AtPlace f l x k p others i
    at_place i =
        elim ((slice_get_cases buffer i).1) [
          | inl mine ↦
              elim ((slice_get_cases others i).1) [
                | inl other ↦
                    elim ((slice_get_cases names i).1) [
                      | inl name ↦
                          inr (record {
                            name = name.0;
                            mine = mine.0;
                            other = other.0;
                            name_is = name.2;
                            mine_is = mine.2;
                            other_is = other.2;
                            agree = buffers.each i name.0 mine.0 other.0 name.2 mine.2 other.2;
                          })
                      | inr past ↦ absurd (omega (arith, past.0, mine.1, names_long))
                    ]
                | inr past ↦ absurd (omega (arith, past.0, mine.1, buffers.long))
              ]
          | inr past ↦
              elim ((slice_get_cases others i).1) [
                | inl other ↦ absurd (omega (arith, other.1, past.0, buffers.long))
                | inr none ↦ inl (past.1, none.1)
              ]
        ]

    -- a name of a picture of the flight is of one that has the flight's format
    as_named : (j : ℕ) (o : Option PicturePlan) (b : BufferPicture) → slice_get f.pictures j ≡ o
        → option_map (λ q. kept_as q (known_decoded (pictures_before f j) q)) o ≡ Some b
        → (q : PicturePlan) × (slice_get f.pictures j ≡ Some q) × (b.picture.format ≡ p.sps.format)
    unfolding decoded_by
    as_named j None b here e = absurd cc
    as_named j (Some q) b here e =
        let same : kept_as q (known_decoded (pictures_before f j) q) ≡ b = cc in (
          q,
          here,
          ap (λ (c : BufferPicture). c.picture.format) (sym same) ∙ planned.formats j k q p here has,
        )

    of_buffer : (j i : ℕ) (o : Option BufferPicture) → slice_get (buffer_before f k) i ≡ o
        → slice_get names i ≡ Some (Flight j) → (m : DecodedPicture)
        → option_map (λ (b : BufferPicture). b.picture) o ≡ Some m
        → (q : PicturePlan) × (slice_get f.pictures j ≡ Some q) × (m.format ≡ p.sps.format)
    of_buffer j i None there name m e = absurd cc
    of_buffer j i (Some b) there name m e =
        let is : b.picture ≡ m = cc in
        let both : option_map (picture_named f) (slice_get names i)
        ≡ option_map Some (slice_get (buffer_before f k) i) =
        sym (slice_get-map (picture_named f) names i)
        ∙ ap (λ (o : List (Option BufferPicture)). slice_get o i) (all_named f k)
        ∙ slice_get-map Some (buffer_before f k) i in
        let at : Some (picture_named f (Flight j)) ≡ Some (Some b) =
        ap (option_map (picture_named f)) (sym name) ∙ both
        ∙ ap (option_map (λ (c : BufferPicture). Some c)) there in
        let stands : picture_named f (Flight j) ≡ Some b = cc in
        let found = as_named j (slice_get f.pictures j) b refl stands in
        (found.0, found.1, ap (λ (d : DecodedPicture). d.format) (sym is) ∙ found.2)

    pub named_plan : (j i : ℕ) (m : DecodedPicture) → slice_get names i ≡ Some (Flight j)
        → slice_get buffer i ≡ Some m
        → (q : PicturePlan) × (slice_get f.pictures j ≡ Some q) × (m.format ≡ p.sps.format)
    named_plan j i m name mine =
        of_buffer j i (slice_get (buffer_before f k) i) refl name m
        (sym (slice_get-map (λ (b : BufferPicture). b.picture) (buffer_before f k) i) ∙ mine)

    -- the rows of such a picture are as many, and as long
    as_high : (j : ℕ) (q : PicturePlan) → slice_get f.pictures j ≡ Some q
        → height_in_ctbs p.sps ≡ (picture_at plan j).rows
    as_high j q there =
        let h = height_is f j q there in
        let e = planned.formats k j p q has there in
        let b = planned.blocks k j p q has there in
        ap (λ g. blocks_across (2 ^ ctb_log2 p.sps.blocks) g.pic_height_in_luma_samples) e
        ∙ ap (λ c. blocks_across (2 ^ ctb_log2 c) q.sps.format.pic_height_in_luma_samples) b ∙ sym h

    as_wide : (j : ℕ) (q : PicturePlan) → slice_get f.pictures j ≡ Some q
        → width_in_ctbs p.sps ≡ (picture_at plan j).width
    as_wide j q there =
        let w = width_is f j q there in
        let e = planned.formats k j p q has there in
        let b = planned.blocks k j p q has there in
        ap (λ g. blocks_across (2 ^ ctb_log2 p.sps.blocks) g.pic_width_in_luma_samples) e
        ∙ ap (λ c. blocks_across (2 ^ ctb_log2 c) q.sps.format.pic_width_in_luma_samples) b ∙ sym w

    module _ (known : KnownUnit) (is : units_known p a ≡ Some known) (s : SegmentPlan)
        (of : slice_get p.segments known.segment ≡ Some s) where
      abbrev entry : Option RefEntry
      entry = collocated_entry s.header.slice (slice_start p s).lists

      in_it : a < size_in_ctbs p.sps
      in_it = in_picture f k row x p has row_inside inside

      segment_is : segment_of p a ≡ Some s
      segment_is =
          let found = has_segment p a known in_it is in
          let same : found.0 ≡ s = let e : Some found.0 ≡ Some s = sym found.1 ∙ of in cc in
          found.2 ∙ ap (λ (t : SegmentPlan). Some t) same

      collocated_is : (e : RefEntry) (r : Reference) → entry ≡ Some e → slice_get names e.place ≡ Some r
          → collocated_of plan l x ≡ Some r
      unfolding rows_in collocated_at
      collocated_is e r here name =
          let w = width_is f k p has in
          let place : unit_in_picture plan l x ≡ a = ap (λ n. row * n + x) w in
          ap (λ (q : PictureRows). get_or q.collocated (unit_in_picture plan l x) None) (rows_are f k p has)
          ∙ get_or-map-range_with_len (collocated_at names p) 0 (size_in_ctbs p.sps) (unit_in_picture plan l x) a None
          (omega (arith, place, in_it)) (omega (arith, place))
          ∙ ap (option_and_then (collocated_by names p)) segment_is
          ∙ ap (option_and_then (named names)) here
          ∙ name

      -- a place beneath the unit, in a picture of the flight
      beneath_used : (j column down : ℕ) → collocated_of plan l x ≡ Some (Flight j)
          → IsLine plan (line_of B j row) → width_in_ctbs p.sps ≡ (picture_at plan j).width
          → 4 * down < unit_places (shape p s0)
          → has_place (shape p s0) (first_column (shape p s0) a + 4 * column) (first_row (shape p s0) a + 4 * down)
          ≡ true
          → UsesTree f l x j ((first_column (shape p s0) a + 4 * column) / unit_places (shape p s0))
          ((first_row (shape p s0) a + 4 * down) / unit_places (shape p s0))
      beneath_used j column down named_so line wide low there =
          let n : ℕ = unit_places (shape p s0) in
          let begins : first_row (shape p s0) a ≡ unit_places (shape p s0) * row =
          ap (λ r. unit_places (shape p s0) * r) row_is in
          let at : (first_row (shape p s0) a + 4 * down) / unit_places (shape p s0) ≡ row =
          block_is (unit_places (shape p s0)) row (first_row (shape p s0) a + 4 * down) (omega (arith, begins))
          (omega (arith, begins, low)) in
          let less = place_column p s0 (first_column (shape p s0) a + 4 * column) (first_row (shape p s0) a + 4 * down)
          there in
          Collocated j named_so (ap (λ r. line_of B j r) at)
          (subst (λ r. IsLine plan (line_of B j r)) (sym at) line) (omega (arith, wide, less))

      by_name : (e : RefEntry) → entry ≡ Some e → (r : Reference) (m o : DecodedPicture)
          → slice_get names e.place ≡ Some r → slice_get buffer e.place ≡ Some m → NamedAgree f l x p r m o
          → MotionAgreesBeneath (shape p s0) a m.motions o.motions
      by_name e here (Base place) m o name mine agree column down near low =
          ap (λ (d : DecodedPicture).
          d.motions (first_column (shape p s0) a + 4 * column) (first_row (shape p s0) a + 4 * down)) agree
      by_name e here (Flight j) m o name mine agree column down near low =
          let found = named_plan j e.place m name mine in
          let high = as_high j found.0 found.1 in
          let line : row < (picture_at plan j).rows = omega (arith, high, row_inside) in
          agree.motions (first_column (shape p s0) a + 4 * column) (first_row (shape p s0) a + 4 * down) (λ there.
          beneath_used j column down (collocated_is e (Flight j) here name) line (as_wide j found.0 found.1) low there)

      by_entry : (o : Option RefEntry) → entry ≡ o
          → MotionAgreesBeneath (shape p s0) a (collocated_motions (motions_of buffer) o)
          (collocated_motions (motions_of others) o)
      by_entry None here = λ column down near low. refl
      by_entry (Some e) here =
          elim (at_place e.place) [
            | inl none ↦ λ column down near low.
                ap (λ o. motions_in o (first_column (shape p s0) a + 4 * column)
                (first_row (shape p s0) a + 4 * down)) (none.0 ∙ sym none.1)
            | inr at ↦ λ column down near low.
                ap (λ o. motions_in o (first_column (shape p s0) a + 4 * column)
                (first_row (shape p s0) a + 4 * down)) at.mine_is
                ∙ by_name e here at.name at.mine at.other at.name_is at.mine_is at.agree column down near low
                ∙ sym (ap (λ o. motions_in o (first_column (shape p s0) a + 4 * column)
                (first_row (shape p s0) a + 4 * down)) at.other_is)
          ]

      pub motion_beneath : MotionAgreesBeneath (shape p s0) a (collocated_motions (motions_of buffer) entry)
          (collocated_motions (motions_of others) entry)
      motion_beneath = by_entry entry refl
