-- A row of a loop filter is made from what agrees with the flight's pictures at the units that filtering it uses.
use Rattle.std.proofs.Common.{◌≡◌, ℕ, ◌+◌, ◌-◌, ◌*◌, ◌/◌, ◌%◌, ◌^◌, ◌<◌, ◌≤◌, ◌==◌, Bool, true, false}
use Rattle.std.proofs.Common.{nat_lt}
use Rattle.std.proofs.Common.{Some, slice_get, if◌then◌else◌, inl, inr, refl, sym, ap, ◌∙◌, arith}
use Rattle.std.proofs.Math.Nat.{mod-lt, mul-le-mul_left, mul-le-mul_right}
use Rattle.std.proofs.lemmas.Bool.{and_parts, cases_lt, eq-eqb, eqb-true, ltb-true}
use Rattle.std.proofs.lemmas.Nat.{div-add-mod', mod-mul-add, pow-add, pow_pos}
use Rattle.hv_base.specs.declared.line.Line.{Line}
use Rattle.hv_base.specs.declared.line.Phase.TheVariants.{B, V, H, S}
use Rattle.header_types.specs.SequenceParameterSets.{IsSps, ctb_log2, height_in_ctbs, min_cb_log2}
use Rattle.header_types.specs.SequenceParameterSets.{width_in_ctbs}
use Rattle.plan_types.specs.declared.picture_plan.PicturePlan.{PicturePlan}
use Rattle.known_picture_laws.specs.SpecSliceData.{samples_of_place}
use Rattle.known_picture_laws.specs.SpecSliceData.{PictureShape}
use Rattle.known_picture_laws.specs.SpecPictureTrees.{has_place, unit_places}
use Rattle.known_picture_laws.specs.SpecPictureTrees.{picture_shape}
use Rattle.known_picture_laws.proofs.PictureLayoutLemmas.{covers, four, whole_height}
use Rattle.known_picture_laws.specs.SpecDeblocking.{Place}
use Rattle.known_picture_laws.specs.SpecLoopFilters.{FilterFormat}
use Rattle.known_picture_laws.specs.SpecLoopFilters.{height_of, luma_samples, offset_plane, size_of, width_of}
use Rattle.known_picture_laws.specs.FilterLocalityLaws.{IsFilterFormat, IsOfRow, IsPlaceOfRow}
use Rattle.known_picture_laws.proofs.FilterLocalityLawsLemmas.{horizontal_row, offset_row, vertical_row}
use Rattle.known_picture_laws.specs.SpecPictureFilters.{FilterData}
use Rattle.known_picture_laws.specs.SpecPictureFilters.{filter_format, loop_filters}
use Rattle.known_picture_laws.specs.SpecPictureBuild.{Samples, has_sample, unit_side}
use Rattle.known_picture_laws.specs.SpecDecodedPictures.{DecodedUnits}
use Rattle.known_picture_laws.proofs.LocalityLaws.{some_places}
use Rattle.known_picture_laws.proofs.LocalityLaws.{some_side}
use Rattle.known_picture_laws.proofs.LocalityLaws.{eights_in}
use Rattle.flight_plan.specs.Flight.{FlightRows, picture_at}
use Rattle.board_core.specs.Places.{line_of}
use Rattle.board_core.specs.Uses.{IsOfRow as IsUnitOfRow, IsOfRowsBeside}
use Rattle.known_picture_laws.specs.SpecFlights.{PlannedFlight, folded_at}
use Rattle.known_picture_laws.specs.SpecFlights.{horizontal_samples, offset_samples, phase_samples, vertical_samples}
use Rattle.known_picture_laws.specs.SpecFlights.{flight_rows}
use Rattle.flight_unit_laws.specs.Planned.{IsPlanned}
use Rattle.flight_unit_laws.specs.Uses.{AgreeWhereUsed, AreOfSameSlice, SamplesAgreeWhereUsed}
use Rattle.flight_unit_laws.proofs.Border.{block_is, not_far}
use Rattle.flight_unit_laws.proofs.Building.{place_column, sample_column}
use Rattle.flight_unit_laws.proofs.Offsets.{mixed_by, mixed_is, mixed_offset, mixed_slices, slices_alone}
use Rattle.flight_unit_laws.proofs.Pictures.{height_is, width_is}

-- at most a block away
from_before : (n q y : ℕ) → 1 ≤ n → n * q ≤ y + n → q ≤ y / n + 1
from_before n q y some le =
    elim (cases_lt q (y / n + 2)) [
      | inl less ↦ omega (arith, less)
      | inr far ↦
          let low : (y / n + 2) * n ≤ q * n = mul-le-mul_right n far in
          let turned : q * n ≡ n * q = grind arith in
          let parts : (y / n + 2) * n ≡ y / n * n + 2 * n = grind arith in
          let whole = div-add-mod' y n in
          let rest = mod-lt y some in
          absurd (omega (arith, low, turned, parts, whole, rest, le))
    ]

to_behind : (n q y : ℕ) → 1 ≤ n → y < n * q + 2 * n → y / n ≤ q + 1
to_behind n q y some less =
    let end : n * (q + 2) ≡ n * q + 2 * n = grind arith in
    let far = not_far n (q + 2) y some (omega (arith, end, less)) in
    omega (arith, far)

-- sides of pictures and of coding tree blocks
sixteens : (m : ℕ) → 4 ≤ m → 2 ^ m % 16 ≡ 0
sixteens m least =
    let e : m ≡ m - 4 + 4 = omega (arith, least) in
    let f : 2 ^ m ≡ 2 ^ (m - 4) * 16 = ap (λ k. 2 ^ k) e ∙ pow-add 2 (m - 4) 4 in
    let g : 2 ^ m ≡ 2 ^ (m - 4) * 16 + 0 = omega (arith, f) in
    ap (λ k. k % 16) g ∙ mod-mul-add (2 ^ (m - 4)) 16 0 (omega arith)

module _ (p : PicturePlan) (sps : IsSps p.sps) where
  abbrev shape : PictureShape
  shape = picture_shape p.sps p.pps

  abbrev format : FilterFormat
  format = filter_format p

  is_format : IsFilterFormat format
  unfolding filter_format
  is_format =
      let some = pow_pos (ctb_log2 p.sps.blocks) in
      record {
        width =
            eights_in p.sps.format.pic_width_in_luma_samples (min_cb_log2 p.sps.blocks) (omega arith)
            sps.blocks.columns;
        height =
            eights_in p.sps.format.pic_height_in_luma_samples (min_cb_log2 p.sps.blocks) (omega arith) sps.blocks.rows;
        some = omega (arith, some);
        ctb_size = sixteens (ctb_log2 p.sps.blocks) sps.blocks.least_ctb;
      }

  size_four : format.ctb_size ≡ 4 * unit_places shape
  unfolding filter_format picture_shape
  size_four = four (ctb_log2 p.sps.blocks) (omega (arith, sps.blocks.least_ctb))

  by_component : (t : Bool) (n : ℕ) → 4 * n / (if t then 1 else 2) ≡ (if t then 4 else 2) * n
  by_component true n = omega arith
  by_component false n = omega arith

  size_is : (c : ℕ) → size_of format c ≡ unit_side shape c
  size_is c = ap (λ n. n / luma_samples c) size_four ∙ by_component (c == 0) (unit_places shape)

  wide_side : (c : ℕ) → 8 ≤ unit_side shape c
  unfolding picture_shape
  wide_side c =
      let e : 2 ^ (ctb_log2 p.sps.blocks - 2) ≡ 2 ^ (ctb_log2 p.sps.blocks - 4) * 4 =
      let m : ctb_log2 p.sps.blocks - 2 ≡ ctb_log2 p.sps.blocks - 4 + 2 = omega (arith, sps.blocks.least_ctb) in
      ap (λ k. 2 ^ k) m ∙ pow-add 2 (ctb_log2 p.sps.blocks - 4) 2 in
      let some = pow_pos (ctb_log2 p.sps.blocks - 4) in
      by (c == 0) (2 ^ (ctb_log2 p.sps.blocks - 2)) (omega (arith, e, some))
    where
      by : (t : Bool) (n : ℕ) → 4 ≤ n → 8 ≤ (if t then 4 else 2) * n
      by true n h = omega (arith, h)
      by false n h = omega (arith, h)

  -- the rows of units in which places lie
  place_rows : (row s : ℕ) → IsPlaceOfRow format row 0 s → s / unit_places shape ≡ row
  place_rows row s h =
      let e : format.ctb_size * row ≡ 4 * (unit_places shape * row) =
      let turned : 4 * unit_places shape * row ≡ 4 * (unit_places shape * row) = grind arith in
      ap (λ n. n * row) size_four ∙ turned in
      let f = size_four in
      block_is (unit_places shape) row s (omega (arith, e, h.0)) (omega (arith, e, f, h.1))

  place_rows_beside : (row s : ℕ) → IsPlaceOfRow format row 1 s
      → (row ≤ s / unit_places shape + 1) × (s / unit_places shape ≤ row + 1)
  place_rows_beside row s h =
      let some = some_places shape in
      let e : format.ctb_size * row ≡ 4 * (unit_places shape * row) =
      let turned : 4 * unit_places shape * row ≡ 4 * (unit_places shape * row) = grind arith in
      ap (λ n. n * row) size_four ∙ turned in
      let f = size_four in (
        from_before (unit_places shape) row s some (omega (arith, e, h.0, some)),
        to_behind (unit_places shape) row s some (omega (arith, e, f, h.1, some)),
      )

  sample_rows : (c row z : ℕ) → IsOfRow format c row 0 z → z / unit_side shape c ≡ row
  sample_rows c row z h =
      let e : size_of format c * row ≡ unit_side shape c * row = ap (λ n. n * row) (size_is c) in
      let f = size_is c in
      block_is (unit_side shape c) row z (omega (arith, e, h.0)) (omega (arith, e, f, h.1))

  sample_rows_beside : (c row beside z : ℕ) → beside ≤ 4 → IsOfRow format c row beside z
      → (row ≤ z / unit_side shape c + 1) × (z / unit_side shape c ≤ row + 1)
  sample_rows_beside c row beside z few h =
      let e : size_of format c * row ≡ unit_side shape c * row = ap (λ n. n * row) (size_is c) in
      let f = size_is c in
      let wide = wide_side c in (
        from_before (unit_side shape c) row z (some_side shape c) (omega (arith, e, h.0, few, wide)),
        to_behind (unit_side shape c) row z (some_side shape c) (omega (arith, e, f, h.1, few, wide)),
      )

  -- and that the picture has them
  down_fits : shape.down ≤ unit_places shape * height_in_ctbs p.sps
  unfolding picture_shape
  down_fits =
      let some = pow_pos (ctb_log2 p.sps.blocks) in
      covers p.sps.format.pic_height_in_luma_samples (ctb_log2 p.sps.blocks) (omega (arith, sps.blocks.least_ctb))
      (omega (arith, some)) (whole_height p.sps sps)

  place_row : (y z : ℕ) → has_place shape y z ≡ true → z / unit_places shape < height_in_ctbs p.sps
  place_row y z there =
      let less : z < shape.down = ltb-true _ _ (and_parts (nat_lt y shape.across) _ there).1 in
      not_far (unit_places shape) (height_in_ctbs p.sps) z (some_places shape) (omega (arith, less, down_fits))

  sample_row : (c y z : ℕ) → has_sample shape c y z ≡ true → z / unit_side shape c < height_in_ctbs p.sps
  unfolding has_sample
  sample_row c y z there =
      let tests = and_parts (nat_lt c 3) _ there in
      let less : z < samples_of_place c * shape.down =
      ltb-true _ _ (and_parts (nat_lt y (samples_of_place c * shape.across)) _ tests.1).1 in
      let most : samples_of_place c * shape.down ≤ samples_of_place c * (unit_places shape * height_in_ctbs p.sps) =
      mul-le-mul_left (samples_of_place c) down_fits in
      let turned : samples_of_place c * (unit_places shape * height_in_ctbs p.sps)
      ≡ samples_of_place c * unit_places shape * height_in_ctbs p.sps =
      grind arith in
      not_far (unit_side shape c) (height_in_ctbs p.sps) z (some_side shape c) (omega (arith, less, most, turned))

module _ (f : PlannedFlight) (planned : IsPlanned f) (k row : ℕ) (p : PicturePlan)
    (has : slice_get f.pictures k ≡ Some p) (g : DecodedUnits) where
  abbrev plan : FlightRows
  plan = flight_rows f

  abbrev in_range : IsSps p.sps
  in_range = planned.sps k p has

  abbrev whole : DecodedUnits
  whole = folded_at f k

  in_columns : (column : ℕ) → column < width_in_ctbs p.sps → column < (picture_at plan k).width
  in_columns column less = let w = width_is f k p has in omega (arith, w, less)

  in_rows : (r : ℕ) → r < height_in_ctbs p.sps → r < (picture_at plan k).rows
  in_rows r less = let h = height_is f k p has in omega (arith, h, less)

  own_unit : (l : Line) (column r : ℕ) → l.picture ≡ k → l.row ≡ row → r ≡ row → column < width_in_ctbs p.sps
      → IsUnitOfRow plan B l (line_of B k r) column
  own_unit l column r picture at here less = record {
    line = ap (λ n. line_of B k n) (here ∙ sym at) ∙ ap (λ j. line_of B j l.row) (sym picture);
    unit = in_columns column less;
  }

  beside_unit : (l : Line) (column r : ℕ) → l.picture ≡ k → l.row ≡ row → row ≤ r + 1 → r ≤ row + 1
      → column < width_in_ctbs p.sps → r < height_in_ctbs p.sps → IsOfRowsBeside plan B l (line_of B k r) column
  beside_unit l column r picture at up down less low = record {
    row = r;
    line = ap (λ j. line_of B j r) (sym picture);
    up = omega (arith, at, up);
    down = omega (arith, at, down);
    inside = in_rows r low;
    unit = in_columns column less;
  }

  -- vertical edges
  module _ (own : AgreeWhereUsed f (line_of V k row) 0 k p (folded_at f k) g) where
    pub vertical_agrees : (c y z : ℕ) → y < width_of (filter_format p) c → IsOfRow (filter_format p) c row 0 z
        → phase_samples p (folded_at f k) V c y z ≡ vertical_samples p g.filters g.samples c y z
    unfolding phase_samples vertical_samples
    vertical_agrees c y z inside of_row =
        vertical_row (filter_format p) whole.filters.places g.filters.places (whole.samples c) (g.samples c) c row 0 y z
        (is_format p in_range) refl
        (λ i s here.
        own.places i s (λ there.
        own_unit (line_of V k row) (i / unit_places (shape p in_range)) (s / unit_places (shape p in_range)) refl refl
        (place_rows p in_range row s here) (place_column p in_range i s there)))
        (λ i j less here.
        own.samples c i j (λ there.
        own_unit (line_of V k row) (i / unit_side (shape p in_range) c) (j / unit_side (shape p in_range) c) refl refl
        (sample_rows p in_range c row j here) (sample_column p in_range c i j there)))
        inside of_row

  -- horizontal edges
  module _ (own : AgreeWhereUsed f (line_of H k row) 0 k p (folded_at f k) g) (v : Samples)
      (before : SamplesAgreeWhereUsed f (line_of H k row) V k p (phase_samples p (folded_at f k) V) v) where
    pub horizontal_agrees : (c y z : ℕ) → y < width_of (filter_format p) c → z < height_of (filter_format p) c
        → IsOfRow (filter_format p) c row 0 z
        → phase_samples p (folded_at f k) H c y z ≡ horizontal_samples p g.filters v c y z
    unfolding phase_samples horizontal_samples
    horizontal_agrees c y z inside low of_row =
        horizontal_row (filter_format p) whole.filters.places g.filters.places
        (phase_samples p (folded_at f k) V c) (v c)
        c row y z (is_format p in_range)
        (λ i s here.
        let beside = place_rows_beside p in_range row s here in
        own.places i s (λ there.
        inr
        (beside_unit (line_of H k row) (i / unit_places (shape p in_range)) (s / unit_places (shape p in_range)) refl
        refl beside.0 beside.1 (place_column p in_range i s there) (place_row p in_range i s there))))
        (λ i j less under here.
        let beside = sample_rows_beside p in_range c row 4 j (omega arith) here in
        before c i j (λ there.
        inl (record {
          row = j / unit_side (shape p in_range) c;
          line = refl;
          up = beside.0;
          down = beside.1;
          inside = in_rows (j / unit_side (shape p in_range) c) (sample_row p in_range c i j there);
          unit = omega arith;
        })))
        inside low (omega (arith, of_row.0), omega (arith, of_row.1))

  -- sample adaptive offset
  module _ (own : AgreeWhereUsed f (line_of S k row) 0 k p (folded_at f k) g) (v : Samples)
      (before : SamplesAgreeWhereUsed f (line_of S k row) H k p (phase_samples p (folded_at f k) H) v)
      (slices : (c column u : ℕ) → row ≤ u + 1 → u ≤ row + 1
      → AreOfSameSlice ((folded_at f k).filters.units c column u) (g.filters.units c column u)) where
    -- the units of the row itself, and those beside it with their own offsets
    abbrev mixed : FilterData
    mixed = record {
      places = g.filters.places;
      coded = g.filters.coded;
      units = λ c column u.
          mixed_by (u == row) ((folded_at f k).filters.units c column u) (g.filters.units c column u);
    }

    own_row : (c column u : ℕ) → (u == row) ≡ true
        → (folded_at f k).filters.units c column u ≡ g.filters.units c column u
    own_row c column u t =
        own.units c column u (λ less low.
        inr (own_unit (line_of S k row) column u refl refl (eqb-true u row t) less))

    mixed_agrees : (c y z : ℕ) → y < width_of (filter_format p) c → z < height_of (filter_format p) c
        → IsOfRow (filter_format p) c row 0 z
        → phase_samples p (folded_at f k) S c y z ≡ offset_samples p mixed v c y z
    unfolding phase_samples offset_samples
    mixed_agrees c y z inside low of_row =
        offset_row (loop_filters p whole.filters) (loop_filters p mixed)
        (phase_samples p (folded_at f k) H c) (v c) c
        row y z (is_format p in_range) refl
        (λ i s here.
        ap (λ (q : Place). q.kept)
        (own.places i s (λ there.
        inr (own_unit (line_of S k row) (i / unit_places (shape p in_range)) (s / unit_places (shape p in_range)) refl
        refl (place_rows p in_range row s here) (place_column p in_range i s there)))))
        (λ column u up down.
        mixed_is (u == row) ((folded_at f k).filters.units c column u) (g.filters.units c column u)
        (own_row c column u) (slices c column u up down))
        (λ i j less under here.
        let beside = sample_rows_beside p in_range c row 1 j (omega arith) here in
        before c i j (λ there.
        inl (record {
          row = j / unit_side (shape p in_range) c;
          line = refl;
          up = beside.0;
          down = beside.1;
          inside = in_rows (j / unit_side (shape p in_range) c) (sample_row p in_range c i j there);
          unit = omega arith;
        })))
        inside low of_row

    -- the row of units of a line
    row_of_size : (c z : ℕ) → IsOfRow (filter_format p) c row 0 z → z / size_of (filter_format p) c ≡ row
    row_of_size c z of_row = ap (λ n. z / n) (size_is p in_range c) ∙ sample_rows p in_range c row z of_row

    alone : (c y z : ℕ) → IsOfRow (filter_format p) c row 0 z
        → offset_samples p mixed v c y z ≡ offset_samples p g.filters v c y z
    unfolding offset_samples
    alone c y z of_row =
        slices_alone (offset_plane (loop_filters p mixed) c) (offset_plane (loop_filters p g.filters) c) (v c) y z refl
        refl refl
        (λ i j.
        mixed_slices (j / size_of (filter_format p) c == row)
        ((folded_at f k).filters.units c (i / size_of (filter_format p) c) (j / size_of (filter_format p) c))
        (g.filters.units c (i / size_of (filter_format p) c) (j / size_of (filter_format p) c)))
        refl
        (mixed_offset (z / size_of (filter_format p) c == row)
        ((folded_at f k).filters.units c (y / size_of (filter_format p) c) (z / size_of (filter_format p) c))
        (g.filters.units c (y / size_of (filter_format p) c) (z / size_of (filter_format p) c))
        (eq-eqb (z / size_of (filter_format p) c) row (row_of_size c z of_row)))

    pub offset_agrees : (c y z : ℕ) → y < width_of (filter_format p) c → z < height_of (filter_format p) c
        → IsOfRow (filter_format p) c row 0 z
        → phase_samples p (folded_at f k) S c y z ≡ offset_samples p g.filters v c y z
    offset_agrees c y z inside low of_row = mixed_agrees c y z inside low of_row ∙ alone c y z of_row
