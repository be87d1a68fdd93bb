-- A unit that was built over a row's border is the unit of a picture that the border agrees with.
use Rattle.std.proofs.Common.{◌≡◌, ℕ, ◌+◌, ◌-◌, ◌*◌, ◌/◌, ◌^◌, ◌<◌, ◌≤◌, ◌&&◌, nat_le, nat_lt, Bool}
use Rattle.std.proofs.Common.{true, false, Option, List, refl, sym, ap, subst, ◌∙◌, if◌then◌else◌, unwrap_or, arith}
use Rattle.std.proofs.Common.{inl, inr, slice_index_or}
use Rattle.std.proofs.Math.Nat.{mul-le-mul_left}
use Rattle.std.proofs.lemmas.Bool.{and_parts, cases_lt, eqb-true, leb-true, ltb-true}
use Rattle.std.specs.List.{All}
use Rattle.unit_build.specs.CtuBuild.{held}
use Rattle.ctu_motion.specs.Held.{Cells, held as motion_held}
use Rattle.ctu_records.specs.Tree.{Ctu}
use Rattle.header_types.specs.SequenceParameterSets.{height_in_ctbs}
use Rattle.unit_build.specs.InterSamples.{inter_unit}
use Rattle.picture_buffer.specs.declared.place_motion.PlaceMotion.{PlaceMotion}
use Rattle.unit_build.specs.PictureFilters.{IsUnit, read_place}
use Rattle.unit_build.specs.PictureFilters.{IsGiven}
use Rattle.unit_build.specs.PictureFilters.{first_unit}
use Rattle.picture_layout.specs.Shape.{IsShape}
use Rattle.picture_layout.proofs.Places.{block_begins}
use Rattle.unit_build.specs.PictureMotion.{derived_over, known_over}
use Rattle.plan_types.specs.declared.picture_plan.PicturePlan.{PicturePlan}
use Rattle.plan_types.specs.declared.segment_plan.SegmentPlan.{SegmentPlan}
use Rattle.plan_types.specs.Segments.{address_of}
use Rattle.spec_boundary_strengths.specs.declared.place.UnitPlace.{UnitPlace}
use Rattle.spec_deblocking.specs.declared.place.Place.{Place}
use Rattle.known_picture_laws.specs.SpecDecodedPictures.{DecodedUnits, unit_decoded}
use Rattle.spec_motion.specs.declared.slice_motion.SliceMotion.{SliceMotion}
use Rattle.spec_motion.specs.Units.{IsPlacedItem, unit_derived}
use Rattle.spec_motion.specs.Vectors as vectors
use Rattle.spec_picture_build.specs.Border.{Samples, has_sample, height_of, known_beside, unit_column, unit_line}
use Rattle.spec_picture_build.specs.Border.{unit_side, width_of}
use Rattle.spec_picture_build.specs.Built.{is_of_unit, samples_added, unit_inter, unit_laid}
use Rattle.spec_picture_build.specs.Format.{unit_format}
use Rattle.spec_picture_build.specs.References.{DecodedPicture, motions_of, pictures_of}
use Rattle.spec_picture_build.specs.Weights.{slice_weighting}
use Rattle.spec_picture_filters.specs.Units.{coded_laid, is_component, place_of, places_laid, places_read, read_added}
use Rattle.spec_picture_filters.specs.Units.{units_laid}
use Rattle.spec_picture_motion.specs.Derived.{collocated_motions, known_of_unit, unit_added as motion_added}
use Rattle.spec_picture_motion.specs.Field.{Motions, beneath_unit, pointing_motion, unit_laid as motion_laid}
use Rattle.spec_picture_motion.specs.Field.{known_beside as motion_beside}
use Rattle.spec_picture_motion.specs.Slices.{collocated_entry, slice_motion}
use Rattle.spec_picture_trees.specs.Places.{first_column, first_row, has_place, is_of_unit as has_place_of, unit_at}
use Rattle.spec_picture_trees.specs.Places.{unit_places}
use Rattle.spec_picture_trees.specs.Shapes.{picture_shape, slice_start}
use Rattle.spec_reconstruction.specs.declared.format.UnitFormat.{UnitFormat}
use Rattle.spec_reconstruction.specs.Inter.{InterUnit, Pictures}
use Rattle.spec_reconstruction.specs.Known.{Known}
use Rattle.spec_reconstruction.specs.Unit.{unit_built}
use Rattle.spec_sample_adaptive_offset.specs.declared.unit.OffsetUnit.{OffsetUnit}
use Rattle.spec_slice_data.specs.Residual.{samples_of_place}
use Rattle.spec_slice_data.specs.Segment.{PictureShape, row_of}
use Rattle.known_picture_laws.specs.LocalityLaws.{SamplesAgreeBeside}
use Rattle.known_picture_laws.specs.LocalityLaws.{MotionAgreesBeneath, MotionAgreesBeside}
use Rattle.known_picture_laws.proofs.LocalityLaws.{beneath_agrees, known_motion_agrees}
use Rattle.known_picture_laws.proofs.LocalityLaws.{known_agrees, some_side}
use Rattle.unit_build.specs.declared.built.BuiltUnit.{BuiltUnit}
use Rattle.unit_build.proofs.Covering.{covered}
use Rattle.unit_build.proofs.Places.{row_is}
use Rattle.row_borders.specs.Borders.{Bordering, coded_at, collocated_at, motion_at, sample_at}
use Rattle.row_borders.specs.Building.{HoldsUnit, IsBeneath, IsBeside, IsDerived, tree_unit}
use Rattle.row_borders.proofs.Around.{AgreeBeside, read_same}
use Rattle.row_borders.proofs.Standing.{above_coded, beneath_stands, left_coded, motions_beside, motions_stand}
use Rattle.row_borders.proofs.Standing.{samples_beside}

where_it_is : {A : Type 0} (b : Bool) (x y : A) → b ≡ true → (if b then x else y) ≡ x
where_it_is true x y is = refl
where_it_is false x y is = absurd cc

-- a unit that has a sample of the picture has a row of it
row_there : (picture : PictureShape) (a c x y : ℕ) → IsShape picture → is_of_unit picture a c x y ≡ true
    → first_row picture a < picture.down
unfolding has_sample unit_at
row_there picture a c x y shape e =
    let n : ℕ = unit_side picture c in
    let w : ℕ = picture.width in
    let tests = and_parts (nat_lt c 3 && (nat_lt x (width_of picture c) && nat_lt y (height_of picture c))) _ e in
    let sides = and_parts (nat_lt x (width_of picture c)) _ (and_parts (nat_lt c 3) _ tests.0).1 in
    let across : x < width_of picture c = ltb-true _ _ sides.0 in
    let lower : y < height_of picture c = ltb-true _ _ sides.1 in
    let at : w * (y / n) + x / n ≡ a = eqb-true _ _ tests.1 in
    let row = row_is n w (width_of picture c) a x y (some_side picture c) (covered picture c shape) across at in
    let same : n * (a / w) ≡ n * (y / n) = ap (λ k. n * k) row in
    let begins = block_begins n y in
    elim (cases_lt (first_row picture a) picture.down) [
      | inl less ↦ less
      | inr past ↦
          let more : samples_of_place c * picture.down ≤ samples_of_place c * (2 ^ picture.size * (a / w)) =
          mul-le-mul_left (samples_of_place c) past in
          let whole : samples_of_place c * (2 ^ picture.size * (a / w)) ≡ n * (a / w) = grind arith in
          absurd (omega (arith, lower, more, whole, same, begins))
    ]

-- the column and the row of a place of a unit, counted from its first one
inside_unit : (picture : PictureShape) (a x y : ℕ) → has_place_of picture a x y ≡ true
    → (x - first_column picture a < unit_places picture) × (y - first_row picture a < unit_places picture)
inside_unit picture a x y mine =
    let tests = and_parts (has_place picture x y) _ mine in
    let both = and_parts (nat_le (first_column picture a) x && nat_lt x (first_column picture a + unit_places picture))
    _ tests.1 in
    let columns = and_parts (nat_le (first_column picture a) x) _ both.0 in
    let rows = and_parts (nat_le (first_row picture a) y) _ both.1 in
    let i : x < first_column picture a + unit_places picture = ltb-true _ _ columns.1 in
    let j : y < first_row picture a + unit_places picture = ltb-true _ _ rows.1 in
    (omega (arith, i, leb-true _ _ columns.0), omega (arith, j, leb-true _ _ rows.0))

-- a unit over a border and over a picture
module _ (border : Bordering) (p : PicturePlan) (s : SegmentPlan) (number a : ℕ) (ctu : Ctu)
    (others : List DecodedPicture) (units : DecodedUnits) where
  abbrev shape : PictureShape
  shape = picture_shape p.sps p.pps

  abbrev slice : ℕ
  slice = address_of (slice_start p s)

  abbrev collocated : Motions
  collocated = collocated_motions (motions_of others) (collocated_entry s.header.slice (slice_start p s).lists)

  -- what its motion is
  known_is : MotionAgreesBeside shape slice a (motion_at border) units.motions
      → MotionAgreesBeneath shape a (collocated_at border) collocated
      → known_over (collocated_at border) p s a ctu.items (motion_at border)
      ≡ known_of_unit (motions_of others) p s (tree_unit number a ctu) units.motions
  unfolding known_over known_of_unit
  known_is beside beneath =
      ap (λ b. unit_derived (slice_motion p s a) b ctu.items (motion_beside shape slice a (motion_at border)))
      (beneath_agrees shape a (collocated_at border) collocated beneath)
      ∙ ap (λ k. unit_derived (slice_motion p s a) (beneath_unit shape a collocated) ctu.items k)
      (known_motion_agrees shape slice a (motion_at border) units.motions beside)

  -- what inter prediction depends on
  inter_is : (built : BuiltUnit) (pictures : Pictures)
      → motion_held built.motion ≡ known_of_unit (motions_of others) p s (tree_unit number a ctu) units.motions
      → built.slice ≡ slice_motion p s a → pictures ≡ pictures_of p.sps.format others
      → inter_unit (motion_held built.motion) built.slice (slice_weighting s.header.slice.inter) pictures
      (first_column shape a) (first_row shape a)
      ≡ unit_inter others p s (tree_unit number a ctu) units.motions
  unfolding unit_inter
  inter_is built pictures em es ep = rw (em, es, ep) refl

  -- its samples
  abbrev built_by : UnitFormat → InterUnit → Samples → Known
  built_by format inter samples = unit_built format inter ctu.items (known_beside shape slice a samples)

  samples_are : (format : UnitFormat) (derived built : BuiltUnit) (pictures : Pictures) → 1 ≤ shape.width
      → format ≡ unit_format p.sps p.pps s.header.slice
      → motion_held derived.motion ≡ known_of_unit (motions_of others) p s (tree_unit number a ctu) units.motions
      → derived.slice ≡ slice_motion p s a → pictures ≡ pictures_of p.sps.format others
      → SamplesAgreeBeside shape slice a (sample_at border) units.samples
      → held built.samples
      ≡ built_by format
      (inter_unit (motion_held derived.motion) derived.slice (slice_weighting s.header.slice.inter) pictures
      (first_column shape a) (first_row shape a)) (sample_at border)
      → held built.samples
      ≡ built_by (unit_format p.sps p.pps s.header.slice)
      (unit_inter others p s (tree_unit number a ctu) units.motions) units.samples
  samples_are format derived built pictures wide ef em es ep agree eb =
      eb ∙ ap (λ i. built_by format i (sample_at border)) (inter_is derived pictures em es ep)
      ∙ ap (λ f. built_by f (unit_inter others p s (tree_unit number a ctu) units.motions) (sample_at border)) ef
      ∙ ap (λ k. unit_built (unit_format p.sps p.pps s.header.slice)
      (unit_inter others p s (tree_unit number a ctu) units.motions) ctu.items k)
      (known_agrees shape slice a (sample_at border) units.samples wide agree)

  sample_is : (built : BuiltUnit)
      → (c x y : ℕ) → is_of_unit shape a c x y ≡ true
      → held built.samples
      ≡ built_by (unit_format p.sps p.pps s.header.slice)
      (unit_inter others p s (tree_unit number a ctu) units.motions) units.samples
      → unwrap_or (held built.samples c (x - unit_column shape c a + 1) (y - unit_line shape c a + 1)) 0
      ≡ (unit_decoded others p s (tree_unit number a ctu) units).samples c x y
  unfolding unit_decoded samples_added unit_laid
  sample_is built c x y mine e =
      ap (λ (k : Known). unwrap_or (k c (x - unit_column shape c a + 1) (y - unit_line shape c a + 1)) 0) e
      ∙ sym (where_it_is {A = ℕ} (is_of_unit shape a c x y) _ _ mine)

  -- its motion
  motion_is : (built : BuiltUnit)
      → motion_held built.motion ≡ known_of_unit (motions_of others) p s (tree_unit number a ctu) units.motions
      → built.slice ≡ slice_motion p s a
      → (x y : ℕ) → has_place_of shape a x y ≡ true
      → pointing_motion built.slice
      (motion_held built.motion (x - first_column shape a + 1) (y - first_row shape a + 1))
      ≡ (unit_decoded others p s (tree_unit number a ctu) units).motions x y
  unfolding unit_decoded motion_added motion_laid
  motion_is built em es x y mine =
      ap (λ (k : vectors.Known). pointing_motion built.slice
      (k (x - first_column shape a + 1) (y - first_row shape a + 1))) em
      ∙ ap (λ (m : SliceMotion). pointing_motion m
      (known_of_unit (motions_of others) p s (tree_unit number a ctu) units.motions (x - first_column shape a + 1)
      (y - first_row shape a + 1))) es
      ∙ sym (where_it_is {A = Option PlaceMotion} (has_place_of shape a x y) _ _ mine)

  -- the motion behind it, by what is known of it
  abbrev moved : vectors.Known → Motions → Motions
  moved known m = motion_laid shape a (slice_motion p s a) known m

  over_border : known_over (collocated_at border) p s a ctu.items (motion_at border)
      ≡ known_of_unit (motions_of others) p s (tree_unit number a ctu) units.motions
      → derived_over (collocated_at border) p s a ctu.items (motion_at border)
      ≡ moved (known_of_unit (motions_of others) p s (tree_unit number a ctu) units.motions) (motion_at border)
  unfolding derived_over
  over_border e = ap (λ k. moved k (motion_at border)) e

  over_picture : moved (known_of_unit (motions_of others) p s (tree_unit number a ctu) units.motions) units.motions
      ≡ motion_added (motions_of others) p s (tree_unit number a ctu) units.motions
  unfolding motion_added
  over_picture = refl

  -- what it gives the loop filters
  places_are : known_over (collocated_at border) p s a ctu.items (motion_at border)
      ≡ known_of_unit (motions_of others) p s (tree_unit number a ctu) units.motions
      → AgreeBeside shape a (motion_at border) units.motions (coded_at border) units.filters.coded
      → (i j : ℕ) → i < unit_places shape → j < unit_places shape
      → places_read p s a ctu.items (derived_over (collocated_at border) p s a ctu.items (motion_at border))
      (coded_at border) i j
      ≡ places_read p s a ctu.items (motion_added (motions_of others) p s (tree_unit number a ctu) units.motions)
      units.filters.coded i j
  places_are e agree i j across down =
      ap (λ m. places_read p s a ctu.items m (coded_at border) i j) (over_border e)
      ∙ read_same p s a (motion_at border) units.motions (coded_at border) units.filters.coded (slice_motion p s a)
      (known_of_unit (motions_of others) p s (tree_unit number a ctu) units.motions) agree ctu.items i j across down
      ∙ ap (λ m. places_read p s a ctu.items m units.filters.coded i j) over_picture

  abbrev Given : BuiltUnit → Type 0
  Given built =
      IsGiven p s a ctu (derived_over (collocated_at border) p s a ctu.items (motion_at border)) (coded_at border)
      built.filters

  module _ (built : BuiltUnit) (given : Given built)
      (known : known_over (collocated_at border) p s a ctu.items (motion_at border)
      ≡ known_of_unit (motions_of others) p s (tree_unit number a ctu) units.motions)
      (agree : AgreeBeside shape a (motion_at border) units.motions (coded_at border) units.filters.coded) where
    read_at : (x y : ℕ) → has_place_of shape a x y ≡ true
        → read_place built.filters.places (x - first_column shape a) (y - first_row shape a)
        ≡ places_read p s a ctu.items (motion_added (motions_of others) p s (tree_unit number a ctu) units.motions)
        units.filters.coded (x - first_column shape a) (y - first_row shape a)
    read_at x y mine =
        let inside = inside_unit shape a x y mine in
        given.places (x - first_column shape a) (y - first_row shape a) inside.0 inside.1
        ∙ places_are known agree (x - first_column shape a) (y - first_row shape a) inside.0 inside.1

    place_is : (x y : ℕ) → has_place_of shape a x y ≡ true
        → place_of built.filters.deblocking
        (read_place built.filters.places (x - first_column shape a) (y - first_row shape a))
        ≡ (unit_decoded others p s (tree_unit number a ctu) units).filters.places x y
    unfolding unit_decoded read_added places_laid
    place_is x y mine =
        ap (λ d. place_of d (read_place built.filters.places (x - first_column shape a) (y - first_row shape a)))
        given.deblocking
        ∙ ap (place_of s.header.slice.deblocking) (read_at x y mine)
        ∙ sym (where_it_is {A = Place} (has_place_of shape a x y) _ _ mine)

    coded_is : (x y : ℕ) → has_place_of shape a x y ≡ true
        → (read_place built.filters.places (x - first_column shape a) (y - first_row shape a)).coded
        ≡ (unit_decoded others p s (tree_unit number a ctu) units).filters.coded x y
    unfolding unit_decoded read_added coded_laid
    coded_is x y mine =
        ap (λ (r : UnitPlace). r.coded) (read_at x y mine)
        ∙ sym (where_it_is {A = Bool} (has_place_of shape a x y) _ _ mine)

    offset_is : (c column row : ℕ) → is_component p a c column row ≡ true
        → slice_index_or built.filters.offsets c first_unit
        ≡ (unit_decoded others p s (tree_unit number a ctu) units).filters.units c column row
    unfolding unit_decoded read_added units_laid
    offset_is c column row mine =
        let tests = and_parts (nat_lt c 3 && nat_lt (row_of shape a) (height_in_ctbs p.sps)) _ mine in
        given.offsets c (ltb-true _ _ (and_parts (nat_lt c 3) _ tests.0).0)
        ∙ sym (where_it_is {A = OffsetUnit} (is_component p a c column row) _ _ mine)

-- what is known of a unit's motion over a border is what is known of it over a picture that the border agrees with
known_there : (border : Bordering) (p : PicturePlan) (s : SegmentPlan) (number : ℕ) (ctu : Ctu)
    (others : List DecodedPicture) (units : DecodedUnits)
    → IsUnit p s border.unit → IsBeside border units
    → IsBeneath border
    (collocated_motions (motions_of others) (collocated_entry s.header.slice (slice_start p s).lists))
    → known_over (collocated_at border) p s border.unit.address ctu.items (motion_at border)
    ≡ known_of_unit (motions_of others) p s (tree_unit number border.unit.address ctu) units.motions
known_there border p s number ctu others units is beside beneath =
    let a : ℕ = border.unit.address in
    let slice : ℕ = address_of (slice_start p s) in
    let collocated : Motions =
    collocated_motions (motions_of others) (collocated_entry s.header.slice (slice_start p s).lists) in
    let motions : MotionAgreesBeside (picture_shape p.sps p.pps) slice a (motion_at border) units.motions =
    subst (λ (q : PictureShape). MotionAgreesBeside q slice a (motion_at border) units.motions) is.layout
    (motions_beside border units beside slice) in
    let below : MotionAgreesBeneath (picture_shape p.sps p.pps) a (collocated_at border) collocated =
    subst (λ (q : PictureShape). MotionAgreesBeneath q a (collocated_at border) collocated) is.layout
    (beneath_stands border collocated beneath) in
    known_is border p s number a ctu others units motions below

-- so motion that is derived over a border is the unit's motion in the picture
pub derived_there : (border : Bordering) (p : PicturePlan) (s : SegmentPlan) (number : ℕ) (ctu : Ctu)
    (others : List DecodedPicture) (units : DecodedUnits) (built : BuiltUnit)
    → IsUnit p s border.unit → IsDerived p s border ctu built → All IsPlacedItem ctu.items → IsBeside border units
    → IsBeneath border
    (collocated_motions (motions_of others) (collocated_entry s.header.slice (slice_start p s).lists))
    → motion_held built.motion
    ≡ known_of_unit (motions_of others) p s (tree_unit number border.unit.address ctu) units.motions
derived_there border p s number ctu others units built is derived placed beside beneath =
    derived.motion placed ∙ known_there border p s number ctu others units is beside beneath

-- what the unit's work leaves over a border is what the unit makes of a picture, where its motion was derived before
pub holds : (border : Bordering) (p : PicturePlan) (s : SegmentPlan) (number : ℕ) (ctu : Ctu)
    (others : List DecodedPicture) (units : DecodedUnits) (format : UnitFormat) (before built : BuiltUnit)
    (pictures : Pictures)
    → IsShape border.unit.layout → IsUnit p s border.unit → format ≡ unit_format p.sps p.pps s.header.slice
    → pictures ≡ pictures_of p.sps.format others
    → IsBeside border units
    → IsBeneath border
    (collocated_motions (motions_of others) (collocated_entry s.header.slice (slice_start p s).lists))
    → IsDerived p s border ctu before → All IsPlacedItem ctu.items
    → built.slice ≡ before.slice → built.motion ≡ before.motion
    → IsGiven p s border.unit.address ctu
    (derived_over (collocated_at border) p s border.unit.address ctu.items (motion_at border)) (coded_at border)
    built.filters
    → (first_row border.unit.layout border.unit.address < border.unit.layout.down
    → held built.samples
    ≡ unit_built format
    (inter_unit (motion_held before.motion) before.slice (slice_weighting s.header.slice.inter) pictures
    (first_column border.unit.layout border.unit.address) (first_row border.unit.layout border.unit.address))
    ctu.items (known_beside border.unit.layout border.unit.slice border.unit.address (sample_at border)))
    → HoldsUnit p border.unit.address built
    (unit_decoded others p s (tree_unit number border.unit.address ctu) units)
holds border p s number ctu others units format before built pictures shape is ef ep beside beneath derived placed es em
    given eb =
    let a : ℕ = border.unit.address in
    let picture : PictureShape = picture_shape p.sps p.pps in
    let slice : ℕ = address_of (slice_start p s) in
    let here : IsShape picture = subst IsShape is.layout shape in
    let samples : SamplesAgreeBeside picture slice a (sample_at border) units.samples =
    subst (λ (q : PictureShape). SamplesAgreeBeside q slice a (sample_at border) units.samples) is.layout
    (samples_beside border units beside slice) in
    let agree : AgreeBeside picture a (motion_at border) units.motions (coded_at border) units.filters.coded =
    subst (λ (q : PictureShape). AgreeBeside q a (motion_at border) units.motions (coded_at border) units.filters.coded)
    is.layout
    (record {
      motions = motions_stand border units beside;
      left = left_coded border units beside;
      above = above_coded border units beside;
    }) in
    let known = known_there border p s number ctu others units is beside beneath in
    let moves : motion_held before.motion
    ≡ known_of_unit (motions_of others) p s (tree_unit number a ctu) units.motions =
    derived_there border p s number ctu others units before is derived placed beside beneath in
    let moved_too : motion_held built.motion
    ≡ known_of_unit (motions_of others) p s (tree_unit number a ctu) units.motions =
    ap (λ (m : Cells). motion_held m) em ∙ moves in
    let told : first_row picture a < picture.down
    → held built.samples
    ≡ unit_built format
    (inter_unit (motion_held before.motion) before.slice (slice_weighting s.header.slice.inter) pictures
    (first_column picture a) (first_row picture a))
    ctu.items (known_beside picture slice a (sample_at border)) =
    subst (λ (k : ℕ). first_row picture a < picture.down
    → held built.samples
    ≡ unit_built format
    (inter_unit (motion_held before.motion) before.slice (slice_weighting s.header.slice.inter) pictures
    (first_column picture a) (first_row picture a))
    ctu.items (known_beside picture k a (sample_at border))) is.slice
    (subst (λ (q : PictureShape). first_row q a < q.down
    → held built.samples
    ≡ unit_built format
    (inter_unit (motion_held before.motion) before.slice (slice_weighting s.header.slice.inter) pictures
    (first_column q a) (first_row q a))
    ctu.items (known_beside q border.unit.slice a (sample_at border))) is.layout eb) in
    record {
      samples = λ c x y mine.
          sample_is border p s number a ctu others units built c x y mine
          (samples_are border p s number a ctu others units format before built pictures here.some ef moves
          derived.slice ep samples (told (row_there picture a c x y here mine)));
      motions = motion_is border p s number a ctu others units built moved_too (es ∙ derived.slice);
      places = place_is border p s number a ctu others units built given known agree;
      coded = coded_is border p s number a ctu others units built given known agree;
      offsets = offset_is border p s number a ctu others units built given known agree;
    }
