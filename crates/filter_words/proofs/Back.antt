-- What the loop filters ask of a known unit is what the words of the unit have.
use Rattle.std.proofs.Common.{◌≡◌, ℕ, ◌+◌, ◌-◌, ◌*◌, ◌<◌, true, List, ◌∷◌, ◌++◌, All}
use Rattle.std.proofs.Common.{Some, slice_get, refl, sym, ap, subst, ◌∙◌, arith, lt-ltb}
use Rattle.std.proofs.lemmas.Bool.{and_from, eq-eqb}
use Rattle.std.proofs.lemmas.Nat.{div-mul-add, mod-mul-add}
use Rattle.header_types.specs.SequenceParameterSets.{IsSps, height_in_ctbs, size_in_ctbs, width_in_ctbs}
use Rattle.plan_types.specs.declared.picture_plan.PicturePlan.{PicturePlan}
use Rattle.plan_types.specs.declared.segment_plan.SegmentPlan.{SegmentPlan}
use Rattle.slice_types.specs.declared.slice.SliceDeblocking.{SliceDeblocking}
use Rattle.spec_slice_data.specs.Segment.{PictureShape, column_of, row_of}
use Rattle.spec_picture_trees.specs.Picture.{TreeUnit}
use Rattle.spec_picture_trees.specs.Places.{first_column, first_row, is_of_unit}
use Rattle.spec_picture_trees.specs.Shapes.{picture_shape, qp_bd_offset}
use Rattle.spec_known_units.specs.Known.{KnownUnit, ctu_of, known_units, units_known}
use Rattle.spec_boundary_strengths.specs.declared.place.UnitPlace.{UnitPlace}
use Rattle.spec_boundary_strengths.specs.Places.{unit_place}
use Rattle.spec_deblocking.specs.declared.place.Place.{Place}
use Rattle.spec_sample_adaptive_offset.specs.declared.unit.OffsetUnit.{OffsetUnit}
use Rattle.spec_picture_filters.specs.Units.{is_component, place_of, places_laid, places_read, read_added, unit_added}
use Rattle.spec_picture_filters.specs.Units.{unit_read, units_laid}
use Rattle.flight_facts.specs.SpecPictureBuild.{DecodedPicture}
use Rattle.flight_facts.specs.SpecDecodedPictures.{DecodedUnits, units_folded}
use Rattle.flight_facts.proofs.LocalityLawsLemmas.{place_is}
use Rattle.flight_facts.proofs.LocalityLawsLemmas.{some_units}
use Rattle.flight_facts.specs.KnownPictureLaws.{IsInOrder}
use Rattle.flight_facts.proofs.KnownPictureLaws.{places_are_steps, units_are_steps, where_it_is}
use Rattle.flight_facts.proofs.KnownPictureLaws.{in_order}
use Rattle.flight_facts.proofs.KnownPictureLaws.{has_segment}
use Rattle.board_core.proofs.Order.{within_rows}
use Rattle.sample_words.specs.declared.modes.PlaceModes.{PlaceModes}
use Rattle.flight_facts.specs.SpecFlights.{PlannedFlight, folded_at, known_folded, pictures_before}
use Rattle.flight_facts.specs.SpecFlights.{given_at}
use Rattle.flight_facts.specs.SpecFlights.{modes_at, modes_of, values_in}
use Rattle.flight_facts.specs.FlightValueLaws.{IsInRange}
use Rattle.flight_facts.proofs.FlightValueLaws.{folded_is}
use Rattle.filter_words.specs.Filters.{filter_place, filter_unit, known_place, place_in, unit_in}

-- an address of a unit of a picture
pub in_picture : (w h row column : ℕ) → row < h → column < w → row * w + column < w * h
in_picture w h row column lower less =
    let e : w * h ≡ h * w = grind arith in
    let inside = within_rows w h row column lower less in
    omega (arith, e, inside)

module _ (p : PicturePlan) (sps : IsSps p.sps) (buffer : List DecodedPicture) (address : ℕ) (known : KnownUnit)
    (inside : address < size_in_ctbs p.sps) (is : units_known p address ≡ Some known) (s : SegmentPlan)
    (has : slice_get p.segments known.segment ≡ Some s) where
  abbrev shape : PictureShape
  shape = picture_shape p.sps p.pps

  abbrev unit : TreeUnit
  unit = given_at address known

  abbrev whole : DecodedUnits
  whole = known_folded buffer p

  abbrev slice : SliceDeblocking
  slice = s.header.slice.deblocking

  -- places
  abbrev Places : List TreeUnit → Type 0
  Places units =
      (x y : ℕ) → is_of_unit shape address x y ≡ true
      → (units_folded buffer p units).filters.places x y
      ≡ (unit_added p s unit (units_folded buffer p units).motions (units_folded buffer p units).filters).places x y

  places_of : (before later : List TreeUnit) → All (λ (u : TreeUnit). address < u.ctu) later
      → Places (before ++ unit ∷ later)
  places_of before later behind x y mine =
      let units : DecodedUnits = units_folded buffer p (before ++ unit ∷ later) in
      places_are_steps buffer p before later unit s has behind units.motions units.filters (some_units p sps)
      (record { own = λ i j there. refl; beside = λ i j there. refl; coded = λ i j there. refl }) x y mine

  place_steps : Places (known_units p)
  place_steps =
      let o : IsInOrder (known_units p) (given_at address known) = in_order p address known inside is in
      subst Places (sym o.is) (places_of o.before o.later o.behind)

  module _ (x y : ℕ) (mine : is_of_unit (picture_shape p.sps p.pps) address x y ≡ true) where
    -- what the unit gives
    abbrev read : UnitPlace
    read =
        places_read p s address known.read.items whole.motions whole.filters.coded (x - first_column shape address)
        (y - first_row shape address)

    place_read : whole.filters.places x y ≡ place_of slice read
    unfolding read_added places_laid
    place_read = place_steps x y mine ∙ where_it_is {A = Place} (is_of_unit shape address x y) _ _ mine

    abbrev modes_by : Place → PlaceModes
    modes_by place = modes_of shape (Some known) address x y place (whole.filters.coded x y)

    modes_are : (values_in p whole).modes x y ≡ modes_by (whole.filters.places x y)
    unfolding values_in modes_at
    modes_are =
        ap (λ a. modes_of shape (units_known p a) a x y (whole.filters.places x y) (whole.filters.coded x y))
        (place_is shape address x y mine)
        ∙ ap (λ o. modes_of shape o address x y (whole.filters.places x y) (whole.filters.coded x y)) is

    -- a place by its own strengths and whether its samples stay, and by what was read
    abbrev again : Place → Place
    again place = place_of slice (known_place (qp_bd_offset p.sps) (modes_by place))

    same_again : place_of slice read ≡ again (place_of slice read)
    unfolding place_of places_read unit_place
    same_again = refl

    pub place_comes_back : whole.filters.places x y ≡ filter_place p ((values_in p whole).modes x y)
    unfolding filter_place
    place_comes_back =
        place_read ∙ same_again ∙ ap again (sym place_read)
        ∙ sym (ap (filter_place p) modes_are ∙ ap (place_in p (modes_by (whole.filters.places x y))) has)

    pub segment_comes_back : ((values_in p whole).modes x y).segment ≡ known.segment
    segment_comes_back = ap (λ (m : PlaceModes). m.segment) modes_are

  -- components
  abbrev Units : List TreeUnit → Type 0
  Units units =
      (c column row : ℕ) → is_component p address c column row ≡ true
      → (units_folded buffer p units).filters.units c column row
      ≡ (unit_added p s unit (units_folded buffer p units).motions (units_folded buffer p units).filters).units c
      column row

  units_of : (before later : List TreeUnit) → All (λ (u : TreeUnit). address < u.ctu) later
      → Units (before ++ unit ∷ later)
  units_of before later behind c column row mine =
      let units : DecodedUnits = units_folded buffer p (before ++ unit ∷ later) in
      units_are_steps buffer p before later unit s has behind units.motions units.filters (some_units p sps)
      (record { own = λ i j there. refl; beside = λ i j there. refl; coded = λ i j there. refl }) c column row mine

  unit_steps : Units (known_units p)
  unit_steps =
      let o : IsInOrder (known_units p) (given_at address known) = in_order p address known inside is in
      subst Units (sym o.is) (units_of o.before o.later o.behind)

  pub unit_is_read : (c column row : ℕ) → is_component p address c column row ≡ true
      → whole.filters.units c column row ≡ unit_read p s known.read.sao c
  unfolding read_added units_laid
  unit_is_read c column row mine =
      unit_steps c column row mine ∙ where_it_is {A = OffsetUnit} (is_component p address c column row) _ _ mine

-- the row and the column of a unit
pub column_is : (p : PicturePlan) (row column : ℕ) → column < width_in_ctbs p.sps
    → column_of (picture_shape p.sps p.pps) (row * width_in_ctbs p.sps + column) ≡ column
unfolding picture_shape
column_is p row column less = mod-mul-add row (width_in_ctbs p.sps) column less

pub row_is : (p : PicturePlan) (row column : ℕ) → column < width_in_ctbs p.sps
    → row_of (picture_shape p.sps p.pps) (row * width_in_ctbs p.sps + column) ≡ row
unfolding picture_shape
row_is p row column less = div-mul-add row (width_in_ctbs p.sps) column less

-- the components of a unit by its row and column
module _ (p : PicturePlan) (sps : IsSps p.sps) (buffer : List DecodedPicture) (row column : ℕ) (known : KnownUnit)
    (lower : row < height_in_ctbs p.sps) (less : column < width_in_ctbs p.sps)
    (is : units_known p (row * width_in_ctbs p.sps + column) ≡ Some known) (s : SegmentPlan)
    (has : slice_get p.segments known.segment ≡ Some s) where
  abbrev here : ℕ
  here = row * width_in_ctbs p.sps + column

  abbrev picture : PictureShape
  picture = picture_shape p.sps p.pps

  abbrev decoded : DecodedUnits
  decoded = known_folded buffer p

  component_there : (c : ℕ) → c < 3 → is_component p here c column row ≡ true
  component_there c few =
      let column_same = column_is p row column less in
      let row_same = row_is p row column less in
      let below : row_of picture here < height_in_ctbs p.sps = omega (arith, lower, row_same) in
      and_from _ _ (and_from _ _ (lt-ltb _ _ few) (lt-ltb _ _ below))
      (and_from _ _ (eq-eqb _ _ (sym column_same)) (eq-eqb _ _ (sym row_same)))

  sao_is : (values_in p decoded).offsets column row ≡ known.read.sao
  unfolding values_in
  sao_is = ap (λ o. (ctu_of picture o).sao) is

  pub unit_comes_back : (c : ℕ) → c < 3
      → (known_folded buffer p).filters.units c column row
      ≡ filter_unit p known.segment ((values_in p (known_folded buffer p)).offsets column row) c
  unfolding filter_unit
  unit_comes_back c few =
      unit_is_read p sps buffer here known
      (in_picture (width_in_ctbs p.sps) (height_in_ctbs p.sps) row column lower less) is s has c column row
      (component_there c few)
      ∙ sym (ap (λ o. filter_unit p known.segment o c) sao_is ∙ ap (unit_in p known.read.sao c) has)

-- in a flight
module _ (f : PlannedFlight) (range : IsInRange f) (k : ℕ) (p : PicturePlan)
    (has : slice_get f.pictures k ≡ Some p) where
  abbrev plan_sps : IsSps p.sps
  plan_sps = (range.plans k p has).sps

  module _ (address : ℕ) (known : KnownUnit) (inside : address < size_in_ctbs p.sps)
      (is : units_known p address ≡ Some known) (x y : ℕ)
      (mine : is_of_unit (picture_shape p.sps p.pps) address x y ≡ true) where
    pub flight_place : (folded_at f k).filters.places x y ≡ filter_place p ((values_in p (folded_at f k)).modes x y)
    flight_place =
        let own = has_segment p address known inside is in
        subst (λ (d : DecodedUnits). d.filters.places x y ≡ filter_place p ((values_in p d).modes x y))
        (sym (folded_is f range k p has))
        (place_comes_back p plan_sps (pictures_before f k) address known inside is own.0 own.1 x y mine)

    pub flight_segment : ((values_in p (folded_at f k)).modes x y).segment ≡ known.segment
    flight_segment =
        let own = has_segment p address known inside is in
        subst (λ (d : DecodedUnits). ((values_in p d).modes x y).segment ≡ known.segment)
        (sym (folded_is f range k p has))
        (segment_comes_back p plan_sps (pictures_before f k) address known inside is own.0 own.1 x y mine)

  pub flight_unit : (row column c : ℕ) (known : KnownUnit) → row < height_in_ctbs p.sps → column < width_in_ctbs p.sps
      → c < 3 → units_known p (row * width_in_ctbs p.sps + column) ≡ Some known
      → (folded_at f k).filters.units c column row
      ≡ filter_unit p known.segment ((values_in p (folded_at f k)).offsets column row) c
  flight_unit row column c known lower less few is =
      let own =
      has_segment p (row * width_in_ctbs p.sps + column) known
      (in_picture (width_in_ctbs p.sps) (height_in_ctbs p.sps) row column lower less) is in
      subst
      (λ (d : DecodedUnits). d.filters.units c column row
      ≡ filter_unit p known.segment ((values_in p d).offsets column row) c)
      (sym (folded_is f range k p has))
      (unit_comes_back p plan_sps (pictures_before f k) row column known lower less is own.0 own.1 c few)
