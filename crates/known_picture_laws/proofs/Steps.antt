-- A known unit in its picture is the step of what it is decoded from.
use Rattle.std.proofs.Common.{◌≡◌, ℕ, ◌+◌, ◌<◌, ◌≤◌, ◌==◌, ◌&&◌, ◌||◌, Bool, true, false, nat_le, nat_lt}
use Rattle.std.proofs.Common.{List, ◌∷◌, ◌++◌, All, Some, slice_get, refl, sym, ap, subst, ◌∙◌, arith}
use Rattle.std.proofs.lemmas.Bool.{and_parts, eqb-true, leb-true, ltb-true}
use Rattle.header_types.specs.SequenceParameterSets.{IsSps, ctb_log2, size_in_ctbs}
use Rattle.known_unit_laws.specs.PlanTypes.{SegmentPlan}
use Rattle.known_unit_laws.specs.PlanTypes.{PicturePlan}
use Rattle.known_unit_laws.specs.SpecSliceData.{PictureShape}
use Rattle.known_unit_laws.specs.SpecPictureTrees.{TreeUnit}
use Rattle.known_unit_laws.specs.SpecPictureTrees.{first_column, first_row, has_place, unit_at, unit_places}
use Rattle.known_unit_laws.specs.SpecPictureTrees.{is_of_unit as has_place_of}
use Rattle.known_unit_laws.specs.SpecPictureTrees.{picture_shape}
use Rattle.known_unit_laws.specs.SpecKnownUnits.{KnownUnit, known_units, units_known}
use Rattle.locality_laws.specs.SpecPictureMotion.{known_of_unit, unit_added as motion_added}
use Rattle.locality_laws.specs.SpecPictureMotion.{Motions}
use Rattle.locality_laws.specs.SpecPictureMotion.{slice_motion}
use Rattle.locality_laws.specs.SpecPictureBuild.{is_of_unit, units_built}
use Rattle.locality_laws.specs.SpecPictureBuild.{DecodedPicture, motions_of}
use Rattle.spec_flights.specs.SpecPictureFilters.{units_filtered}
use Rattle.spec_flights.specs.SpecDecodedPictures.{DecodedUnits, joined, unit_decoded, units_folded}
use Rattle.spec_flights.proofs.SpecDecodedPicturesLemmas.{one_fold}
use Rattle.locality_laws.proofs.Motion.{motion_stays, some_places}
use Rattle.locality_laws.proofs.Moved.{motion_is_its_step}
use Rattle.locality_laws.proofs.Places.{above_of, left_of}
use Rattle.locality_laws.proofs.Whole.{samples_are_steps}
use Rattle.locality_laws.proofs.Widths.{some_units}
use Rattle.spec_flights.specs.Pictures.{known_folded}
use Rattle.spec_flights.specs.References.{given_at}
use Rattle.known_picture_laws.specs.FilterData.{FilterDataAgree, is_place_beside}
use Rattle.known_picture_laws.specs.Order.{IsInOrder}
use Rattle.known_picture_laws.specs.Steps.{AgreeOnUnit, ReadsAsPicture}
use Rattle.known_picture_laws.proofs.FilterData.{coded_are_steps, folded_motion, places_are_steps, units_are_steps}
use Rattle.known_picture_laws.proofs.Order.{in_order}

-- the units directly beside a unit are decoded before it
module _ (picture : PictureShape) (a x y : ℕ) (wide : 1 ≤ picture.width) where
  abbrev n : ℕ
  n = unit_places picture

  abbrev X : ℕ
  X = first_column picture a

  abbrev Y : ℕ
  Y = first_row picture a

  abbrev on_left : Bool
  on_left = x + 1 == X && (nat_le Y y && nat_lt y (Y + n))

  abbrev on_top : Bool
  on_top = y + 1 == Y && (nat_le X x && nat_lt x (X + n))

  left_before : on_left ≡ true → unit_at picture (unit_places picture) x y < a
  unfolding unit_at
  left_before t =
      let tests = and_parts (x + 1 == X) _ t in
      let rows = and_parts (nat_le Y y) _ tests.1 in
      let e = left_of n picture.width a x y (some_places picture) (eqb-true _ _ tests.0) (leb-true _ _ rows.0)
      (ltb-true _ _ rows.1) in
      omega (arith, e)

  top_before : on_top ≡ true → unit_at picture (unit_places picture) x y < a
  unfolding unit_at
  top_before t =
      let tests = and_parts (y + 1 == Y) _ t in
      let columns = and_parts (nat_le X x) _ tests.1 in
      let e = above_of n picture.width a x y (some_places picture) (leb-true _ _ columns.0) (ltb-true _ _ columns.1)
      (eqb-true _ _ tests.0) in
      omega (arith, e, wide)

  either : (b c : Bool) → (b || c) ≡ true → (b ≡ true → unit_at picture (unit_places picture) x y < a)
      → (c ≡ true → unit_at picture (unit_places picture) x y < a) → unit_at picture (unit_places picture) x y < a
  either true c t left top = left refl
  either false c t left top = top t

  pub beside_before : is_place_beside picture a x y ≡ true → unit_at picture (unit_places picture) x y < a
  beside_before t = either on_left on_top (and_parts (has_place picture x y) _ t).1 left_before top_before

module _ (buffer others : List DecodedPicture) (p : PicturePlan) (before later : List TreeUnit) (unit : TreeUnit)
    (s : SegmentPlan) (g : DecodedUnits) (sps : IsSps p.sps) (has : slice_get p.segments unit.segment ≡ Some s)
    (behind : All (λ (u : TreeUnit). unit.ctu < u.ctu) later) where
  abbrev shape : PictureShape
  shape = picture_shape p.sps p.pps

  abbrev units : List TreeUnit
  units = before ++ unit ∷ later

  abbrev whole : DecodedUnits
  whole = units_folded buffer p units

  abbrev step : DecodedUnits
  step = unit_decoded others p s unit g

  built_is : joined (units_built buffer p units) (units_filtered (motions_of buffer) p units) ≡ whole
  built_is = sym (one_fold buffer p units)

  -- the motion behind the step
  abbrev moved : Motions
  moved = motion_added (motions_of others) p s unit g.motions

  module _ (r : ReadsAsPicture buffer others p s unit whole g) where
    samples_step : (c x y : ℕ) → is_of_unit shape unit.ctu c x y ≡ true → whole.samples c x y ≡ step.samples c x y
    unfolding unit_decoded
    samples_step c x y mine =
        ap (λ (d : DecodedUnits). d.samples c x y) (sym built_is)
        ∙ samples_are_steps buffer others p before later unit s g.motions (ctb_log2 p.sps.blocks) g.samples c x y
        (some_units p sps) (omega (arith, sps.blocks.least_ctb)) has behind
        (λ d i j border there. ap (λ (e : DecodedUnits). e.samples d i j) built_is ∙ r.samples d i j border there)
        (λ i j border there. ap (λ (e : DecodedUnits). e.motions i j) built_is ∙ r.motions i j border there)
        r.beneath r.needed mine

    motion_step : (x y : ℕ) → has_place_of shape unit.ctu x y ≡ true → whole.motions x y ≡ moved x y
    motion_step x y mine =
        ap (λ (m : Motions). m x y) (folded_motion buffer p units)
        ∙ motion_is_its_step (motions_of buffer) p before later unit s (motions_of others) g.motions x y has behind
        (λ i j border there. ap (λ (m : Motions). m i j) (sym (folded_motion buffer p units))
        ∙ r.motions i j border there) r.beneath mine

    edges_agree : FilterDataAgree shape unit.ctu whole.motions moved whole.filters.coded g.filters.coded
    unfolding motion_added
    edges_agree = record {
      own = motion_step;
      beside = λ x y t.
          r.edges x y t
          ∙ sym (motion_stays shape unit.ctu (slice_motion p s unit.ctu)
          (known_of_unit (motions_of others) p s unit g.motions) g.motions x y
          (λ e. let less = beside_before shape unit.ctu x y (some_units p sps) t in omega (arith, less, e)));
      coded = r.coded;
    }

    pub agrees : AgreeOnUnit p unit.ctu whole step
    unfolding unit_decoded
    agrees = record {
      samples = samples_step;
      motions = motion_step;
      places = places_are_steps buffer p before later unit s has behind moved g.filters (some_units p sps) edges_agree;
      coded = coded_are_steps buffer p before later unit s has behind moved g.filters (some_units p sps) edges_agree;
      units = units_are_steps buffer p before later unit s has behind moved g.filters (some_units p sps) edges_agree;
    }

module _ (buffer others : List DecodedPicture) (p : PicturePlan) (address : ℕ) (known : KnownUnit) (s : SegmentPlan)
    (g : DecodedUnits) where
  abbrev Holds : List TreeUnit → Type 0
  Holds given =
      ReadsAsPicture buffer others p s (given_at address known) (units_folded buffer p given) g
      → AgreeOnUnit p address (units_folded buffer p given) (unit_decoded others p s (given_at address known) g)

  pub decoded_by_step : IsSps p.sps → address < size_in_ctbs p.sps → units_known p address ≡ Some known
      → slice_get p.segments known.segment ≡ Some s
      → ReadsAsPicture buffer others p s (given_at address known) (known_folded buffer p) g
      → AgreeOnUnit p address (known_folded buffer p) (unit_decoded others p s (given_at address known) g)
  decoded_by_step sps inside is has =
      let o : IsInOrder (known_units p) (given_at address known) = in_order p address known inside is in
      subst Holds (sym o.is)
      (agrees buffer others p o.before o.later (given_at address known) s g sps has o.behind)
