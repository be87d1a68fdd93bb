-- What each unit of a picture adds for its loop filters is its step over what stands beside it in the whole picture.
use Rattle.std.proofs.Common.{◌≡◌, ◌≢◌, ℕ, zero, suc, ◌+◌, ◌-◌, ◌<◌, ◌≤◌, ◌==◌, ◌&&◌, Bool}
use Rattle.std.proofs.Common.{true, false, Option, Some, None, List, [], ◌∷◌, ◌++◌, All, get_or, length, nat_le}
use Rattle.std.proofs.Common.{nat_lt}
use Rattle.std.proofs.Common.{refl, sym, ap, ◌∙◌, if◌then◌else◌, slice_get, fold, arith}
use Rattle.std.proofs.lemmas.Bool.{and_from, and_parts, eqb-true, leb-true, ltb-true}
use Rattle.std.proofs.lemmas.Bool.Decides.{nat_tests}
use Rattle.header_types.specs.SequenceParameterSets.{height_in_ctbs}
use Rattle.known_unit_laws.specs.PlanTypes.{SegmentPlan}
use Rattle.known_unit_laws.specs.PlanTypes.{PicturePlan}
use Rattle.locality_laws.specs.PictureBuffer.{PlaceMotion}
use Rattle.known_unit_laws.specs.SpecSliceData.{PictureShape, column_of, row_of}
use Rattle.spec_flights.specs.SpecBoundaryStrengths.{UnitPlace}
use Rattle.spec_flights.specs.SpecDeblocking.{Place}
use Rattle.spec_flights.specs.SpecSampleAdaptiveOffset.{OffsetUnit}
use Rattle.known_unit_laws.specs.SpecPictureTrees.{TreeUnit}
use Rattle.known_unit_laws.specs.SpecPictureTrees.{first_column, first_row, has_place, is_of_unit, is_there, unit_at}
use Rattle.known_unit_laws.specs.SpecPictureTrees.{unit_places}
use Rattle.known_unit_laws.specs.SpecPictureTrees.{picture_shape, qp_bd_offset}
use Rattle.locality_laws.specs.SpecPictureMotion.{unit_added as motion_added, units_derived}
use Rattle.locality_laws.specs.SpecPictureMotion.{Motions}
use Rattle.locality_laws.specs.SpecPictureBuild.{DecodedPicture, motions_of}
use Rattle.spec_flights.specs.SpecPictureFilters.{FilterData}
use Rattle.spec_flights.specs.SpecPictureFilters.{beside_unit, coded_laid, coded_near, is_component, motion_near}
use Rattle.spec_flights.specs.SpecPictureFilters.{pcm_disabled}
use Rattle.spec_flights.specs.SpecPictureFilters.{place_of, places_laid, places_read, read_added}
use Rattle.spec_flights.specs.SpecPictureFilters.{unit_added as filters_added}
use Rattle.spec_flights.specs.SpecPictureFilters.{units_laid}
use Rattle.spec_flights.specs.SpecDecodedPictures.{DecodedUnits, decoded_in, no_units, unit_decoded, units_folded}
use Rattle.spec_flights.specs.SpecDecodedPictures.{with_unit}
use Rattle.spec_flights.proofs.SpecDecodedPicturesLemmas.{one_fold}
use Rattle.locality_laws.proofs.Motion.{place_is, some_places}
use Rattle.locality_laws.proofs.Moved.{motion_is_final}
use Rattle.locality_laws.proofs.Places.{above_of, left_of, same_address}
use Rattle.locality_laws.proofs.Whole.{motion_is}
use Rattle.known_picture_laws.specs.FilterData.{FilterDataAgree, is_directly_beside}
use Rattle.known_picture_laws.proofs.Strengths.{AgreeAt, place_same}

unless : {A : Type 0} (b : Bool) (x y : A) → (b ≡ true → ⊥) → (if b then x else y) ≡ y
unless true x y never = absurd (never refl)
unless false x y never = refl

pub where_it_is : {A : Type 0} (b : Bool) (x y : A) → b ≡ true → (if b then x else y) ≡ x
where_it_is true x y is = refl
where_it_is false x y is = absurd cc

same_if : {A : Type 0} (b : Bool) (x y o : A) → (b ≡ true → x ≡ y) → (if b then x else o) ≡ (if b then y else o)
same_if true x y o e = e refl
same_if false x y o e = refl

-- the places that a place of a unit asks for, counted from 1 at the unit's first place, not at its corner
module _ (picture : PictureShape) (a : ℕ) where
  abbrev n : ℕ
  n = unit_places picture

  abbrev X : ℕ
  X = first_column picture a

  abbrev Y : ℕ
  Y = first_row picture a

  abbrev place_unit : ℕ → ℕ → ℕ
  place_unit x y = unit_at picture (unit_places picture) x y

  left_beside : (k : ℕ) → 1 ≤ X → k < n → is_directly_beside n X Y (X + 0 - 1) (Y + suc k - 1) ≡ true
  left_beside k some few = grind (arith, nat_tests)

  above_beside : (k : ℕ) → 1 ≤ Y → k < n → is_directly_beside n X Y (X + suc k - 1) (Y + 0 - 1) ≡ true
  above_beside k some few = grind (arith, nat_tests)

  left_unit : (k : ℕ) → 1 ≤ X → k < n → place_unit (X + 0 - 1) (Y + suc k - 1) < a
  unfolding unit_at
  left_unit k some few =
      let e = left_of n picture.width a (X + 0 - 1) (Y + suc k - 1) (some_places picture) (omega (arith, some))
      (omega arith) (omega (arith, few)) in
      omega (arith, e)

  above_unit : (k : ℕ) → 1 ≤ picture.width → 1 ≤ Y → k < n → place_unit (X + suc k - 1) (Y + 0 - 1) < a
  unfolding unit_at
  above_unit k wide some few =
      let e = above_of n picture.width a (X + suc k - 1) (Y + 0 - 1) (some_places picture) (omega arith)
      (omega (arith, few)) (omega (arith, some)) in
      omega (arith, e, wide)

  own_place : (i j : ℕ) → i < n → j < n → has_place picture (X + i) (Y + j) ≡ true
      → is_of_unit picture a (X + i) (Y + j) ≡ true
  own_place i j across down there =
      let columns : (nat_le X (X + i) && nat_lt (X + i) (X + n)) ≡ true = grind (arith, nat_tests) in
      let rows : (nat_le Y (Y + j) && nat_lt (Y + j) (Y + n)) ≡ true = grind (arith, nat_tests) in
      and_from _ _ there (and_from _ _ columns rows)

-- a unit leaves what others added
module _ (buffer : List DecodedPicture) (p : PicturePlan) where
  abbrev shape : PictureShape
  shape = picture_shape p.sps p.pps

  abbrev unit_of : ℕ → ℕ → ℕ
  unit_of x y = unit_at shape (unit_places shape) x y

  places_leave : (s : Option SegmentPlan) (unit : TreeUnit) (d : DecodedUnits) (x y : ℕ) → unit_of x y ≢ unit.ctu
      → (decoded_in buffer p s unit d).filters.places x y ≡ d.filters.places x y
  unfolding unit_decoded read_added places_laid
  places_leave None unit d x y other = refl
  places_leave (Some s) unit d x y other =
      unless (is_of_unit shape unit.ctu x y) _ _ (λ e. other (place_is shape unit.ctu x y e))

  coded_leave : (s : Option SegmentPlan) (unit : TreeUnit) (d : DecodedUnits) (x y : ℕ) → unit_of x y ≢ unit.ctu
      → (decoded_in buffer p s unit d).filters.coded x y ≡ d.filters.coded x y
  unfolding unit_decoded read_added coded_laid
  coded_leave None unit d x y other = refl
  coded_leave (Some s) unit d x y other =
      unless (is_of_unit shape unit.ctu x y) _ _ (λ e. other (place_is shape unit.ctu x y e))

  component_is : (a c column row : ℕ) → is_component p a c column row ≡ true
      → (column ≡ column_of shape a) × (row ≡ row_of shape a)
  component_is a c column row e =
      let tests = and_parts (nat_lt c 3 && nat_lt (row_of shape a) (height_in_ctbs p.sps)) _ e in
      let at = and_parts (column == column_of shape a) _ tests.1 in
      (eqb-true _ _ at.0, eqb-true _ _ at.1)

  other_component : (a b c column row : ℕ) → is_component p a c column row ≡ true → a ≢ b
      → is_component p b c column row ≡ true → ⊥
  other_component a b c column row mine apart yours =
      let x = component_is a c column row mine in
      let y = component_is b c column row yours in
      apart (same_address a b shape.width (sym x.0 ∙ y.0) (sym x.1 ∙ y.1))

  units_leave : (s : Option SegmentPlan) (unit : TreeUnit) (d : DecodedUnits) (a c column row : ℕ)
      → is_component p a c column row ≡ true → a ≢ unit.ctu
      → (decoded_in buffer p s unit d).filters.units c column row ≡ d.filters.units c column row
  unfolding unit_decoded read_added units_laid
  units_leave None unit d a c column row mine apart = refl
  units_leave (Some s) unit d a c column row mine apart =
      unless (is_component p unit.ctu c column row) _ _ (other_component a unit.ctu c column row mine apart)

  -- what each of these units leaves, all of them leave
  all_leave : {A : Type 0} (get : DecodedUnits → A) (later : List TreeUnit) (d : DecodedUnits)
      → ((k : ℕ) (u : TreeUnit) (e : DecodedUnits) → k < length later
      → get (with_unit buffer p e (get_or later k u)) ≡ get e)
      → get (fold (with_unit buffer p) d later) ≡ get d
  all_leave get [] d each = refl
  all_leave get (u ∷ later) d each =
      all_leave get later (with_unit buffer p d u) (λ k v e inside. each (suc k) v e (omega arith))
      ∙ each 0 u d (omega arith)

  folded : (before : List TreeUnit) (unit : TreeUnit) (later : List TreeUnit) (d : DecodedUnits)
      → fold (with_unit buffer p) d (before ++ unit ∷ later)
      ≡ fold (with_unit buffer p) (with_unit buffer p (fold (with_unit buffer p) d before) unit) later
  folded [] unit later d = refl
  folded (u ∷ before) unit later d = folded before unit later (with_unit buffer p d u)

  -- the motion of the units is what is derived
  pub folded_motion : (units : List TreeUnit)
      → (units_folded buffer p units).motions ≡ units_derived (motions_of buffer) p units
  folded_motion units =
      ap (λ (d : DecodedUnits). d.motions) (one_fold buffer p units) ∙ motion_is buffer p units

  module _ (before later : List TreeUnit) (unit : TreeUnit) (s : SegmentPlan)
      (has : slice_get p.segments unit.segment ≡ Some s) (behind : All (λ (u : TreeUnit). unit.ctu < u.ctu) later) where
    abbrev whole : DecodedUnits
    whole = units_folded buffer p (before ++ unit ∷ later)

    abbrev so_far : DecodedUnits
    so_far = units_folded buffer p before

    abbrev after : DecodedUnits
    after = unit_decoded buffer p s unit so_far

    whole_is : whole ≡ fold (with_unit buffer p) after later
    unfolding units_folded
    whole_is =
        folded before unit later no_units
        ∙ ap (λ o. fold (with_unit buffer p) (decoded_in buffer p o unit (fold (with_unit buffer p) no_units before))
        later) has

    later_other : (k : ℕ) (u : TreeUnit) (b : ℕ) → k < length later → b ≤ unit.ctu → b ≢ (get_or later k u).ctu
    later_other k u b inside most e = let less = behind k u inside in omega (arith, less, most, e)

    places_final : (x y : ℕ) → unit_of x y ≤ unit.ctu → whole.filters.places x y ≡ after.filters.places x y
    places_final x y most =
        ap (λ (d : DecodedUnits). d.filters.places x y) whole_is
        ∙ all_leave (λ d. d.filters.places x y) later after (λ k u e inside.
        places_leave (slice_get p.segments (get_or later k u).segment) (get_or later k u) e x y
        (later_other k u (unit_of x y) inside most))

    coded_final : (x y : ℕ) → unit_of x y ≤ unit.ctu → whole.filters.coded x y ≡ after.filters.coded x y
    coded_final x y most =
        ap (λ (d : DecodedUnits). d.filters.coded x y) whole_is
        ∙ all_leave (λ d. d.filters.coded x y) later after (λ k u e inside.
        coded_leave (slice_get p.segments (get_or later k u).segment) (get_or later k u) e x y
        (later_other k u (unit_of x y) inside most))

    coded_before : (x y : ℕ) → unit_of x y < unit.ctu → so_far.filters.coded x y ≡ whole.filters.coded x y
    coded_before x y first =
        sym (coded_final x y (omega (arith, first))
        ∙ coded_leave (Some s) unit so_far x y (λ e. omega (arith, first, e)))

    units_final : (c column row : ℕ) → is_component p unit.ctu c column row ≡ true
        → whole.filters.units c column row ≡ after.filters.units c column row
    units_final c column row mine =
        ap (λ (d : DecodedUnits). d.filters.units c column row) whole_is
        ∙ all_leave (λ d. d.filters.units c column row) later after (λ k u e inside.
        units_leave (slice_get p.segments (get_or later k u).segment) (get_or later k u) e unit.ctu c column row mine
        (later_other k u unit.ctu inside (omega arith)))

    -- the motion behind the unit
    abbrev moved : Motions
    moved = motion_added (motions_of buffer) p s unit so_far.motions

    motion_final : (x y : ℕ) → unit_of x y ≤ unit.ctu → moved x y ≡ whole.motions x y
    motion_final x y most =
        ap (λ (m : Motions). motion_added (motions_of buffer) p s unit m x y) (folded_motion before)
        ∙ motion_is_final (motions_of buffer) p before later unit s has behind x y most
        ∙ ap (λ (m : Motions). m x y) (sym (folded_motion (before ++ unit ∷ later)))

    module _ (m : Motions) (g : FilterData) (wide : 1 ≤ shape.width)
        (agree : FilterDataAgree shape unit.ctu whole.motions m whole.filters.coded g.coded) where
      abbrev first : ℕ
      first = first_column shape unit.ctu

      abbrev top : ℕ
      top = first_row shape unit.ctu

      -- the motion of each place that is asked for
      motion_at : (column row : ℕ) → column ≤ unit_places shape → row ≤ unit_places shape → 1 ≤ column + row
          → is_there shape unit.ctu column row ≡ true
          → moved (first + column - 1) (top + row - 1) ≡ m (first + column - 1) (top + row - 1)
      motion_at zero zero across down some there = absurd (omega (arith, some))
      motion_at zero (suc k) across down some there =
          let tests = and_parts _ (has_place shape (first + 0 - 1) (top + suc k - 1)) there in
          let inside = and_parts (nat_le 1 (first + 0)) _ tests.0 in
          let right : 1 ≤ first + 0 = leb-true _ _ inside.0 in
          motion_final (first + 0 - 1) (top + suc k - 1)
          (let less = left_unit shape unit.ctu k (omega (arith, right)) (omega (arith, down)) in omega (arith, less))
          ∙ agree.beside (first + 0 - 1) (top + suc k - 1)
          (and_from _ _ tests.1 (left_beside shape unit.ctu k (omega (arith, right)) (omega (arith, down))))
      motion_at (suc k) zero across down some there =
          let tests = and_parts _ (has_place shape (first + suc k - 1) (top + 0 - 1)) there in
          let inside = and_parts (nat_le 1 (first + suc k)) _ tests.0 in
          let low : 1 ≤ top + 0 = leb-true _ _ inside.1 in
          motion_final (first + suc k - 1) (top + 0 - 1)
          (let less = above_unit shape unit.ctu k wide (omega (arith, low)) (omega (arith, across)) in
          omega (arith, less))
          ∙ agree.beside (first + suc k - 1) (top + 0 - 1)
          (and_from _ _ tests.1 (above_beside shape unit.ctu k (omega (arith, low)) (omega (arith, across))))
      motion_at (suc i) (suc j) across down some there =
          let tests = and_parts _ (has_place shape (first + suc i - 1) (top + suc j - 1)) there in
          let x : first + suc i - 1 ≡ first + i = omega arith in
          let y : top + suc j - 1 ≡ top + j = omega arith in
          let has_it : has_place shape (first + i) (top + j) ≡ true =
          ap (λ k. has_place shape k (top + j)) (sym x)
          ∙ ap (λ k. has_place shape (first + suc i - 1) k) (sym y) ∙ tests.1 in
          let mine = own_place shape unit.ctu i j (omega (arith, across)) (omega (arith, down)) has_it in
          let is = place_is shape unit.ctu (first + i) (top + j) mine in
          let same : moved (first + i) (top + j) ≡ m (first + i) (top + j) =
          motion_final (first + i) (top + j) (omega (arith, is)) ∙ agree.own (first + i) (top + j) mine in
          ap (λ k. moved k (top + suc j - 1)) x ∙ ap (λ k. moved (first + i) k) y ∙ same
          ∙ sym (ap (λ k. m k (top + suc j - 1)) x ∙ ap (λ k. m (first + i) k) y)

      near : (column row : ℕ) → column ≤ unit_places shape → row ≤ unit_places shape → 1 ≤ column + row
          → motion_near shape unit.ctu moved column row ≡ motion_near shape unit.ctu m column row
      unfolding motion_near
      near column row across down some =
          same_if {A = Option PlaceMotion} (is_there shape unit.ctu column row) _ _ None
          (motion_at column row across down some)

      coded_left : (k : ℕ) → k < unit_places shape
          → coded_near shape unit.ctu so_far.filters.coded 0 (suc k) ≡ coded_near shape unit.ctu g.coded 0 (suc k)
      unfolding coded_near
      coded_left k few =
          same_if {A = Bool} (is_there shape unit.ctu 0 (suc k)) _ _ false (λ there.
          let tests = and_parts _ (has_place shape (first + 0 - 1) (top + suc k - 1)) there in
          let inside = and_parts (nat_le 1 (first + 0)) _ tests.0 in
          let right : 1 ≤ first + 0 = leb-true _ _ inside.0 in
          coded_before (first + 0 - 1) (top + suc k - 1) (left_unit shape unit.ctu k (omega (arith, right)) few)
          ∙ agree.coded (first + 0 - 1) (top + suc k - 1)
          (and_from _ _ tests.1 (left_beside shape unit.ctu k (omega (arith, right)) few)))

      coded_top : (k : ℕ) → k < unit_places shape
          → coded_near shape unit.ctu so_far.filters.coded (suc k) 0 ≡ coded_near shape unit.ctu g.coded (suc k) 0
      unfolding coded_near
      coded_top k few =
          same_if {A = Bool} (is_there shape unit.ctu (suc k) 0) _ _ false (λ there.
          let tests = and_parts _ (has_place shape (first + suc k - 1) (top + 0 - 1)) there in
          let inside = and_parts (nat_le 1 (first + suc k)) _ tests.0 in
          let low : 1 ≤ top + 0 = leb-true _ _ inside.1 in
          coded_before (first + suc k - 1) (top + 0 - 1) (above_unit shape unit.ctu k wide (omega (arith, low)) few)
          ∙ agree.coded (first + suc k - 1) (top + 0 - 1)
          (and_from _ _ tests.1 (above_beside shape unit.ctu k (omega (arith, low)) few)))

      surroundings : (i j : ℕ) → i < unit_places shape → j < unit_places shape
          → AgreeAt (beside_unit p s unit.ctu moved so_far.filters.coded) (beside_unit p s unit.ctu m g.coded) i j
      unfolding beside_unit
      surroundings i j across down =
          let next_i : i + 1 ≡ suc i = omega arith in
          let next_j : j + 1 ≡ suc j = omega arith in
          record {
            left = refl;
            top = refl;
            disabled = refl;
            own = near (i + 1) (j + 1) (omega (arith, across)) (omega (arith, down)) (omega arith);
            on_left = near i (j + 1) (omega (arith, across)) (omega (arith, down)) (omega arith);
            on_top = near (i + 1) j (omega (arith, across)) (omega (arith, down)) (omega arith);
            coded_left = λ e.
                ap (λ k. coded_near shape unit.ctu so_far.filters.coded k (j + 1)) e
                ∙ ap (λ k. coded_near shape unit.ctu so_far.filters.coded 0 k) next_j
                ∙ coded_left j down
                ∙ sym (ap (λ k. coded_near shape unit.ctu g.coded k (j + 1)) e
                ∙ ap (λ k. coded_near shape unit.ctu g.coded 0 k) next_j);
            coded_top = λ e.
                ap (λ k. coded_near shape unit.ctu so_far.filters.coded (i + 1) k) e
                ∙ ap (λ k. coded_near shape unit.ctu so_far.filters.coded k 0) next_i
                ∙ coded_top i across
                ∙ sym (ap (λ k. coded_near shape unit.ctu g.coded (i + 1) k) e
                ∙ ap (λ k. coded_near shape unit.ctu g.coded k 0) next_i);
          }

      read_same : (i j : ℕ) → i < unit_places shape → j < unit_places shape
          → places_read p s unit.ctu unit.read.items moved so_far.filters.coded i j
          ≡ places_read p s unit.ctu unit.read.items m g.coded i j
      unfolding places_read
      read_same i j across down =
          place_same (beside_unit p s unit.ctu moved so_far.filters.coded) (beside_unit p s unit.ctu m g.coded)
          unit.read.items i j (surroundings i j across down) (pcm_disabled p.sps.tools.pcm) (qp_bd_offset p.sps)

      inside_unit : (x y : ℕ) → is_of_unit shape unit.ctu x y ≡ true
          → (x - first < unit_places shape) × (y - top < unit_places shape)
      inside_unit x y mine =
          let tests = and_parts (has_place shape x y) _ mine in
          let both = and_parts (nat_le first x && nat_lt x (first + unit_places shape)) _ tests.1 in
          let columns = and_parts (nat_le first x) _ both.0 in
          let rows = and_parts (nat_le top y) _ both.1 in
          let a : x < first + unit_places shape = ltb-true _ _ columns.1 in
          let b : y < top + unit_places shape = ltb-true _ _ rows.1 in
          (omega (arith, a, leb-true _ _ columns.0), omega (arith, b, leb-true _ _ rows.0))

      read_at : (x y : ℕ) → is_of_unit shape unit.ctu x y ≡ true
          → places_read p s unit.ctu unit.read.items moved so_far.filters.coded (x - first) (y - top)
          ≡ places_read p s unit.ctu unit.read.items m g.coded (x - first) (y - top)
      read_at x y mine = let in_it = inside_unit x y mine in read_same (x - first) (y - top) in_it.0 in_it.1

      pub places_are_steps : (x y : ℕ) → is_of_unit shape unit.ctu x y ≡ true
          → whole.filters.places x y ≡ (filters_added p s unit m g).places x y
      unfolding unit_decoded read_added places_laid
      places_are_steps x y mine =
          let is = place_is shape unit.ctu x y mine in
          places_final x y (omega (arith, is))
          ∙ where_it_is {A = Place} (is_of_unit shape unit.ctu x y) _ _ mine
          ∙ ap (place_of s.header.slice.deblocking) (read_at x y mine)
          ∙ sym (where_it_is {A = Place} (is_of_unit shape unit.ctu x y) _ _ mine)

      pub coded_are_steps : (x y : ℕ) → is_of_unit shape unit.ctu x y ≡ true
          → whole.filters.coded x y ≡ (filters_added p s unit m g).coded x y
      unfolding unit_decoded read_added coded_laid
      coded_are_steps x y mine =
          let is = place_is shape unit.ctu x y mine in
          coded_final x y (omega (arith, is))
          ∙ where_it_is {A = Bool} (is_of_unit shape unit.ctu x y) _ _ mine
          ∙ ap (λ (r : UnitPlace). r.coded) (read_at x y mine)
          ∙ sym (where_it_is {A = Bool} (is_of_unit shape unit.ctu x y) _ _ mine)

      pub units_are_steps : (c column row : ℕ) → is_component p unit.ctu c column row ≡ true
          → whole.filters.units c column row ≡ (filters_added p s unit m g).units c column row
      unfolding unit_decoded read_added units_laid
      units_are_steps c column row mine =
          units_final c column row mine
          ∙ where_it_is {A = OffsetUnit} (is_component p unit.ctu c column row) _ _ mine
          ∙ sym (where_it_is {A = OffsetUnit} (is_component p unit.ctu c column row) _ _ mine)
