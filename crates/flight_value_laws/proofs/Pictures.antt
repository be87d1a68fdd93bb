-- What the known units of a picture make of it fits its words: motion, and boundary strengths.
use Rattle.std.proofs.Common.{◌≡◌, ℕ, ◌+◌, ◌-◌, ◌*◌, ◌≤◌, ◌&&◌, Bool, true, false, cond, nat_le, nat_lt}
use Rattle.std.proofs.Common.{List, [], ◌∷◌, All, IfSome, Option, Some, None, refl, sym, ap, subst, ◌∙◌}
use Rattle.std.proofs.Common.{arith, slice_get, if◌then◌else◌}
use Rattle.std.specs.List.{fold}
use Rattle.std.proofs.lemmas.List.Elements.{All-append, All-cons, All-head, All-nil, All-tail}
use Rattle.header_types.specs.SequenceParameterSets.{size_in_ctbs}
use Rattle.header_types.specs.declared.reference_pictures.RefEntry.{RefEntry}
use Rattle.plan_types.specs.declared.picture_plan.PicturePlan.{PicturePlan}
use Rattle.plan_types.specs.declared.segment_plan.SegmentPlan.{SegmentPlan}
use Rattle.plan_types.specs.Segments.{address_of}
use Rattle.ctu_records.specs.declared.item.Item.{Item}
use Rattle.spec_motion.specs.declared.slice_motion.SliceMotion.{SliceMotion}
use Rattle.spec_motion.specs.declared.vectors.Motion.{Motion}
use Rattle.spec_motion.specs.declared.vectors.Vector.{Vector}
use Rattle.known_picture_laws.specs.PictureBuffer.{PlaceMotion}
use Rattle.known_picture_laws.specs.PictureBuffer.{PlaceVector}
use Rattle.spec_slice_data.specs.Segment.{PictureShape}
use Rattle.spec_known_units.specs.SpecPictureTrees.{TreeUnit}
use Rattle.spec_known_units.specs.SpecPictureTrees.{first_column, first_row, is_available, is_of_unit, unit_places}
use Rattle.spec_known_units.specs.SpecPictureTrees.{picture_shape, slice_start}
use Rattle.spec_known_units.specs.Known.{KnownUnit, as_given, given_of, known_before, units_known}
use Rattle.known_picture_laws.specs.SpecPictureMotion.{References, collocated_motions, known_of_unit}
use Rattle.known_picture_laws.specs.SpecPictureMotion.{unit_added as motion_added}
use Rattle.known_picture_laws.specs.SpecPictureMotion.{Motions, beneath_unit, collocated_of, is_border, known_beside}
use Rattle.known_picture_laws.specs.SpecPictureMotion.{motion_beside}
use Rattle.known_picture_laws.specs.SpecPictureMotion.{motion_of, no_motions, pointing_motion, pointing_vector}
use Rattle.known_picture_laws.specs.SpecPictureMotion.{unit_laid}
use Rattle.known_picture_laws.specs.SpecPictureMotion.{vector_of}
use Rattle.known_picture_laws.specs.SpecPictureMotion.{motion_of_slice, slice_motion}
use Rattle.sample_laws.specs.SpecBoundaryStrengths.{differ, motion_strength, vectors}
use Rattle.sample_laws.specs.SpecBoundaryStrengths.{unit_place}
use Rattle.sample_laws.specs.SpecBoundaryStrengths.{Beside, left_strength, strength, top_strength}
use Rattle.sample_laws.specs.SpecDeblocking.{Place}
use Rattle.sample_laws.specs.SpecPictureFilters.{FilterData, no_data}
use Rattle.sample_laws.specs.SpecPictureFilters.{place_of, places_laid, places_read, read_added}
use Rattle.sample_laws.specs.SpecPictureBuild.{DecodedPicture, motions_of}
use Rattle.sample_laws.specs.SpecDecodedPictures.{DecodedUnits, decoded_in, no_units, unit_decoded, units_folded}
use Rattle.sample_laws.specs.SpecDecodedPictures.{with_unit}
use Rattle.flight_value_laws.specs.Motion.{AreMotionsHeld, IsHeld}
use Rattle.flight_value_laws.proofs.Derived.{AreBlocksFit, AreHeld, HasFewActive, IsBlockFit}
use Rattle.flight_value_laws.proofs.Derived.{IsToldItem, unit_held}

-- ---- motion

pub some_if : {X : Type 0} (P : X → Type 0) (b : Bool) (x y : Option X) → IfSome x P → IfSome y P
    → IfSome (cond b x y) P
some_if P true x y first second = first
some_if P false x y first second = second

-- motion with the pictures that it refers to, without these again
vector_again : (slice : SliceMotion) (list : ℕ) (v : Option Vector) → vector_of (pointing_vector slice list v) ≡ v
vector_again slice list None = refl
vector_again slice list (Some v) = refl

pub motion_again : (slice : SliceMotion) (o : Option Motion) → motion_of (pointing_motion slice o) ≡ o
motion_again slice None = refl
motion_again slice (Some m) =
    ap (λ v. Some (record { list_0 = v; list_1 = vector_of (pointing_vector slice 1 m.list_1) }))
    (vector_again slice 0 m.list_0)
    ∙ ap (λ v. Some (record { list_0 = m.list_0; list_1 = v })) (vector_again slice 1 m.list_1)

block_held : (a b : Option PlaceVector) → IsHeld (record { list_0 = vector_of a; list_1 = vector_of b })
    → IfSome (collocated_of (Some (record { list_0 = a; list_1 = b }))) IsBlockFit
block_held None None held = record { list_0 = tt; list_1 = tt }
block_held None (Some b) held =
    let v = held.fits.list_1 in record { list_0 = tt; list_1 = record { x = v.x; y = v.y } }
block_held (Some a) None held =
    let v = held.fits.list_0 in record { list_0 = record { x = v.x; y = v.y }; list_1 = tt }
block_held (Some a) (Some b) held =
    let v = held.fits.list_0 in
    let w = held.fits.list_1 in
    record { list_0 = record { x = v.x; y = v.y }; list_1 = record { x = w.x; y = w.y } }

collocated_held : (o : Option PlaceMotion) → IfSome (motion_of o) IsHeld → IfSome (collocated_of o) IsBlockFit
collocated_held None held = tt
collocated_held (Some m) held = block_held m.list_0 m.list_1 held

beneath_held : (picture : PictureShape) (address : ℕ) (motions : Motions) → AreMotionsHeld motions
    → AreBlocksFit (beneath_unit picture address motions)
unfolding beneath_unit
beneath_held picture address motions held column row =
    some_if IsBlockFit
    (nat_le (4 * column) (unit_places picture) && nat_lt (4 * row) (unit_places picture)) _ None
    (collocated_held (motions (first_column picture address + 4 * column) (first_row picture address + 4 * row))
    (held _ _)) tt

beside_held : (picture : PictureShape) (slice address : ℕ) (motions : Motions) → AreMotionsHeld motions
    → AreHeld (known_beside picture slice address motions)
unfolding known_beside motion_beside
beside_held picture slice address motions held column row =
    some_if IsHeld (is_border (unit_places picture) column row) _ None
    (some_if IsHeld
    ((nat_le 1 (first_column picture address + column) && nat_le 1 (first_row picture address + row))
    && is_available picture slice address (first_column picture address + column - 1)
    (first_row picture address + row - 1)) _ None (held _ _) tt) tt

few_active : (p : PicturePlan) (s : SegmentPlan) (address : ℕ) → HasFewActive (slice_motion p s address)
unfolding motion_of_slice
few_active p s address = record { list_0 = omega arith; list_1 = omega arith }

abbrev pub AreReferencesHeld : References → Type 0
AreReferencesHeld pictures = (place : ℕ) → AreMotionsHeld (pictures place)

none_held : AreMotionsHeld no_motions
none_held x y = tt

collocation_held : (pictures : References) (o : Option RefEntry) → AreReferencesHeld pictures
    → AreMotionsHeld (collocated_motions pictures o)
collocation_held pictures None held = none_held
collocation_held pictures (Some entry) held = held entry.place

module _ (pictures : References) (p : PicturePlan) (s : SegmentPlan) (unit : TreeUnit)
    (references : AreReferencesHeld pictures)
    (told : All (IsToldItem (slice_motion p s unit.ctu)) unit.read.items) where
  abbrev shape : PictureShape
  shape = picture_shape p.sps p.pps

  pub known_held : (motions : Motions) → AreMotionsHeld motions → AreHeld (known_of_unit pictures p s unit motions)
  unfolding known_of_unit
  known_held motions held =
      unit_held (slice_motion p s unit.ctu) _ unit.read.items
      (known_beside shape (address_of (slice_start p s)) unit.ctu motions) (few_active p s unit.ctu)
      (beneath_held shape unit.ctu _ (collocation_held pictures _ references))
      (beside_held shape (address_of (slice_start p s)) unit.ctu motions held) told

  added_held : (motions : Motions) → AreMotionsHeld motions → AreMotionsHeld (motion_added pictures p s unit motions)
  unfolding motion_added unit_laid
  added_held motions held x y =
      place_held (is_of_unit shape unit.ctu x y)
      (known_of_unit pictures p s unit motions (x - first_column shape unit.ctu + 1)
      (y - first_row shape unit.ctu + 1)) (motions x y) (known_held motions held _ _) (held x y)
    where
      place_held : (b : Bool) (o : Option Motion) (m : Option PlaceMotion) → IfSome o IsHeld
          → IfSome (motion_of m) IsHeld
          → IfSome (motion_of (if b then pointing_motion (slice_motion p s unit.ctu) o else m)) IsHeld
      place_held true o m is held =
          subst (λ q. IfSome q IsHeld) (sym (motion_again (slice_motion p s unit.ctu) o)) is
      place_held false o m is held = held

-- ---- boundary strengths

abbrev IsStrong : ℕ → Type 0
IsStrong v = v ≤ 2

strong_if : (b : Bool) (v w : ℕ) → v ≤ 2 → w ≤ 2 → cond b v w ≤ 2
strong_if true v w first second = first
strong_if false v w first second = second

motion_few : (p q : PlaceMotion) → motion_strength p q ≤ 2
unfolding motion_strength
motion_few p q = strong_if (differ (vectors p) (vectors q)) 1 0 (omega arith) (omega arith)

strength_few : (coded : Bool) (p q : Option PlaceMotion) → strength coded p q ≤ 2
unfolding strength
strength_few coded None None = omega arith
strength_few coded None (Some q) = omega arith
strength_few coded (Some p) None = omega arith
strength_few coded (Some p) (Some q) = strong_if coded 1 (motion_strength p q) (omega arith) (motion_few p q)

left_few : (beside : Beside) (items : List Item) (x y : ℕ) → left_strength beside items x y ≤ 2
unfolding left_strength
left_few beside items x y = strong_if _ _ 0 (strength_few _ _ _) (omega arith)

top_few : (beside : Beside) (items : List Item) (x y : ℕ) → top_strength beside items x y ≤ 2
unfolding top_strength
top_few beside items x y = strong_if _ _ 0 (strength_few _ _ _) (omega arith)

pub record IsPlaceFit (place : Place) : Type 0 where
  pub left : place.left_strength ≤ 2
  pub top : place.top_strength ≤ 2

place_if : (b : Bool) (v w : Place) → IsPlaceFit v → IsPlaceFit w → IsPlaceFit (cond b v w)
place_if true v w first second = first
place_if false v w first second = second

abbrev pub ArePlacesFit : (ℕ → ℕ → Place) → Type 0
ArePlacesFit places = (x y : ℕ) → IsPlaceFit (places x y)

read_fits : (p : PicturePlan) (s : SegmentPlan) (address : ℕ) (items : List Item) (motions : Motions)
    (coded : ℕ → ℕ → Bool) (x y : ℕ)
    → IsPlaceFit (place_of s.header.slice.deblocking (places_read p s address items motions coded x y))
unfolding place_of places_read unit_place
read_fits p s address items motions coded x y = record { left = left_few _ items x y; top = top_few _ items x y }

laid_fit : (p : PicturePlan) (s : SegmentPlan) (unit : TreeUnit) (motions : Motions) (gathered : FilterData)
    → ArePlacesFit gathered.places → ArePlacesFit (read_added p s unit.ctu unit.read motions gathered).places
unfolding read_added places_laid
laid_fit p s unit motions gathered fit x y =
    place_if (is_of_unit (picture_shape p.sps p.pps) unit.ctu x y) _ (gathered.places x y)
    (read_fits p s unit.ctu unit.read.items motions gathered.coded _ _) (fit x y)

-- ---- all units

pub record AreUnitsFit (d : DecodedUnits) : Type 0 where
  pub motions : AreMotionsHeld d.motions
  pub places : ArePlacesFit d.filters.places

none_fit : AreUnitsFit no_units
unfolding no_data
none_fit = record { motions = none_held; places = λ x y. record { left = omega arith; top = omega arith } }

module _ (buffer : List DecodedPicture) (p : PicturePlan) (references : AreReferencesHeld (motions_of buffer)) where
  -- a unit whose items are told in range, by its segment
  abbrev pub IsTold : TreeUnit → Type 0
  IsTold unit =
      (s : SegmentPlan) → slice_get p.segments unit.segment ≡ Some s
      → All (IsToldItem (slice_motion p s unit.ctu)) unit.read.items

  unit_fit : (o : Option SegmentPlan) (unit : TreeUnit) (d : DecodedUnits)
      → ((s : SegmentPlan) → o ≡ Some s → All (IsToldItem (slice_motion p s unit.ctu)) unit.read.items)
      → AreUnitsFit d → AreUnitsFit (decoded_in buffer p o unit d)
  unfolding unit_decoded
  unit_fit None unit d told fit = fit
  unit_fit (Some s) unit d told fit = record {
    motions = added_held (motions_of buffer) p s unit references (told s refl) d.motions fit.motions;
    places =
        laid_fit p s unit (motion_added (motions_of buffer) p s unit d.motions) d.filters fit.places;
  }

  all_fit : (units : List TreeUnit) (d : DecodedUnits) → All IsTold units → AreUnitsFit d
      → AreUnitsFit (fold (with_unit buffer p) d units)
  all_fit [] d told fit = fit
  all_fit (unit ∷ units) d told fit =
      all_fit units (with_unit buffer p d unit) (All-tail IsTold unit units told)
      (unit_fit (slice_get p.segments unit.segment) unit d (All-head IsTold unit units told) fit)

  pub folded_fit : (units : List TreeUnit) → All IsTold units → AreUnitsFit (units_folded buffer p units)
  unfolding units_folded
  folded_fit units told = all_fit units no_units told none_fit

-- what holds of each known unit holds of all that are handed over
module _ (p : PicturePlan) (P : TreeUnit → Type 0)
    (each : (a : ℕ) (u : KnownUnit) → units_known p a ≡ Some u
    → P (record { segment = u.segment; ctu = a; read = u.read })) where
  one_given : (a : ℕ) (o : Option KnownUnit) → units_known p a ≡ o → All P (as_given a o)
  one_given a None is = All-nil P
  one_given a (Some u) is = All-cons P _ [] (each a u is) (All-nil P)

  of_addresses : (addresses : List ℕ) → All P (given_of (units_known p) addresses)
  of_addresses [] = All-nil P
  of_addresses (a ∷ later) =
      All-append P (as_given a (units_known p a)) (given_of (units_known p) later)
      (one_given a (units_known p a) refl) (of_addresses later)

  pub all_given : All P (known_before p (size_in_ctbs p.sps))
  unfolding known_before
  all_given = of_addresses _
