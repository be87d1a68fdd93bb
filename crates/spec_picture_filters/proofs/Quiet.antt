-- Pictures without loop filters.
use Rattle.std.proofs.Common.{◌≡◌, ℕ, refl, Bool, true, List, [], ◌∷◌, All, Option, Some, None, arith}
use Rattle.std.proofs.lemmas.Bool.Decides.{nat_tests}
use Rattle.std.proofs.lemmas.List.Elements.{All-get_or, All-head, All-tail}
use Rattle.std.proofs.lemmas.Option.{get_or_from_slice_get, slice_get_within}
use Rattle.std.specs.List.{fold, slice_get}
use Rattle.spec_boundary_strengths.specs.CtuRecords.{Item}
use Rattle.spec_boundary_strengths.specs.CtuRecords.{Off}
use Rattle.spec_boundary_strengths.specs.CtuRecords.{Sao}
use Rattle.spec_picture_motion.specs.SliceTypes.{SliceDeblocking}
use Rattle.spec_picture_motion.specs.PlanTypes.{SegmentPlan}
use Rattle.spec_picture_motion.specs.PlanTypes.{PicturePlan}
use Rattle.spec_boundary_strengths.specs.declared.place.UnitPlace.{UnitPlace}
use Rattle.spec_boundary_strengths.specs.Places.{unit_place}
use Rattle.spec_boundary_strengths.specs.Strengths.{Beside, left_strength, top_strength}
use Rattle.spec_loop_filters.specs.SpecDeblocking.{Place}
use Rattle.spec_loop_filters.proofs.Unchanged.{final_same}
use Rattle.spec_loop_filters.specs.Filters.{Samples}
use Rattle.spec_picture_motion.specs.SpecPictureTrees.{TreeUnit}
use Rattle.spec_picture_motion.specs.Derived.{References}
use Rattle.spec_picture_motion.specs.Field.{Motions}
use Rattle.spec_loop_filters.specs.SpecSampleAdaptiveOffset.{OffsetUnit}
use Rattle.spec_picture_motion.specs.SpecSliceData.{no_sao}
use Rattle.spec_picture_motion.specs.SpecSliceData.{PictureShape}
use Rattle.spec_picture_filters.specs.Data.{FilterData, no_data}
use Rattle.spec_picture_filters.specs.Disabled.{AreDisabled, HasNoOffset, IsDisabled}
use Rattle.spec_picture_filters.specs.Filtered.{Behind, added_in, before_units, both_added, filtered, loop_filters}
use Rattle.spec_picture_filters.specs.Filtered.{units_behind, units_filtered, with_unit}
use Rattle.spec_picture_filters.specs.Units.{beside_unit, offset_of, place_of, places_laid, places_read, read_added}
use Rattle.spec_picture_filters.specs.Units.{unit_added, units_laid}

-- no edge has a strength, and no unit an offset
record IsQuiet (known : FilterData) : Type 0 where
  left : (i j : ℕ) → (known.places i j).left_strength ≡ 0
  top : (i j : ℕ) → (known.places i j).top_strength ≡ 0
  units : (c u v : ℕ) → (known.units c u v).offset ≡ Off

quiet_first : IsQuiet no_data
unfolding no_data
quiet_first = record { left = λ i j. refl; top = λ i j. refl; units = λ c u v. refl }

left_off : (beside : Beside) (items : List Item) (x y : ℕ) → beside.disabled ≡ true → left_strength beside items x y ≡ 0
unfolding left_strength
left_off beside items x y d = rw d refl

top_off : (beside : Beside) (items : List Item) (x y : ℕ) → beside.disabled ≡ true → top_strength beside items x y ≡ 0
unfolding top_strength
top_off beside items x y d = rw d refl

read_left : (p : PicturePlan) (s : SegmentPlan) (address : ℕ) (items : List Item) (motions : Motions)
    (coded : ℕ → ℕ → Bool) (x y : ℕ)
    → IsDisabled s → (places_read p s address items motions coded x y).left_strength ≡ 0
unfolding places_read unit_place beside_unit
read_left p s address items motions coded x y d = left_off (beside_unit p s address motions coded) items x y d

read_top : (p : PicturePlan) (s : SegmentPlan) (address : ℕ) (items : List Item) (motions : Motions)
    (coded : ℕ → ℕ → Bool) (x y : ℕ)
    → IsDisabled s → (places_read p s address items motions coded x y).top_strength ≡ 0
unfolding places_read unit_place beside_unit
read_top p s address items motions coded x y d = top_off (beside_unit p s address motions coded) items x y d

laid_left : (picture : PictureShape) (address : ℕ) (slice : SliceDeblocking) (read : ℕ → ℕ → UnitPlace)
    (places : ℕ → ℕ → Place) (i j : ℕ)
    → ((x y : ℕ) → (read x y).left_strength ≡ 0) → (places i j).left_strength ≡ 0
    → (places_laid picture address slice read places i j).left_strength ≡ 0
unfolding places_laid place_of
laid_left picture address slice read places i j r o = grind (arith, nat_tests, r, o)

laid_top : (picture : PictureShape) (address : ℕ) (slice : SliceDeblocking) (read : ℕ → ℕ → UnitPlace)
    (places : ℕ → ℕ → Place) (i j : ℕ)
    → ((x y : ℕ) → (read x y).top_strength ≡ 0) → (places i j).top_strength ≡ 0
    → (places_laid picture address slice read places i j).top_strength ≡ 0
unfolding places_laid place_of
laid_top picture address slice read places i j r o = grind (arith, nat_tests, r, o)

no_offset : (c : ℕ) → offset_of no_sao c ≡ Off
no_offset c = grind (arith, nat_tests)

laid_off : (p : PicturePlan) (s : SegmentPlan) (address : ℕ) (sao : Sao) (units : ℕ → ℕ → ℕ → OffsetUnit) (c u v : ℕ)
    → sao ≡ no_sao → (units c u v).offset ≡ Off → (units_laid p s address sao units c u v).offset ≡ Off
unfolding units_laid
laid_off p s address sao units c u v none o = grind (arith, nat_tests)

quiet_added : (p : PicturePlan) (s : SegmentPlan) (unit : TreeUnit) (motions : Motions) (known : FilterData)
    → IsDisabled s → HasNoOffset unit → IsQuiet known → IsQuiet (unit_added p s unit motions known)
unfolding read_added
quiet_added p s unit motions known d n q = record {
  left = λ i j. laid_left _ unit.ctu s.header.slice.deblocking
      (places_read p s unit.ctu unit.read.items motions known.coded) known.places i j
      (λ x y. read_left p s unit.ctu unit.read.items motions known.coded x y d) (q.left i j);
  top = λ i j. laid_top _ unit.ctu s.header.slice.deblocking
      (places_read p s unit.ctu unit.read.items motions known.coded) known.places i j
      (λ x y. read_top p s unit.ctu unit.read.items motions known.coded x y d) (q.top i j);
  units = λ c u v. laid_off p s unit.ctu unit.read.sao known.units c u v n (q.units c u v);
}

disabled_at : (segments : List SegmentPlan) (n : ℕ) (s : SegmentPlan) → AreDisabled segments
    → slice_get segments n ≡ Some s → IsDisabled s
disabled_at segments n s all e =
    rw (← get_or_from_slice_get segments n s s e)
    (All-get_or IsDisabled segments n s (slice_get_within segments n s e) all)

quiet_in : (pictures : References) (p : PicturePlan) (o : Option SegmentPlan) (unit : TreeUnit) (b : Behind)
    → ((s : SegmentPlan) → o ≡ Some s → IsDisabled s) → HasNoOffset unit → IsQuiet b.gathered
    → IsQuiet (added_in pictures p o unit b).gathered
unfolding both_added
quiet_in pictures p None unit b d n q = q
quiet_in pictures p (Some s) unit b d n q = quiet_added p s unit _ b.gathered (d s refl) n q

quiet_from : (pictures : References) (p : PicturePlan) (units : List TreeUnit) (b : Behind) → AreDisabled p.segments
    → All HasNoOffset units → IsQuiet b.gathered → IsQuiet (fold (with_unit pictures p) b units).gathered
quiet_from pictures p [] b d n q = q
quiet_from pictures p (u ∷ us) b d n q =
    quiet_from pictures p us (with_unit pictures p b u) d (All-tail HasNoOffset u us n)
    (quiet_in pictures p (slice_get p.segments u.segment) u b (λ s e. disabled_at p.segments u.segment s d e)
    (All-head HasNoOffset u us n) q)

pub unchanged : (pictures : References) (p : PicturePlan) (units : List TreeUnit) (samples : Samples) (c x y : ℕ)
    → AreDisabled p.segments → All HasNoOffset units
    → filtered p (units_filtered pictures p units) samples c x y ≡ samples c x y
unfolding units_behind filtered
unchanged pictures p units samples c x y d n =
    let q : IsQuiet (units_filtered pictures p units) = quiet_from pictures p units before_units d n quiet_first in
    final_same (loop_filters p (units_filtered pictures p units)) samples c x y q.left q.top (q.units c)
