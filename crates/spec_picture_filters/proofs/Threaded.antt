-- Motion beside which filter data are gathered.
use Rattle.std.proofs.Common.{◌≡◌, refl, ap, ◌∙◌, List, [], ◌∷◌, Option, Some, None}
use Rattle.std.specs.List.{fold}
use Rattle.spec_picture_motion.specs.PlanTypes.{SegmentPlan}
use Rattle.spec_picture_motion.specs.PlanTypes.{PicturePlan}
use Rattle.spec_picture_motion.specs.SpecPictureTrees.{TreeUnit}
use Rattle.spec_picture_motion.specs.Derived.{
  References,
  units_derived,
  with_unit as with_motion,
  added_in as motion_added_in,
}
use Rattle.spec_picture_motion.specs.Field.{Motions}
use Rattle.std.specs.List.{slice_get}
use Rattle.spec_picture_filters.specs.Filtered.{Behind, added_in, before_units, both_added, units_behind, with_unit}

same_motion : (pictures : References) (p : PicturePlan) (s : Option SegmentPlan) (unit : TreeUnit) (b : Behind)
    → (added_in pictures p s unit b).motions ≡ motion_added_in pictures p s unit b.motions
unfolding both_added
same_motion pictures p None unit b = refl
same_motion pictures p (Some s) unit b = refl

threaded_from : (pictures : References) (p : PicturePlan) (units : List TreeUnit) (b : Behind)
    → (fold (with_unit pictures p) b units).motions ≡ fold (with_motion pictures p) b.motions units
threaded_from pictures p [] b = refl
threaded_from pictures p (u ∷ us) b =
    threaded_from pictures p us (with_unit pictures p b u)
    ∙ ap (λ (m : Motions). fold (with_motion pictures p) m us)
    (same_motion pictures p (slice_get p.segments u.segment) u b)

pub threaded : (pictures : References) (p : PicturePlan) (units : List TreeUnit)
    → (units_behind pictures p units).motions ≡ units_derived pictures p units
unfolding units_behind units_derived
threaded pictures p units = threaded_from pictures p units before_units
