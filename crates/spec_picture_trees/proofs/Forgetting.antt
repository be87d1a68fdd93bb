-- Reading units that are handed over, without them, is reading the data of segments.
use Rattle.std.proofs.Common.{◌≡◌, ℕ, zero, suc, ◌+◌, List, [], ◌∷◌, Result, Ok, Err, refl, ap, ◌∙◌}
use Rattle.spec_slice_headers.specs.HvBase.{Breach}
use Rattle.spec_slice_headers.specs.HeaderTypes.{size_in_ctbs}
use Rattle.spec_slice_headers.specs.PlanTypes.{SegmentPlan}
use Rattle.spec_slice_headers.specs.PlanTypes.{PicturePlan}
use Rattle.spec_slice_headers.specs.BlockGeometry.{ctb_scan}
use Rattle.spec_slice_data.specs.Segment.{Between, Broken, and_then, unit_step, units_from}
use Rattle.spec_picture_trees.specs.Shapes.{end_of}
use Rattle.spec_picture_trees.specs.Picture.{PictureBroken, TreeUnit, Progress, Halt, SegmentAt, in_unit}
use Rattle.spec_picture_trees.specs.Picture.{then_segments}
use Rattle.spec_picture_trees.specs.Picture.{segments_data, picture_data, segment_at, with_unit, then_units}
use Rattle.spec_picture_trees.specs.Picture.{units_read}
use Rattle.spec_picture_trees.specs.Picture.{and_segments, segment_read, segments_read, picture_read, forgotten}

-- with the NAL unit's number
told : ℕ → Result Between Broken → Result Between PictureBroken
told nal (Ok between) = Ok between
told nal (Err e) = Err (in_unit nal e)

unit_forgotten : (at : SegmentAt) (place : ℕ) (given : List TreeUnit) (r : Result Between Breach)
    (f : Progress → Result Progress Halt) (g : Between → Result Between Broken)
    → ((between : Between) → forgotten (f (with_unit at place given between)) ≡ told at.nal (g between))
    → forgotten (then_units at place given r f) ≡ told at.nal (and_then place r g)
unfolding told
unit_forgotten at place given (Ok between) f g same = same between
unit_forgotten at place given (Err e) f g same = refl

units_forgotten : (at : SegmentAt) (n place : ℕ) (progress : Progress)
    → forgotten (units_read at n place progress)
    ≡ told at.nal (units_from at.syntax at.picture at.shape n place progress.between)
unfolding told units_read units_from
units_forgotten at zero place progress = refl
units_forgotten at (suc n) place progress =
    unit_forgotten at (ctb_scan place) progress.given
    (unit_step at.syntax at.picture at.shape (ctb_scan place) progress.between)
    (units_read at n (place + 1)) (units_from at.syntax at.picture at.shape n (place + 1))
    (λ between. units_forgotten at n (place + 1) (with_unit at (ctb_scan place) progress.given between))

segment_forgotten : (nal : ℕ) (r : Result Progress Halt) (d : Result Between Broken)
    (f : Progress → Result Progress Halt) (g : Between → Result Between PictureBroken)
    → forgotten r ≡ told nal d → ((progress : Progress) → forgotten (f progress) ≡ g progress.between)
    → forgotten (and_segments r f) ≡ then_segments nal d g
unfolding told
segment_forgotten nal (Ok progress) (Ok between) f g e same =
    let b : progress.between ≡ between = cc in same progress ∙ ap g b
segment_forgotten nal (Ok progress) (Err d) f g e same = absurd cc
segment_forgotten nal (Err halt) (Ok between) f g e same = absurd cc
segment_forgotten nal (Err halt) (Err d) f g e same = e

segments_forgotten : (p : PicturePlan) (number first : ℕ) (segments : List SegmentPlan) (progress : Progress)
    → forgotten (segments_read p number first segments progress) ≡ segments_data p first segments progress.between
unfolding segments_read segments_data
segments_forgotten p number first [] progress = refl
segments_forgotten p number first (s ∷ later) progress =
    let at = segment_at p number first s later in
    segment_forgotten s.header.nal (segment_read at progress)
    (units_from at.syntax at.picture at.shape at.shape.count at.shape.first progress.between)
    (segments_read p (number + 1) (end_of (size_in_ctbs p.sps) first later) later)
    (segments_data p (end_of (size_in_ctbs p.sps) first later) later)
    (units_forgotten at at.shape.count at.shape.first progress)
    (λ next. segments_forgotten p (number + 1) (end_of (size_in_ctbs p.sps) first later) later next)

pub picture_forgotten : (p : PicturePlan) (given : List TreeUnit) → forgotten (picture_read p given) ≡ picture_data p
unfolding picture_read picture_data
picture_forgotten p given = segments_forgotten p 0 0 p.segments (record { between = _; given = given })
