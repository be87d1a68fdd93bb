-- Pictures without loop filters.
use Rattle.std.proofs.Common.{◌≡◌, ℕ, true, List, All, ap, ◌∙◌}
use Rattle.spec_picture_build.specs.PlanTypes.{PicturePlan}
use Rattle.spec_decoded_pictures.specs.Decoded.{DecodedUnits, decoded_by, joined, samples_filtered, units_decoded}
use Rattle.spec_picture_build.specs.SpecPictureTrees.{TreeUnit}
use Rattle.spec_picture_build.specs.SpecPictureTrees.{picture_shape}
use Rattle.spec_picture_filters.proofs.Quiet.{unchanged}
use Rattle.spec_decoded_pictures.proofs.OneFold.{one_fold}
use Rattle.spec_picture_filters.specs.Filtered.{units_filtered}
use Rattle.spec_picture_filters.specs.Disabled.{AreDisabled, HasNoOffset}
use Rattle.spec_picture_build.specs.Border.{has_sample}
use Rattle.spec_picture_build.specs.Built.{units_built}
use Rattle.spec_picture_build.specs.References.{DecodedPicture, motions_of}

joined_unchanged : (buffer : List DecodedPicture) (p : PicturePlan) (units : List TreeUnit) (c x y : ℕ)
    → AreDisabled p.segments → All HasNoOffset units → has_sample (picture_shape p.sps p.pps) c x y ≡ true
    → (decoded_by p (joined (units_built buffer p units) (units_filtered (motions_of buffer) p units))).samples c x y
    ≡ (units_built buffer p units).samples c x y
unfolding decoded_by samples_filtered
joined_unchanged buffer p units c x y disabled none inside =
    rw inside (unchanged (motions_of buffer) p units (units_built buffer p units).samples c x y disabled none)

pub as_built : (buffer : List DecodedPicture) (p : PicturePlan) (units : List TreeUnit) (c x y : ℕ)
    → AreDisabled p.segments → All HasNoOffset units → has_sample (picture_shape p.sps p.pps) c x y ≡ true
    → (units_decoded buffer p units).samples c x y ≡ (units_built buffer p units).samples c x y
as_built buffer p units c x y disabled none inside =
    ap (λ (u : DecodedUnits). (decoded_by p u).samples c x y) (one_fold buffer p units)
    ∙ joined_unchanged buffer p units c x y disabled none inside
