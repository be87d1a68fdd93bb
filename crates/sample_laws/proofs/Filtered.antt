-- The samples of a picture behind its loop filters are in range.
use Rattle.std.proofs.Common.{◌≡◌, ℕ, ◌+◌, ◌-◌, ◌^◌, ◌<◌, ◌≤◌, Bool, true, false, cond, List, [], Result, Ok, Err}
use Rattle.std.proofs.Common.{refl}
use Rattle.std.proofs.Common.{ap, sym, subst, arith}
use Rattle.std.specs.Prelude.{◌==◌}
use Rattle.std.proofs.Math.Pow.{lt_of_le_ones}
use Rattle.header_types.specs.SequenceParameterSets.{IsSps}
use Rattle.unit_laws.specs.PlanTypes.{PicturePlan}
use Rattle.spec_decoded_pictures.proofs.SpecLoopFiltersLemmas.{final_small}
use Rattle.spec_decoded_pictures.specs.SpecLoopFilters.{depth_of}
use Rattle.unit_laws.specs.SpecPictureTrees.{Halt, PictureBroken, Progress, picture_read}
use Rattle.unit_laws.specs.SpecPictureTrees.{picture_shape}
use Rattle.spec_decoded_pictures.specs.SpecPictureFilters.{FilterData}
use Rattle.spec_decoded_pictures.specs.SpecPictureFilters.{filter_format, filtered, loop_filters}
use Rattle.unit_laws.specs.SpecPictureBuild.{Samples, has_sample}
use Rattle.unit_laws.specs.SpecPictureBuild.{picture_built, units_built}
use Rattle.unit_laws.specs.SpecPictureBuild.{DecodedPicture, greatest_sample}
use Rattle.spec_decoded_pictures.proofs.OneFold.{one_fold}
use Rattle.spec_decoded_pictures.specs.Decoded.{DecodedUnits, decoded_by, picture_decoded, reading_decoded}
use Rattle.spec_decoded_pictures.specs.Decoded.{samples_filtered}
use Rattle.spec_decoded_pictures.specs.Decoded.{units_decoded}
use Rattle.sample_laws.proofs.Means.{case_holds}
use Rattle.sample_laws.proofs.Pictures.{whole_below}

both_same : (b : Bool) (u v w x : ℕ) → u ≡ v → w ≡ x → cond b u w ≡ cond b v x
both_same true u v w x first second = first
both_same false u v w x first second = second

-- the bits of a component are the same for the samples and for the filters
depth_same : (p : PicturePlan) (c : ℕ)
    → cond (c == 0) (8 + p.sps.format.bit_depth_luma_minus8) (8 + p.sps.format.bit_depth_chroma_minus8)
    ≡ depth_of (filter_format p) c
unfolding filter_format
depth_same p c = both_same (c == 0) _ _ _ _ (omega arith) (omega arith)

least_power : (depth v : ℕ) → v < 2 ^ depth → v ≤ 2 ^ depth - 1
least_power depth v is = omega (arith, is)

in_depth : (p : PicturePlan) (c v : ℕ) → v ≤ greatest_sample p.sps.format c → v < 2 ^ depth_of (filter_format p) c
in_depth p c v below = subst (λ (d : ℕ). v < 2 ^ d) (depth_same p c) (lt_of_le_ones _ below)

greatest_in_depth : (p : PicturePlan) (c v : ℕ) → v < 2 ^ depth_of (filter_format p) c
    → v ≤ greatest_sample p.sps.format c
greatest_in_depth p c v less = least_power _ v (subst (λ (d : ℕ). v < 2 ^ d) (sym (depth_same p c)) less)

-- whatever is gathered for the filters, they keep samples in range
filtered_below : (p : PicturePlan) (gathered : FilterData) (samples : Samples)
    → ((c x y : ℕ) → samples c x y ≤ greatest_sample p.sps.format c)
    → (c x y : ℕ) → filtered p gathered samples c x y ≤ greatest_sample p.sps.format c
unfolding filtered
filtered_below p gathered samples below c x y =
    greatest_in_depth p c _
    (final_small (loop_filters p gathered) samples (λ k i j. in_depth p k _ (below k i j)) c x y)

samples_below : (p : PicturePlan) (gathered : FilterData) (samples : Samples)
    → ((c x y : ℕ) → samples c x y ≤ greatest_sample p.sps.format c)
    → (c x y : ℕ) → samples_filtered p gathered samples c x y ≤ greatest_sample p.sps.format c
unfolding samples_filtered
samples_below p gathered samples below c x y =
    case_holds (λ v. v ≤ greatest_sample p.sps.format c) (has_sample (picture_shape p.sps p.pps) c x y) _ 0
    (λ inside. filtered_below p gathered samples below c x y) (λ outside. omega arith)

module _ (buffer : List DecodedPicture) (p : PicturePlan) (sps : IsSps p.sps) where
  abbrev IsBelow : DecodedPicture → Type 0
  IsBelow decoded = (c x y : ℕ) → decoded.samples c x y ≤ greatest_sample decoded.format c

  built_as : (progress : Progress) → picture_read p [] ≡ Ok progress
      → picture_built buffer p ≡ Ok (units_built buffer p progress.given)
  unfolding picture_built
  built_as progress is = rw is refl

  units_below : (progress : Progress) → picture_read p [] ≡ Ok progress
      → IsBelow (units_decoded buffer p progress.given)
  unfolding decoded_by
  units_below progress is =
      subst (λ (u : DecodedUnits). IsBelow (decoded_by p u)) (sym (one_fold buffer p progress.given))
      (samples_below p _ _ (whole_below buffer p sps (units_built buffer p progress.given) (built_as progress is)))

  gives_below : (decoded : DecodedPicture) (r : Result Progress Halt) → picture_read p [] ≡ r
      → reading_decoded buffer p r ≡ Ok decoded → IsBelow decoded
  gives_below decoded (Err halt) is gives = absurd cc
  gives_below decoded (Ok progress) is gives =
      let same : units_decoded buffer p progress.given ≡ decoded =
      ap (λ (r : Result DecodedPicture PictureBroken). elim r as (λ r. DecodedPicture) [ Ok d ↦ d | Err e ↦ decoded ])
      gives in
      subst IsBelow same (units_below progress is)

  pub decoded_below : (decoded : DecodedPicture) → picture_decoded buffer p ≡ Ok decoded
      → (c x y : ℕ) → decoded.samples c x y ≤ greatest_sample decoded.format c
  unfolding picture_decoded
  decoded_below decoded is = gives_below decoded (picture_read p []) refl is
