-- The motion that a picture keeps of a place, by words.
use Rattle.std.proofs.Common.{◌≡◌, ℕ, ◌/◌, ◌%◌, refl, ap, ◌∙◌, sym, arith, Option, Some, None, slice_get}
use Rattle.plan_types.specs.declared.picture_plan.PicturePlan.{PicturePlan}
use Rattle.plan_types.specs.declared.segment_plan.SegmentPlan.{SegmentPlan}
use Rattle.spec_motion.specs.declared.vectors.Motion.{Motion}
use Rattle.sample_words.specs.Packing.{bits_at}
use Rattle.sample_words.specs.Values.{modes_in, motion_in, mv_in, vector_in}
use Rattle.row_above_laws.specs.FlightValueLaws.{kept_in, kept_motion, motion_where}
use Rattle.taken_pictures.specs.Kept.{kept_by, motion_in_segment, pointing_in}

-- a picture keeps motion as it stands in the words of a place
pub pointing_is : (p : PicturePlan) (address : ℕ) (m : Motion) (o : Option SegmentPlan)
    → pointing_in (motion_in_segment p address o) (motion_where m) ≡ kept_in p address m o
pointing_is p address m None = refl
pointing_is p address m (Some s) = refl

pub kept_is : (p : PicturePlan) (address vectors modes : ℕ)
    → pointing_in (motion_in_segment p address (slice_get p.segments (modes_in modes).segment))
    (motion_where (motion_in vectors modes))
    ≡ kept_by p address vectors modes
unfolding kept_motion
kept_is p address vectors modes =
    pointing_is p address (motion_in vectors modes) (slice_get p.segments (modes_in modes).segment)

-- the bits from one on are those of the words behind the bits before
tail_28 : (word : ℕ) → word / 268435456 ≡ word / 8388608 / 32
tail_28 word = omega arith

tail_33 : (word : ℕ) → word / 8589934592 ≡ word / 8388608 / 1024
tail_33 word = omega arith

-- places whose words have the same vectors, and modes that are the same from the reference indices on, keep the same
pub same_kept : (p : PicturePlan) (address v w m n : ℕ) → v ≡ w → m / 8388608 ≡ n / 8388608
    → kept_by p address v m ≡ kept_by p address w n
unfolding kept_motion
same_kept p address v w m n vectors tail =
    let first : bits_at 23 5 m ≡ bits_at 23 5 n = ap (λ k. k % 32) tail in
    let second : bits_at 28 5 m ≡ bits_at 28 5 n =
    ap (λ k. k % 32) (tail_28 m ∙ (ap (λ k. k / 32) tail ∙ sym (tail_28 n))) in
    let segment : bits_at 33 18 m ≡ bits_at 33 18 n =
    ap (λ k. k % 262144) (tail_33 m ∙ (ap (λ k. k / 1024) tail ∙ sym (tail_33 n))) in
    λ t. kept_in p address
    (record {
      list_0 = vector_in (first t) (mv_in 0 (vectors t));
      list_1 = vector_in (second t) (mv_in 32 (vectors t));
    })
    (slice_get p.segments (segment t))
