-- The segment that has a unit of a picture.
use Rattle.std.proofs.Common.{◌≡◌, ℕ, suc, ◌+◌, ◌*◌, ◌/◌, ◌≤◌, Bool, true, false, List, [], ◌∷◌, Some}
use Rattle.std.proofs.Common.{length, refl, sym, ap, arith, if◌then◌else◌, slice_get, ◌-◌, ◌^◌, inl, inr}
use Rattle.std.proofs.lemmas.Bool.{cases_lt}
use Rattle.std.proofs.Math.Nat.{div-mul-le_self, mul-le-mul, mul-le-mul_right, pow-le-pow_right}
use Rattle.header_types.specs.declared.sps.SpsFields.{SpsFields}
use Rattle.header_types.specs.SequenceParameterSets.{IsSps, blocks_across, ctb_log2, height_in_ctbs, size_in_ctbs}
use Rattle.header_types.specs.SequenceParameterSets.{width_in_ctbs}
use Rattle.plan_types.specs.declared.picture_plan.PicturePlan.{PicturePlan}
use Rattle.plan_types.specs.declared.segment_plan.SegmentPlan.{SegmentPlan}
use Rattle.plan_types.specs.Segments.{Rise, begins_at}
use Rattle.spec_known_units.specs.SpecPictureTrees.{SegmentAt, segment_at}
use Rattle.spec_known_units.specs.SpecPictureTrees.{end_of, picture_shape, segment_shape, segment_syntax}
use Rattle.spec_known_units.specs.Known.{is_in, picture_segments, segment_having, segments_from}

-- a segment of a picture, by its number among these
pub record IsAt (p : PicturePlan) (segments : List SegmentPlan) (number : ℕ) (at : SegmentAt) : Type 0 where
  pub i : ℕ
  pub s : SegmentPlan
  pub first : ℕ
  pub behind : ℕ
  pub number_is : at.number ≡ number + i
  pub has : slice_get segments i ≡ Some s
  pub syntax : at.syntax ≡ segment_syntax p s
  pub picture : at.picture ≡ picture_shape p.sps p.pps
  pub shape : at.shape ≡ segment_shape p s first behind

module _ (p : PicturePlan) where
  one_more : (s : SegmentPlan) (later : List SegmentPlan) (number : ℕ) (at : SegmentAt)
      → IsAt p later (number + 1) at → IsAt p (s ∷ later) number at
  one_more s later number at f = record {
    i = suc f.i;
    s = f.s;
    first = f.first;
    behind = f.behind;
    number_is = omega (arith, f.number_is);
    has = f.has;
    syntax = f.syntax;
    picture = f.picture;
    shape = f.shape;
  }

  first_or_later : (s : SegmentPlan) (later : List SegmentPlan) (rest : List SegmentAt) (number first address : ℕ)
      (at : SegmentAt) (t : Bool)
      → (segment_having rest address ≡ Some at → IsAt p later (number + 1) at)
      → (if t then Some (segment_at p number first s later) else segment_having rest address) ≡ Some at
      → IsAt p (s ∷ later) number at
  first_or_later s later rest number first address at true next e =
      let is : at ≡ segment_at p number first s later = sym cc in
      record {
        i = 0;
        s = s;
        first = first;
        behind = end_of (size_in_ctbs p.sps) first later;
        number_is = let n = ap (λ (k : SegmentAt). k.number) is in omega (arith, n);
        has = refl;
        syntax = ap (λ (k : SegmentAt). k.syntax) is;
        picture = ap (λ (k : SegmentAt). k.picture) is;
        shape = ap (λ (k : SegmentAt). k.shape) is;
      }
  first_or_later s later rest number first address at false next e = one_more s later number at (next e)

  found : (segments : List SegmentPlan) (number first address : ℕ) (at : SegmentAt)
      → segment_having (segments_from p number first segments) address ≡ Some at → IsAt p segments number at
  unfolding segments_from segment_having
  found [] number first address at e = absurd cc
  found (s ∷ later) number first address at e =
      let behind : ℕ = end_of (size_in_ctbs p.sps) first later in
      first_or_later s later (segments_from p (number + 1) behind later) number first address at
      (is_in (segment_at p number first s later) address)
      (λ next. found later (number + 1) behind address at next) e

  pub found_at : (address : ℕ) (at : SegmentAt) → segment_having (picture_segments p) address ≡ Some at
      → IsAt p p.segments 0 at
  found_at address at e = found p.segments 0 0 address at e

-- segments that rise are no more than the units of their picture
pub rise_few : (size : ℕ) (segments : List SegmentPlan) → Rise size segments
    → length segments + begins_at size segments ≤ size
rise_few size [] rise = omega arith
rise_few size (s ∷ later) rise = let more = rise_few size later rise.1 in omega (arith, more, rise.0)

few_blocks : (block side : ℕ) → 16 ≤ block → side ≤ 8192 → blocks_across block side ≤ 512
unfolding blocks_across
few_blocks block side wide small =
    elim (cases_lt 512 ((side + (block - 1)) / block)) [
      | inl many ↦
          let low = div-mul-le_self (side + (block - 1)) block in
          let most : 513 * block ≤ (side + (block - 1)) / block * block =
          mul-le-mul_right {m = 513} block (omega (arith, many)) in
          absurd (omega (arith, low, most, wide, small))
      | inr few ↦ few
    ]

sixteen : (sps : SpsFields) → IsSps sps → 16 ≤ 2 ^ ctb_log2 sps.blocks
sixteen sps s = pow-le-pow_right {n = 2} (omega arith) s.blocks.least_ctb

-- a picture has at most 2^18 coding tree units
pub few_units : (sps : SpsFields) → IsSps sps → size_in_ctbs sps ≤ 262144
few_units sps s =
    let wide : width_in_ctbs sps ≤ 512 =
    few_blocks (2 ^ ctb_log2 sps.blocks) sps.format.pic_width_in_luma_samples (sixteen sps s) s.format.width in
    let high : height_in_ctbs sps ≤ 512 =
    few_blocks (2 ^ ctb_log2 sps.blocks) sps.format.pic_height_in_luma_samples (sixteen sps s) s.format.height in
    mul-le-mul wide high
