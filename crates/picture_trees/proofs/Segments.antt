-- The units of a segment, and the segments of a picture, one after the other.
use Rattle.std.proofs.Common.{◌≡◌, ℕ, suc, ◌+◌, ◌-◌, ◌<◌, ◌≤◌, List, [], ◌∷◌, ◌++◌, length, get_or, drop, Result}
use Rattle.std.proofs.Common.{Ok, Err, refl, ap, sym, subst, ◌∙◌, arith}
use Rattle.std.proofs.lemmas.List.{drop_all}
use Rattle.std.proofs.Math.Seq.{get_or-append_seam, drop-cons}
use Rattle.hv_base.specs.declared.breach.Breach.{Breach}
use Rattle.ctu_records.specs.Tree.{Ctu}
use Rattle.header_types.specs.SequenceParameterSets.{size_in_ctbs}
use Rattle.plan_types.specs.declared.segment_plan.SegmentPlan.{SegmentPlan}
use Rattle.plan_types.specs.declared.picture_plan.PicturePlan.{PicturePlan}
use Rattle.spec_slice_data.specs.Segment.{PictureShape, Between, no_group, nothing_read, unit_step}
use Rattle.spec_picture_trees.specs.Shapes.{end_of, picture_shape}
use Rattle.spec_picture_trees.specs.Picture.{TreeUnit, Progress, Halt, SegmentAt, and_segments, segment_read}
use Rattle.spec_picture_trees.specs.Picture.{before_picture, picture_read, segments_read, then_units, units_read}
use Rattle.picture_trees.specs.Given.{AreAll, ReadsPicture, tree_unit}
use Rattle.picture_trees.specs.declared.trees.ReadError.{ReadError}
use Rattle.picture_trees.specs.declared.trees.ReadError.TheVariants as errors
use Rattle.picture_trees.specs.Reading.{IsBehind, IsKept, IsReached, IsWithin, ReadsSegment, between_of, next_segment}
use Rattle.picture_trees.specs.Reading.{progress_of}
use Rattle.picture_trees.specs.declared.units.Reading.{Reading}

units_none : (at : SegmentAt) (n place : ℕ) (progress : Progress) → n ≡ 0 → units_read at n place progress ≡ Ok progress
unfolding units_read
units_none at n place progress e = ap (λ k. units_read at k place progress) e

units_some : (at : SegmentAt) (n place : ℕ) (progress : Progress) → 0 < n
    → units_read at n place progress
    ≡ then_units at place progress.given (unit_step at.syntax at.picture at.shape place progress.between)
    (units_read at (n - 1) (place + 1))
unfolding units_read
units_some at n place progress some =
    let e : n ≡ suc (n - 1) = omega arith in ap (λ k. units_read at k place progress) e

-- the units that are left of a segment
left_of : SegmentAt → ℕ → ℕ
left_of at address = at.shape.first + at.shape.count - address

pub within_first : (at : SegmentAt) (r : Reading) (units : List Ctu) (given : List TreeUnit)
    → IsKept at.picture at.shape.first r.beside units
    → IsWithin at at.shape.first r given (segment_read at (progress_of r units given))
within_first at r units given kept =
    let all : at.shape.first + at.shape.count - at.shape.first ≡ at.shape.count = omega arith in
    record {
      units = units;
      kept = kept;
      told = ap (λ k. units_read at k at.shape.first (progress_of r units given)) all;
    }

pub within_more : (at : SegmentAt) (address : ℕ) (r next : Reading) (given : List TreeUnit)
    (whole : Result Progress Halt) (w : IsWithin at address r given whole)
    → address < at.shape.first + at.shape.count
    → unit_step at.syntax at.picture at.shape address (between_of r w.units)
    ≡ Ok (between_of next (w.units ++ next.records ∷ []))
    → IsKept at.picture (address + 1) next.beside (w.units ++ next.records ∷ [])
    → IsWithin at (address + 1) next (given ++ tree_unit at.number address next.records ∷ []) whole
within_more at address r next given whole w lt step kept =
    let n = at.shape.first + at.shape.count - address in
    let more = w.units ++ next.records ∷ [] in
    let fewer : n - 1 ≡ at.shape.first + at.shape.count - (address + 1) = omega arith in
    let rest : ℕ → Progress → Result Progress Halt = λ k progress. units_read at k (address + 1) progress in
    let d = nothing_read at.picture.size no_group in
    let last : get_or more address d ≡ next.records =
    ap (λ k. get_or more k d) (sym w.kept.count) ∙ get_or-append_seam w.units next.records [] d in
    let goes : units_read at n address (progress_of r w.units given)
    ≡ rest (n - 1) (progress_of next more (given ++ tree_unit at.number address (get_or more address d) ∷ [])) =
    units_some at n address (progress_of r w.units given) (omega arith)
    ∙ ap (λ (s : Result Between Breach). then_units at address given s (rest (n - 1))) step in
    record {
      units = more;
      kept = kept;
      told =
          ap (λ k. rest k (progress_of next more (given ++ tree_unit at.number address next.records ∷ []))) (sym fewer)
          ∙ ap (λ (ctu : Ctu). rest (n - 1) (progress_of next more (given ++ tree_unit at.number address ctu ∷ [])))
          (sym last)
          ∙ sym goes ∙ w.told;
    }

pub within_broken : (at : SegmentAt) (address : ℕ) (r : Reading) (given : List TreeUnit) (whole : Result Progress Halt)
    (breach : Breach) (w : IsWithin at address r given whole)
    → address < at.shape.first + at.shape.count
    → unit_step at.syntax at.picture at.shape address (between_of r w.units) ≡ Err breach
    → whole ≡ Err (record { given = given; broken = record { breach = breach; nal = at.nal; ctu = address } })
within_broken at address r given whole breach w lt step =
    let n = at.shape.first + at.shape.count - address in
    sym w.told ∙ units_some at n address (progress_of r w.units given) (omega arith)
    ∙ ap (λ (s : Result Between Breach). then_units at address given s (units_read at (n - 1) (address + 1))) step

pub within_last : (at : SegmentAt) (address : ℕ) (r : Reading) (given : List TreeUnit) (whole : Result Progress Halt)
    → address ≡ at.shape.first + at.shape.count → IsWithin at address r given whole
    → IsBehind at.picture (at.shape.first + at.shape.count) r given whole
within_last at address r given whole e w = record {
  units = w.units;
  kept = rw (sym e) w.kept;
  told =
      sym w.told
      ∙ units_none at (at.shape.first + at.shape.count - address) address (progress_of r w.units given) (omega arith);
}

pub reached_first : (p : PicturePlan) (r : Reading) (given : List TreeUnit)
    → IsKept (picture_shape p.sps p.pps) 0 r.beside [] → between_of r [] ≡ before_picture
    → IsReached p 0 0 r given (picture_read p given)
unfolding picture_read
reached_first p r given kept e = record {
  units = [];
  kept = kept;
  told = ap (λ (b : Between). segments_read p 0 0 p.segments (record { between = b; given = given })) e;
}

segments_some : (p : PicturePlan) (number first : ℕ) (s : SegmentPlan) (progress : Progress)
    → number < length p.segments
    → segments_read p number first (drop number p.segments) progress
    ≡ and_segments (segment_read (next_segment p number first s) progress)
    (segments_read p (number + 1) (end_of (size_in_ctbs p.sps) first (drop (number + 1) p.segments))
    (drop (number + 1) p.segments))
unfolding segments_read
segments_some p number first s progress lt =
    let next : suc number ≡ number + 1 = omega arith in
    let cons : drop number p.segments ≡ get_or p.segments number s ∷ drop (number + 1) p.segments =
    drop-cons p.segments number s lt ∙ ap (λ k. get_or p.segments number s ∷ drop k p.segments) next in
    ap (λ (segments : List SegmentPlan). segments_read p number first segments progress) cons

-- what the next segment gives, and what is to come behind it
and_then_segment : (p : PicturePlan) (number first : ℕ) (r : Reading) (given : List TreeUnit)
    (whole : Result Progress Halt) (s : SegmentPlan) (at : SegmentAt) (got : Result Progress Halt)
    → at ≡ next_segment p number first s
    → number < length p.segments
    → (w : IsReached p number first r given whole) → segment_read at (progress_of r w.units given) ≡ got
    → whole
    ≡ and_segments got
    (segments_read p (number + 1) (end_of (size_in_ctbs p.sps) first (drop (number + 1) p.segments))
    (drop (number + 1) p.segments))
and_then_segment p number first r given whole s at got e lt w is =
    let later =
    segments_read p (number + 1) (end_of (size_in_ctbs p.sps) first (drop (number + 1) p.segments))
    (drop (number + 1) p.segments) in
    let next : segment_read (next_segment p number first s) (progress_of r w.units given) ≡ got =
    ap (λ (a : SegmentAt). segment_read a (progress_of r w.units given)) (sym e) ∙ is in
    sym w.told ∙ segments_some p number first s (progress_of r w.units given) lt
    ∙ ap (λ (x : Result Progress Halt). and_segments x later) next

pub reached_more : (p : PicturePlan) (number first : ℕ) (r next : Reading) (given more : List TreeUnit)
    (whole : Result Progress Halt) (s : SegmentPlan) (at : SegmentAt)
    → at ≡ next_segment p number first s
    → number < length p.segments
    → at.shape.first + at.shape.count ≡ end_of (size_in_ctbs p.sps) first (drop (number + 1) p.segments)
    → (w : IsReached p number first r given whole)
    → IsBehind at.picture (at.shape.first + at.shape.count) next more (segment_read at (progress_of r w.units given))
    → IsReached p (number + 1) (at.shape.first + at.shape.count) next more whole
reached_more p number first r next given more whole s at e lt ends w got =
    let P : PictureShape → Type 0 = λ picture. IsKept picture (at.shape.first + at.shape.count) next.beside got.units in
    record {
      units = got.units;
      kept = subst P (ap (λ (a : SegmentAt). a.picture) e) got.kept;
      told =
          ap (λ k. segments_read p (number + 1) k (drop (number + 1) p.segments) (progress_of next got.units more)) ends
          ∙ sym (and_then_segment p number first r given whole s at _ e lt w got.told);
    }

-- a segment of a list that has so many
pub item_of : (segments : List SegmentPlan) (number : ℕ) → number < length segments → SegmentPlan
item_of [] number lt = absurd (omega (arith, lt))
item_of (s ∷ later) number lt = s

pub kept_for : (p : PicturePlan) (number first : ℕ) (r : Reading) (units : List Ctu) (s : SegmentPlan) (at : SegmentAt)
    → at ≡ next_segment p number first s → at.shape.first ≡ first
    → IsKept (picture_shape p.sps p.pps) first r.beside units → IsKept at.picture at.shape.first r.beside units
kept_for p number first r units s at e begins kept =
    let P : PictureShape → Type 0 = λ picture. IsKept picture at.shape.first r.beside units in
    let Q : ℕ → Type 0 = λ k. IsKept (picture_shape p.sps p.pps) k r.beside units in
    subst P (sym (ap (λ (a : SegmentAt). a.picture) e)) (subst Q (sym begins) kept)

-- a segment that isn't read whole ends the picture
pub reached_end : (p : PicturePlan) (number first k : ℕ) (r next : Reading) (given : List TreeUnit)
    (tells : List TreeUnit → Type 0) (whole : Result Progress Halt) (s : SegmentPlan) (at : SegmentAt)
    (error : ReadError)
    → at ≡ next_segment p number first s
    → number < length p.segments → (w : IsReached p number first r given whole)
    → ReadsSegment (Err error) at.picture k next tells (segment_read at (progress_of r w.units given))
    → ReadsPicture (Err error) tells whole
reached_end p number first k r next given tells whole s at errors.Memory e lt w got = tt
reached_end p number first k r next given tells whole s at (errors.Broken breach nal ctu) e lt w got =
    (got.0, got.1, (and_then_segment p number first r given whole s at _ e lt w got.2))

-- behind the last segment
pub reached_last : (p : PicturePlan) (number first : ℕ) (r : Reading) (given : List TreeUnit)
    (whole : Result Progress Halt)
    → length p.segments ≤ number → IsReached p number first r given whole → AreAll given whole
unfolding segments_read
reached_last p number first r given whole le w = record {
  progress = progress_of r w.units given;
  all =
      sym w.told
      ∙ ap (λ (segments : List SegmentPlan). segments_read p number first segments (progress_of r w.units given))
      (drop_all number p.segments le);
  same = refl;
}
