-- The search for the segment of a unit.
use Rattle.std.proofs.Common.{◌≡◌, ℕ, suc, ◌+◌, ◌<◌, ◌≤◌, true, List, [], ◌∷◌, length, get_or, drop, Some, None}
use Rattle.std.proofs.Common.{nat_le, nat_lt, refl, ap, sym, ◌∙◌, arith}
use Rattle.std.proofs.lemmas.Bool.{and_parts, leb-true, ltb-true}
use Rattle.std.proofs.lemmas.List.{drop_all}
use Rattle.std.proofs.Math.Seq.{drop-cons}
use Rattle.header_types.specs.SequenceParameterSets.{size_in_ctbs}
use Rattle.plan_types.specs.declared.segment_plan.SegmentPlan.{SegmentPlan}
use Rattle.plan_types.specs.declared.picture_plan.PicturePlan.{PicturePlan}
use Rattle.spec_picture_trees.specs.Picture.{SegmentAt}
use Rattle.spec_picture_trees.specs.Shapes.{end_of}
use Rattle.spec_known_units.specs.Known.{is_in, picture_segments, segment_having, segments_from}
use Rattle.known_engine_laws.proofs.KnownUnitLawsLemmas.{found_first, found_later}
use Rattle.row_trees.specs.Segments.{IsCurrent, IsReached, next_segment}

pub reached_first : (p : PicturePlan) → IsReached p 0 0
reached_first p = record { inside = omega arith; rest = λ address from. refl }

-- a segment of a list that has so many
pub item_of : (segments : List SegmentPlan) (number : ℕ) → number < length segments → SegmentPlan
item_of [] number lt = absurd (omega (arith, lt))
item_of (s ∷ later) number lt = s

-- the segment with a number, and those behind it
segments_some : (p : PicturePlan) (number first : ℕ) (s : SegmentPlan) → number < length p.segments
    → segments_from p number first (drop number p.segments)
    ≡ next_segment p number first s
    ∷ segments_from p (number + 1) (end_of (size_in_ctbs p.sps) first (drop (number + 1) p.segments))
    (drop (number + 1) p.segments)
unfolding segments_from
segments_some p number first s lt =
    let next : suc number ≡ number + 1 = omega arith in
    let cons : drop number p.segments ≡ get_or p.segments number s ∷ drop (number + 1) p.segments =
    drop-cons p.segments number s lt ∙ ap (λ k. get_or p.segments number s ∷ drop k p.segments) next in
    ap (λ (segments : List SegmentPlan). segments_from p number first segments) cons

module _ (p : PicturePlan) (number first : ℕ) (s : SegmentPlan) (at : SegmentAt)
    (is : at ≡ next_segment p number first s) (begins : at.shape.first ≡ first) (lt : number < length p.segments)
    (reached : IsReached p number first) where
  abbrev later : List SegmentAt
  later =
      segments_from p (number + 1) (end_of (size_in_ctbs p.sps) first (drop (number + 1) p.segments))
      (drop (number + 1) p.segments)

  here : (address : ℕ) → first ≤ address
      → segment_having (picture_segments p) address ≡ segment_having (at ∷ later) address
  here address from =
      reached.rest address from
      ∙ ap (λ segments. segment_having segments address) (segments_some p number first s lt)
      ∙ ap (λ (a : SegmentAt). segment_having (a ∷ later) address) (sym is)

  -- its own units
  pub has_own : (address : ℕ) → first ≤ address → address < at.shape.first + at.shape.count
      → segment_having (picture_segments p) address ≡ Some at
  has_own address from below =
      here address from ∙ found_first at later address (omega (arith, begins, from)) below

  -- those behind it
  pub reached_more : at.shape.first + at.shape.count
      ≡ end_of (size_in_ctbs p.sps) first (drop (number + 1) p.segments)
      → at.shape.first + at.shape.count ≤ size_in_ctbs p.sps
      → IsReached p (number + 1) (at.shape.first + at.shape.count)
  reached_more ends inside = record {
    inside = inside;
    rest = λ address from.
        here address (omega (arith, begins, from)) ∙ found_later at later address from
        ∙ ap (λ k. segment_having (segments_from p (number + 1) k (drop (number + 1) p.segments)) address) (sym ends);
  }

  in_own : (address : ℕ) → is_in at address ≡ true → segment_having (picture_segments p) address ≡ Some at
  in_own address inside =
      let parts =
      and_parts (nat_le at.shape.first address) (nat_lt address (at.shape.first + at.shape.count)) inside in
      let low = leb-true at.shape.first address parts.0 in
      let high = ltb-true address (at.shape.first + at.shape.count) parts.1 in
      has_own address (omega (arith, begins, low)) high

  pub is_current : at.number ≡ number → IsCurrent p at
  is_current numbered = record {
    reached = rw (numbered, begins) reached;
    has = in_own;
  }

-- behind the last segment there are no units
pub none_left : (p : PicturePlan) (number first address : ℕ) → IsReached p number first
    → length p.segments ≤ number → first ≤ address → segment_having (picture_segments p) address ≡ None
unfolding segments_from segment_having
none_left p number first address reached le from =
    reached.rest address from
    ∙ ap (λ (segments : List SegmentPlan). segment_having (segments_from p number first segments) address)
    (drop_all number p.segments le)
