-- Each unit of a picture has a slice segment.
use Rattle.std.proofs.Common.{◌≡◌, ◌≢◌, ℕ, ◌+◌, ◌<◌, ◌≤◌, List, [], ◌∷◌, Some, refl, ◌∙◌, arith, inl, inr}
use Rattle.std.proofs.lemmas.Bool.{cases_lt}
use Rattle.header_types.specs.SequenceParameterSets.{size_in_ctbs}
use Rattle.plan_types.specs.declared.picture_plan.PicturePlan.{PicturePlan}
use Rattle.plan_types.specs.declared.segment_plan.SegmentPlan.{SegmentPlan}
use Rattle.known_picture_laws.specs.SpecPictureTrees.{SegmentAt, segment_at}
use Rattle.known_picture_laws.specs.SpecPictureTrees.{end_of, picture_shape, segment_shape}
use Rattle.known_picture_laws.specs.SpecKnownUnits.{picture_segments, segment_having, segments_from}
use Rattle.known_picture_laws.proofs.KnownUnitLaws.{found_first, found_later}

module _ (p : PicturePlan) where
  abbrev HasSegment : List SegmentAt → ℕ → Type 0
  HasSegment segments address =
      (at : SegmentAt) × (segment_having segments address ≡ Some at) × (at.picture ≡ picture_shape p.sps p.pps)

  later_has : (here : SegmentAt) (rest : List SegmentAt) (address : ℕ)
      → here.shape.first + here.shape.count ≤ address → HasSegment rest address → HasSegment (here ∷ rest) address
  later_has here rest address behind (at, having, shape) =
      (at, found_later here rest address behind ∙ having, shape)

  having : (segments : List SegmentPlan) (number first address : ℕ) → segments ≢ [] → first ≤ address
      → address < size_in_ctbs p.sps → HasSegment (segments_from p number first segments) address
  unfolding segments_from segment_shape
  having [] number first address some low inside = absurd (some refl)
  having (s ∷ []) number first address some low inside = (
    segment_at p number first s [],
    found_first (segment_at p number first s []) [] address low (omega (arith, low, inside)),
    refl,
  )
  having (s ∷ (next ∷ later)) number first address some low inside =
      let behind : ℕ = end_of (size_in_ctbs p.sps) first (next ∷ later) in
      let here : SegmentAt = segment_at p number first s (next ∷ later) in
      let rest : List SegmentAt = segments_from p (number + 1) behind (next ∷ later) in
      elim (cases_lt address behind) [
        | inl less ↦ (here, found_first here rest address low (omega (arith, low, less)), refl)
        | inr past ↦
            later_has here rest address (omega (arith, low, past))
            (having (next ∷ later) (number + 1) behind address (λ e. cc) past inside)
      ]

  pub unit_has_segment : (address : ℕ) → p.segments ≢ [] → address < size_in_ctbs p.sps
      → HasSegment (picture_segments p) address
  unit_has_segment address some inside = having p.segments 0 0 address some (omega arith) inside
