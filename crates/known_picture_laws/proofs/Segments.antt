-- A known unit is of a slice segment of the picture.
use Rattle.std.proofs.Common.{◌≡◌, ℕ, suc, ◌+◌, ◌<◌, Bool, true, false, List, [], ◌∷◌, Option, Some, None, Result, Ok}
use Rattle.std.proofs.Common.{Err}
use Rattle.std.proofs.Common.{refl, sym, ap, ◌∙◌, arith, if◌then◌else◌, slice_get, is_some}
use Rattle.std.specs.List.{list_all}
use Rattle.std.specs.Option.{option_and_then}
use Rattle.hv_base.specs.declared.breach.Breach.{Breach}
use Rattle.header_types.specs.SequenceParameterSets.{size_in_ctbs}
use Rattle.known_unit_laws.specs.PlanTypes.{PicturePlan}
use Rattle.known_unit_laws.specs.PlanTypes.{SegmentPlan}
use Rattle.known_unit_laws.specs.SpecSliceData.{Between, unit_step}
use Rattle.known_unit_laws.specs.SpecPictureTrees.{SegmentAt, segment_at}
use Rattle.known_unit_laws.specs.SpecPictureTrees.{end_of}
use Rattle.known_unit_laws.specs.SpecKnownUnits.{Entries, KnownUnit, behind_step, between_from, entries_before, is_in}
use Rattle.known_unit_laws.specs.SpecKnownUnits.{known_of}
use Rattle.known_unit_laws.specs.SpecKnownUnits.{picture_segments, read_in, read_uses, segment_having, segments_from}
use Rattle.known_unit_laws.specs.SpecKnownUnits.{unit_read}
use Rattle.known_unit_laws.specs.SpecKnownUnits.{units_known}
use Rattle.known_unit_laws.proofs.Entries.{known_step}
use Rattle.spec_flights.specs.References.{segment_of}

-- a segment that is found is one of these, and has its number
module _ (p : PicturePlan) where
  abbrev Found : List SegmentPlan → ℕ → SegmentAt → Type 0
  Found segments number at =
      (i : ℕ) × (s : SegmentPlan) × (at.number ≡ number + i) × (slice_get segments i ≡ Some s)

  one_more : (s : SegmentPlan) (later : List SegmentPlan) (number : ℕ) (at : SegmentAt)
      → Found later (number + 1) at → Found (s ∷ later) number at
  one_more s later number at (i, t, e, f) = (suc i, t, omega (arith, e), f)

  first_or_later : (s : SegmentPlan) (later : List SegmentPlan) (rest : List SegmentAt) (number first address : ℕ)
      (at : SegmentAt) (t : Bool)
      → (segment_having rest address ≡ Some at → Found later (number + 1) at)
      → (if t then Some (segment_at p number first s later) else segment_having rest address) ≡ Some at
      → Found (s ∷ later) number at
  first_or_later s later rest number first address at true next e =
      let is : segment_at p number first s later ≡ at = cc in
      (0, s, let n = ap (λ (k : SegmentAt). k.number) (sym is) in omega (arith, n), refl)
  first_or_later s later rest number first address at false next e = one_more s later number at (next e)

  found : (segments : List SegmentPlan) (number first address : ℕ) (at : SegmentAt)
      → segment_having (segments_from p number first segments) address ≡ Some at → Found segments number at
  unfolding segments_from segment_having
  found [] number first address at e = absurd cc
  found (s ∷ later) number first address at e =
      let behind : ℕ = end_of (size_in_ctbs p.sps) first later in
      first_or_later s later (segments_from p (number + 1) behind later) number first address at
      (is_in (segment_at p number first s later) address)
      (λ next. found later (number + 1) behind address at next) e

-- the segment of a unit that was read
segment_number_is : (at : SegmentAt) (address : ℕ) (known : KnownUnit) (t : Bool) (step : Result Between Breach)
    → (if t then Some (behind_step at address step) else None) ≡ Some (Ok known) → known.segment ≡ at.number
segment_number_is at address known true (Ok between) e = cc
segment_number_is at address known true (Err breach) e = absurd cc
segment_number_is at address known false step e = absurd cc

read_found : (entries : Entries) (address : ℕ) (o : Option SegmentAt) (known : KnownUnit)
    → read_in entries address o ≡ Some (Ok known)
    → (at : SegmentAt) × (o ≡ Some at) × (known.segment ≡ at.number)
unfolding read_in
read_found entries address None known e = absurd cc
read_found entries address (Some at) known e = (
  at,
  refl,
  segment_number_is at address known (list_all (λ used. is_some (entries used)) (read_uses at address))
      (unit_step at.syntax at.picture at.shape address (between_from entries at.picture address)) e,
)

was_read : (r : Option (Result KnownUnit Breach)) (known : KnownUnit) → known_of r ≡ Some known → r ≡ Some (Ok known)
was_read None known e = absurd cc
was_read (Some (Err breach)) known e = absurd cc
was_read (Some (Ok unit)) known e = ap (λ (k : KnownUnit). Some (Ok k)) cc

module _ (p : PicturePlan) (address : ℕ) (known : KnownUnit) where
  abbrev HasSegment : Type 0
  HasSegment = (s : SegmentPlan) × (slice_get p.segments known.segment ≡ Some s) × (segment_of p address ≡ Some s)

  -- what reading a known unit gave
  pub read_is : address < size_in_ctbs p.sps → units_known p address ≡ Some known
      → unit_read p (units_known p) address ≡ Some (Ok known)
  read_is inside is = was_read (unit_read p (units_known p) address) known (sym (known_step p address inside) ∙ is)

  by_segment : (at : SegmentAt) → segment_having (picture_segments p) address ≡ Some at → known.segment ≡ at.number
      → Found p p.segments 0 at → HasSegment
  unfolding segment_of
  by_segment at having number (i, s, e, f) =
      let place : at.number ≡ i = omega (arith, e) in
      let at_number : slice_get p.segments at.number ≡ Some s = ap (slice_get p.segments) place ∙ f in (
        s,
        ap (slice_get p.segments) number ∙ at_number,
        ap (option_and_then (λ (a : SegmentAt). slice_get p.segments a.number)) having ∙ at_number,
      )

  from_read : ((at : SegmentAt)
      × (segment_having (picture_segments p) address ≡ Some at) × (known.segment ≡ at.number))
      → HasSegment
  from_read (at, having, number) = by_segment at having number (found p p.segments 0 0 address at having)

  pub has_segment : address < size_in_ctbs p.sps → units_known p address ≡ Some known → HasSegment
  unfolding unit_read
  has_segment inside is =
      from_read (read_found (entries_before (units_known p) address) address
      (segment_having (picture_segments p) address) known (read_is inside is))
