-- Segments of a picture, one more behind those that are there.
use Rattle.std.proofs.Common.{◌≡◌, ◌∙◌, ℕ, ◌+◌, ◌-◌, ◌/◌, ◌<◌, ◌≤◌, Bool, true, false, not, ◌||◌, ◌==◌, List, [], ◌∷◌}
use Rattle.std.proofs.Common.{◌++◌, length, Option, Some, None, All, refl, sym, ap, arith, if◌then◌else◌}
use Rattle.std.specs.Prelude.{nat_lt, slice_get, sum}
use Rattle.std.proofs.lemmas.Bool.{and_parts, eqb-true}
use Rattle.std.proofs.lemmas.List.Elements.{All-head, All-tail}
use Rattle.hv_base.specs.declared.fault.Fault.{Fault}
use Rattle.hv_base.specs.declared.fault.FaultKind.TheVariants as rule
use Rattle.slice_types.specs.declared.slice.SliceHeaderFields.{SliceHeaderFields}
use Rattle.header_laws.specs.PlanTypes.{SegmentPlan}
use Rattle.header_laws.specs.SpecSliceHeaders.{address_of as address_in, header_of, last_address, last_segment}
use Rattle.header_laws.specs.SpecSliceHeaders.{slice_of}
use Rattle.header_laws.specs.SpecSliceHeaders.{data_size, ranges_from, substream_ranges, unit_place}
use Rattle.header_laws.specs.PlanTypes.{Rise, address_of, begins_at}
use Rattle.spec_picture_plan.specs.Closing.{broken_at, broken_from, entry_points_fit, or_later, passes_row}
use Rattle.spec_picture_plan.specs.Closing.{row_before}
use Rattle.spec_picture_plan.specs.Closing.{slice_start}
use Rattle.spec_picture_plan.specs.Steps.{slice_number}
use Rattle.plan_laws.specs.Plans.{BeginSlicesFrom, HaveRows}

-- ---- addresses

-- segments begin behind a coding tree unit, each behind the one before
abbrev RiseBehind : ℕ → List SegmentPlan → Type 0
RiseBehind before [] = Unit {0}
RiseBehind before (s ∷ later) = (before < address_of s) × RiseBehind (address_of s) later

-- the first segment begins at the first coding tree unit, and each later one behind the one before
abbrev pub BeginInOrder : List SegmentPlan → Type 0
BeginInOrder [] = ⊥
BeginInOrder (s ∷ later) = (address_of s ≡ 0) × RiseBehind (address_of s) later

-- a segment begins inside a picture of so many coding tree units
abbrev pub IsInside : ℕ → SegmentPlan → Type 0
IsInside size s = address_of s < size

rises : (size : ℕ) (s : SegmentPlan) (later : List SegmentPlan) → RiseBehind (address_of s) later
    → All (IsInside size) (s ∷ later) → Rise size (s ∷ later)
rises size s [] h inside = (All-head (IsInside size) s [] inside, tt)
rises size s (next ∷ later) h inside =
    (h.0, rises size next later h.1 (All-tail (IsInside size) s (next ∷ later) inside))

pub rise_inside : (size : ℕ) (segments : List SegmentPlan) → BeginInOrder segments → All (IsInside size) segments
    → (begins_at size segments ≡ 0) × Rise size segments
rise_inside size [] h inside = absurd h
rise_inside size (s ∷ later) h inside = (h.0, rises size s later h.1 inside)

-- the address of the last of these, or the one before them
abbrev last_or : ℕ → List SegmentPlan → ℕ
last_or before [] = before
last_or before (s ∷ later) = last_or (address_of s) later

rise_more : (before : ℕ) (segments : List SegmentPlan) (s : SegmentPlan) → RiseBehind before segments
    → last_or before segments < address_of s → RiseBehind before (segments ++ s ∷ [])
rise_more before [] s h above = (above, tt)
rise_more before (first ∷ later) s h above = (h.0, rise_more (address_of first) later s h.1 above)

last_at : (first : SegmentPlan) (later : List SegmentPlan)
    → last_segment (first ∷ later) ≡ slice_get (first ∷ later) (length later)
last_at first later =
    let n : length (first ∷ later) - 1 ≡ length later = omega arith in ap (slice_get (first ∷ later)) n

last_more : (first s : SegmentPlan) (later : List SegmentPlan)
    → last_segment (first ∷ s ∷ later) ≡ last_segment (s ∷ later)
last_more first s later = last_at first (s ∷ later) ∙ sym (last_at s later)

last_is : (first : SegmentPlan) (later : List SegmentPlan)
    → last_address (first ∷ later) ≡ Some (last_or (address_of first) later)
last_is first [] = refl
last_is first (s ∷ later) =
    ap (λ (o : Option SegmentPlan). address_in (header_of o)) (last_more first s later) ∙ last_is s later

pub order_more : (segments : List SegmentPlan) (s : SegmentPlan) → BeginInOrder segments
    → ((before : ℕ) → last_address segments ≡ Some before → before < address_of s) → BeginInOrder (segments ++ s ∷ [])
order_more [] s h above = absurd h
order_more (first ∷ later) s h above =
    (h.0, rise_more (address_of first) later s h.1 (above (last_or (address_of first) later) (last_is first later)))

-- ---- slices

slices_more : (number : ℕ) (segments : List SegmentPlan) (s : SegmentPlan) → BeginSlicesFrom number segments
    → s.slice ≤ number + length segments → BeginSlicesFrom number (segments ++ s ∷ [])
slices_more number [] s h le = (omega arith, tt)
slices_more number (first ∷ later) s h le = (h.0, slices_more (number + 1) later s h.1 (omega arith))

last_slice : (number : ℕ) (segments : List SegmentPlan) → BeginSlicesFrom number segments
    → slice_of (last_segment segments) ≤ number + length segments
last_slice number [] h = omega arith
last_slice number (s ∷ []) h = let le = h.0 in omega arith
last_slice number (s ∷ next ∷ later) h =
    let same : slice_of (last_segment (s ∷ next ∷ later)) ≡ slice_of (last_segment (next ∷ later)) =
    ap slice_of (last_more s next later) in
    let le : slice_of (last_segment (next ∷ later)) ≤ number + 1 + length (next ∷ later) =
    last_slice (number + 1) (next ∷ later) h.1 in
    omega (arith, same)

number_is : (segments : List SegmentPlan) (dependent : Bool) → BeginSlicesFrom 0 segments
    → (if dependent then slice_of (last_segment segments) else length segments) ≤ length segments
number_is segments true h = let le = last_slice 0 segments h in omega arith
number_is segments false h = omega arith

pub slices_one_more : (segments : List SegmentPlan) (s : SegmentPlan) (header : SliceHeaderFields)
    → s.slice ≡ slice_number segments header → BeginSlicesFrom 0 segments
    → BeginSlicesFrom 0 (segments ++ s ∷ [])
slices_one_more segments s header is h =
    let le = number_is segments header.segment.dependent_slice_segment_flag h in
    slices_more 0 segments s h (omega (arith, is))

-- ---- substreams

ranges_count : (payload removed : List ℕ) (place : ℕ) (offsets : List ℕ)
    → length (ranges_from payload removed place offsets) ≡ length offsets + 1
unfolding ranges_from
ranges_count payload removed place [] = refl
ranges_count payload removed place (offset ∷ offsets) =
    let more = ranges_count payload removed (place + offset) offsets in omega (arith, more)

-- one more substream than entry points
abbrev pub IsCut : SegmentPlan → Type 0
IsCut s = length s.substreams ≡ length s.header.entry_points + 1

pub cut_is : (payload removed : List ℕ) (first : ℕ) (offsets : List ℕ)
    → length (substream_ranges payload removed first offsets) ≡ length offsets + 1
unfolding substream_ranges
cut_is payload removed first offsets = ranges_count payload removed (unit_place removed first) offsets

-- ---- rows

segment_keeps : (passes fit : Bool) (s : SegmentPlan) (later : Option Fault)
    → or_later
    (if passes then broken_at rule.SliceOrder s else (if not fit then broken_at rule.EntryPoints s else None)) later
    ≡ None
    → (fit ≡ true) × (later ≡ None)
segment_keeps true fit s later e = absurd cc
segment_keeps false true s later e = (refl, e)
segment_keeps false false s later e = absurd cc

pub rows_are : (width size before : ℕ) (segments : List SegmentPlan) → All IsCut segments
    → broken_from width size before segments ≡ None → HaveRows width size segments
rows_are width size before [] cut e = tt
rows_are width size before (s ∷ later) cut e =
    let end = begins_at size later in
    let start = slice_start before s in
    let keeps =
    segment_keeps (passes_row width (address_of s) end || passes_row width start end) (entry_points_fit width end s) s
    (broken_from width size start later) e in
    let parts =
    and_parts (length s.header.entry_points == row_before width end - address_of s / width)
    (nat_lt (sum s.header.entry_points) (data_size s.payload s.removed s.header.data_place)) keeps.0 in
    let count : length s.header.entry_points ≡ row_before width end - address_of s / width = eqb-true _ _ parts.0 in
    let own : IsCut s = All-head IsCut s later cut in
    (omega (arith, own, count), rows_are width size start later (All-tail IsCut s later cut) keeps.1)
