-- What is judged of a picture once all its slice segments are there (7.4.7.1, C.5.2.2).
use Rattle.std.specs.Prelude.{ℕ, zero, suc, ◌+◌, ◌-◌, ◌/◌, ◌%◌, Bool, true, false, not, ◌&&◌, ◌||◌, List, [], ◌∷◌}
use Rattle.std.specs.Prelude.{length, sum, Option, Some, None, nat_lt, ◌==◌, if◌then◌else◌}
use Rattle.hv_base.specs.declared.fault.FaultKind.{FaultKind}
use Rattle.hv_base.specs.declared.fault.FaultKind.TheVariants as rule
use Rattle.hv_base.specs.declared.fault.Fault.{Fault}
use Rattle.spec_slice_headers.specs.BlockGeometry.{ctb_scan}
use Rattle.header_types.specs.SequenceParameterSets.{highest_ordering, width_in_ctbs, size_in_ctbs}
use Rattle.spec_output_order.specs.SpecReferencePictures.{begins_anew}
use Rattle.spec_slice_headers.specs.Substreams.{data_size}
use Rattle.spec_output_order.specs.OutputOrder.{is_full_of_references}
use Rattle.spec_slice_headers.specs.PlanTypes.{SegmentPlan}
use Rattle.spec_slice_headers.specs.PlanTypes.{PicturePlan}
use Rattle.spec_slice_headers.specs.PlanTypes.{address_of, begins_at}

-- the row of the last coding tree unit before a place of the scan
abbrev pub row_before : ℕ → ℕ → ℕ
row_before width end = ctb_scan (end - 1) / width

-- whether coding tree units from one inside a row (not its first) on, up to a place, reach a later row
abbrev pub passes_row : ℕ → ℕ → ℕ → Bool
passes_row width first end = not (first % width == 0) && nat_lt (first / width) (row_before width end)

-- whether the entry points of a segment fit: one for each row but its first, and all of them inside the data
abbrev pub entry_points_fit : ℕ → ℕ → SegmentPlan → Bool
entry_points_fit width end s =
    (length s.header.entry_points == row_before width end - address_of s / width)
    && nat_lt (sum s.header.entry_points) (data_size s.payload s.removed s.header.data_place)

-- a rule that a segment breaks
abbrev pub broken_at : FaultKind → SegmentPlan → Option Fault
broken_at kind s = Some (record { kind = kind; nal = s.header.nal; ctu = None })

-- the first coding tree unit of the slice that a segment belongs to, where the slice before began at another
abbrev pub slice_start : ℕ → SegmentPlan → ℕ
slice_start before s = if s.header.segment.dependent_slice_segment_flag then before else address_of s

-- the rule that a segment breaks which ends before the place `end` of the scan, with entropy coding sync: where it
-- begins inside a row, or its slice, which begins at `start`, does, it ends in that row; and its entry points fit
abbrev pub segment_breaks : ℕ → ℕ → ℕ → SegmentPlan → Option Fault
segment_breaks width start end s =
    if passes_row width (address_of s) end || passes_row width start end then broken_at rule.SliceOrder s
    else (if not (entry_points_fit width end s) then broken_at rule.EntryPoints s
    else None)

-- the earlier of two breaks
abbrev pub or_later : Option Fault → Option Fault → Option Fault
or_later None later = later
or_later (Some f) later = Some f

-- the rule that the first of these segments breaks; the slice before began at `before`
abbrev pub broken_from : ℕ → ℕ → ℕ → List SegmentPlan → Option Fault
broken_from width size before [] = None
broken_from width size before (s ∷ later) =
    or_later (segment_breaks width (slice_start before s) (begins_at size later) s)
    (broken_from width size (slice_start before s) later)

-- the first rule that the slice segments of a picture break together
unfoldable pub broken_in : PicturePlan → Option Fault
broken_in p =
    if p.pps.prediction.entropy_coding_sync_enabled_flag
    then broken_from (width_in_ctbs p.sps) (size_in_ctbs p.sps) 0 p.segments
    else None

-- whether the decoded picture buffer has no room for a picture: as many pictures are marked as reference as it holds
-- (C.5.2.2)
abbrev pub is_buffer_full : PicturePlan → Bool
is_buffer_full p =
    is_full_of_references (begins_anew p.kind) (highest_ordering p.sps.order.sub_layer_ordering) p.rps.marks

-- a picture that finds no place in the buffer
abbrev pub full_at : PicturePlan → Option Fault
full_at p = if is_buffer_full p then Some (record { kind = rule.DpbFull; nal = p.nal; ctu = None }) else None

-- the first rule that a picture breaks as it is closed: of those on its segments, and then on the buffer at its start
abbrev pub broken_at_closing : PicturePlan → Option Fault
broken_at_closing p = or_later (broken_in p) (full_at p)
