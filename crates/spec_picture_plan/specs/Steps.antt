-- One unit of a stream after the other: what it closes, how it is judged, and what is known behind it.
use Rattle.std.specs.Prelude.{ℕ, ◌+◌, ℤ, Bool, true, false, not, ◌&&◌, ◌||◌, List, [], ◌∷◌, ◌++◌, length, slice_set}
use Rattle.std.specs.Prelude.{slice_index_or, Option, Some, None, is_none, option_map, Result, Ok, Err, nat_lt}
use Rattle.std.specs.Prelude.{nat_le}
use Rattle.std.specs.Prelude.{if◌then◌else◌}
use Rattle.hv_base.specs.declared.breach.Breach.{Breach}
use Rattle.hv_base.specs.declared.breach.Breach.TheVariants as breach
use Rattle.hv_base.specs.declared.fault.FaultKind.{FaultKind}
use Rattle.hv_base.specs.declared.fault.FaultKind.TheVariants as rule
use Rattle.hv_base.specs.declared.fault.Fault.{Fault}
use Rattle.hv_base.specs.declared.limit.LimitKind.TheVariants as bound
use Rattle.hv_base.specs.declared.refusal.Stop.{Stop}
use Rattle.hv_base.specs.declared.refusal.Stop.TheVariants as stop
use Rattle.hv_base.specs.Stops.{stopped_at}
use Rattle.header_types.specs.declared.sps.SpsFields.{SpsFields}
use Rattle.header_types.specs.declared.pps.PpsFields.{PpsFields}
use Rattle.spec_slice_headers.specs.SliceTypes.{PictureKind}
use Rattle.spec_slice_headers.specs.SliceTypes.{SliceHeaderFields}
use Rattle.header_types.specs.declared.reference_pictures.DpbPicture.{DpbPicture}
use Rattle.header_types.specs.declared.reference_pictures.Lists.{Lists}
use Rattle.header_types.specs.declared.reference_pictures.Rps.{Rps}
use Rattle.header_types.specs.declared.former.Sets.{Sets}
use Rattle.header_types.specs.declared.former.Former.{Former}
use Rattle.spec_slice_headers.specs.PlanTypes.{StatedHash}
use Rattle.spec_stated_hashes.specs.Digests.{digest_of}
use Rattle.spec_stated_hashes.specs.StatedHashes.{stated_hashes}
use Rattle.spec_output_order.specs.SpecBits.{bits}
use Rattle.spec_slice_headers.specs.SpecNalUnits.{NalUnit, Told}
use Rattle.spec_slice_headers.specs.SpecParameterSets.{picture_parameter_set_of}
use Rattle.spec_slice_headers.specs.SpecParameterSets.{sequence_parameter_set_of}
use Rattle.spec_output_order.specs.SpecReferencePictures.{is_irap, pic_order_cnt_val}
use Rattle.spec_output_order.specs.SpecReferencePictures.{reference_lists}
use Rattle.spec_output_order.specs.SpecReferencePictures.{reference_picture_set}
use Rattle.spec_slice_headers.specs.Context.{Context, last_segment, slice_of}
use Rattle.spec_slice_headers.specs.NamedSets.{Named, named_by}
use Rattle.spec_slice_headers.specs.SegmentHeader.{slice_header_of}
use Rattle.spec_slice_headers.specs.Substreams.{substream_ranges}
use Rattle.spec_output_order.specs.CurrentPictures.{current_picture}
use Rattle.spec_output_order.specs.OutputOrder.{outputs_of}
use Rattle.spec_slice_headers.specs.PlanTypes.{Between}
use Rattle.spec_picture_plan.specs.declared.unit_kind.UnitKind.{UnitKind}
use Rattle.spec_picture_plan.specs.declared.unit_kind.UnitKind.TheVariants as unit
use Rattle.spec_picture_plan.specs.UnitKinds.{kind_of_type, is_rasl}
use Rattle.spec_slice_headers.specs.PlanTypes.{SegmentPlan}
use Rattle.spec_slice_headers.specs.PlanTypes.{PicturePlan}
use Rattle.spec_picture_plan.specs.Pictures.{former_after}
use Rattle.spec_picture_plan.specs.Closing.{broken_at_closing}

-- the pictures that a unit closes, and what is known behind it or what stops the stream
pub record Stepped : Type 0 where
  pub closed : List PicturePlan
  pub next : Result Between Stop

-- a broken rule or a limit at a unit
abbrev pub stop_at : ℕ → Breach → Stop
stop_at nal b = stopped_at nal None b

-- what is known behind a unit that is read so, or what stops the stream there
abbrev pub behind_read : {X : Type 0} → ℕ → Result X Breach → (X → Between) → Result Between Stop
behind_read nal (Err e) f = Err (stop_at nal e)
behind_read nal (Ok x) f = Ok (f x)

-- what is known once a picture is over
abbrev pub behind : Between → PicturePlan → Between
behind s p = record { sets = s.sets; former = former_after s.former p; drops_rasl = s.drops_rasl; picture = None }

-- a picture closes, or breaks a rule at its closing
abbrev pub closed_by : Between → PicturePlan → Option Fault → Stepped
closed_by s p None = record { closed = p ∷ []; next = Ok (behind s p) }
closed_by s p (Some f) = record { closed = []; next = Err (stop.Fault f) }

-- the open picture closes, where there is one
abbrev pub closed_open : Between → Option PicturePlan → Stepped
closed_open s None = record { closed = []; next = Ok s }
closed_open s (Some p) = closed_by s p (broken_at_closing p)

-- the open picture is closed: its slice segments are judged together, and the buffer at its start
unfoldable pub close : Between → Stepped
close s = closed_open s s.picture

-- what closes, and then what follows
abbrev pub then_next : List PicturePlan → Result Between Stop → (Between → Result Between Stop) → Stepped
then_next closed (Err e) f = record { closed = closed; next = Err e }
then_next closed (Ok s) f = record { closed = closed; next = f s }

-- the open picture closes, and then a unit is read
abbrev pub closing : Between → (Between → Result Between Stop) → Stepped
closing s f = then_next (close s).closed (close s).next f

-- a parameter set is accepted: it replaces the one of its id
abbrev pub put_sps : Between → SpsFields → Between
put_sps s sps = record s {
  sets = record s.sets { sps = slice_set s.sets.sps sps.identity.sps_seq_parameter_set_id (Some sps) };
}

-- a picture parameter set replaces that of its number
abbrev pub put_pps : Between → PpsFields → Between
put_pps s pps = record s {
  sets = record s.sets { pps = slice_set s.sets.pps pps.identity.pps_pic_parameter_set_id (Some pps) };
}

-- a sequence ends: the next picture begins one
abbrev pub sequence_end : Between → Between
sequence_end s = record s { former = record s.former { first_in_sequence = true }; drops_rasl = false }

-- first_slice_segment_in_pic_flag, where the payload has it
abbrev pub first_flag : List Bool → Option Bool
first_flag [] = None
first_flag (flag ∷ bits) = Some flag

-- what the header of a slice segment behind these of its picture is read under
abbrev pub context_of : Sets → Former → List SegmentPlan → NalUnit → Context
context_of sets former segments u = record {
  nal = u.index;
  nal_type = u.nal_type;
  temporal_id = u.temporal_id;
  sets = sets;
  former = former;
  segments = segments;
}

-- the number of the segment that begins a segment's slice: where it is dependent that of the segment before
abbrev pub slice_number : List SegmentPlan → SliceHeaderFields → ℕ
slice_number before header =
    if header.segment.dependent_slice_segment_flag then slice_of (last_segment before) else length before

-- the lists of the slice that a segment begins, of a picture before which the buffer has these pictures
abbrev pub lists_of : List DpbPicture → SliceHeaderFields → Rps → Option Lists
lists_of dpb header rps =
    if header.segment.dependent_slice_segment_flag then None else Some (reference_lists header.slice rps dpb)

-- a segment behind these of its picture, before which the buffer has these pictures, and which has this reference
-- picture set
abbrev pub segment_of : List SegmentPlan → List DpbPicture → Rps → NalUnit → SliceHeaderFields → SegmentPlan
segment_of before dpb rps u header = record {
  header = header;
  payload = u.payload;
  removed = u.removed;
  slice = slice_number before header;
  lists = lists_of dpb header rps;
  substreams = substream_ranges u.payload u.removed header.data_place header.entry_points;
}

-- the picture that a first slice segment opens
abbrev pub with_set : List DpbPicture → NalUnit → SliceHeaderFields → Named → ℤ → Result Rps FaultKind
    → Result PicturePlan Breach
with_set dpb u header n poc (Err kind) = Err (breach.Fault kind)
with_set dpb u header n poc (Ok rps) = Ok (record {
  nal = u.index;
  kind = header.kind;
  sps = n.sps;
  pps = n.pps;
  poc = poc;
  rps = rps;
  outputs = outputs_of (current_picture header n.sps poc) dpb rps.marks;
  segments = segment_of [] dpb rps u header ∷ [];
  hashes = [];
})

-- a picture with its order count, or the rule that this breaks
abbrev pub with_order : Former → NalUnit → SliceHeaderFields → Named → Result ℤ FaultKind → Result PicturePlan Breach
with_order former u header n (Err kind) = Err (breach.Fault kind)
with_order former u header n (Ok poc) =
    with_set former.dpb u header n poc (reference_picture_set header.kind header.slice.references poc former.dpb)

-- a picture by the sets that its header names
abbrev pub with_sets : Former → NalUnit → SliceHeaderFields → Option Named → Result PicturePlan Breach
with_sets former u header None = Err (breach.Fault rule.MissingSet)
with_sets former u header (Some n) =
    with_order former u header n
    (pic_order_cnt_val header.kind header.slice.references.slice_pic_order_cnt_lsb former.prev_tid0_pic_order_cnt)

-- an accepted header has parameter sets, an order count in range and its reference pictures, so this is a picture
unfoldable pub picture_of : Sets → Former → NalUnit → SliceHeaderFields → Result PicturePlan Breach
picture_of sets former u header = with_sets former u header (named_by sets header.segment.slice_pic_parameter_set_id)

-- whether random access skipped leading pictures are dropped behind a picture of this kind
abbrev pub drops_after : Bool → PictureKind → Bool
drops_after before kind = if is_irap kind.nal_type then kind.no_rasl_output_flag else before

-- a picture whose first segment this is
abbrev pub begun : Between → PicturePlan → Between
begun s p = record s { drops_rasl = drops_after s.drops_rasl p.kind; picture = Some p }

-- the open picture as it is with one more segment
abbrev pub continued : Between → PicturePlan → Between
continued s p = record s { picture = Some p }

-- a segment more of a picture
abbrev pub with_segment : List DpbPicture → NalUnit → SliceHeaderFields → PicturePlan → PicturePlan
with_segment dpb u header p = record p { segments = p.segments ++ segment_of p.segments dpb p.rps u header ∷ [] }

-- the header of a slice segment behind these of its picture: the first picture of a sequence is an intra random access
-- point, a picture has at most 4096 segments, and the header keeps its rules
unfoldable pub judged_header : Sets → Former → List SegmentPlan → NalUnit → Result SliceHeaderFields Breach
judged_header sets former segments u =
    if is_none (first_flag (bits u.payload)) then Err (breach.Fault rule.HeaderSyntax)
    else (if former.first_in_sequence && not (is_irap u.nal_type || nat_lt 0 (length segments))
    then Err (breach.Fault rule.FirstPicture)
    else (if nat_le 4096 (length segments) then Err (breach.Limit bound.Segments)
    else slice_header_of (context_of sets former segments u) u.payload))

-- a picture opens by its first header
abbrev pub opened_by : Sets → Former → NalUnit → Result SliceHeaderFields Breach → Result PicturePlan Breach
opened_by sets former u (Err e) = Err e
opened_by sets former u (Ok header) = picture_of sets former u header

-- the picture that a slice segment opens while none is open
unfoldable pub opening : Sets → Former → NalUnit → Result PicturePlan Breach
opening sets former u = opened_by sets former u (judged_header sets former [] u)

-- a picture goes on by a later header
abbrev pub continued_by : Former → NalUnit → PicturePlan → Result SliceHeaderFields Breach → Result PicturePlan Breach
continued_by former u p (Err e) = Err e
continued_by former u p (Ok header) = Ok (with_segment former.dpb u header p)

-- the open picture with one more slice segment
unfoldable pub continuing : Sets → Former → NalUnit → PicturePlan → Result PicturePlan Breach
continuing sets former u p = continued_by former u p (judged_header sets former p.segments u)

-- a slice segment opens a picture, or goes on with the open one
abbrev pub joined : NalUnit → Between → Option PicturePlan → Result Between Stop
joined u s None = behind_read u.index (opening s.sets s.former u) (begun s)
joined u s (Some p) = behind_read u.index (continuing s.sets s.former u p) (continued s)

-- a slice segment joins the open picture, or opens one, once what it closes is closed
unfoldable pub slice_judged : NalUnit → Between → Result Between Stop
slice_judged u s = joined u s s.picture

-- whether a slice segment goes on with the open picture: its first bit is 0
abbrev pub goes_on : Option Bool → Bool
goes_on None = false
goes_on (Some first) = not first

-- a slice segment: of a dropped picture it closes the open one and isn't read; one that begins a picture closes the
-- open one first
unfoldable pub slice_step : Between → NalUnit → Stepped
slice_step s u =
    if is_rasl u.nal_type && s.drops_rasl then close s
    else (if goes_on (first_flag (bits u.payload)) then record { closed = []; next = slice_judged u s }
    else closing s (slice_judged u))

-- the hashes of the planes Y, Cb and Cr as the unit of this number states them
abbrev pub stated_hash : ℕ → List (List ℕ) → StatedHash
stated_hash nal hashes = record {
  nal = nal;
  luma = digest_of (slice_index_or hashes 0 []);
  cb = digest_of (slice_index_or hashes 1 []);
  cr = digest_of (slice_index_or hashes 2 []);
}

-- the hashes that the unit of this number states, where it does
abbrev pub stated_in : ℕ → Option (List (List ℕ)) → List StatedHash
stated_in nal None = []
stated_in nal (Some hashes) = stated_hash nal hashes ∷ []

-- a picture with what a unit states of its planes
abbrev pub with_hashes : NalUnit → PicturePlan → PicturePlan
with_hashes u p = record p { hashes = p.hashes ++ stated_in u.index (stated_hashes u.payload) }

-- suffix supplemental enhancement information is of the open picture, if there is one
abbrev pub informed : Between → NalUnit → Between
informed s u = record s { picture = option_map (with_hashes u) s.picture }

-- a unit by its kind
abbrev pub kind_step : Between → NalUnit → UnitKind → Stepped
kind_step s u unit.Slice = slice_step s u
kind_step s u unit.SequenceSet = closing s (λ t. behind_read u.index (sequence_parameter_set_of u.payload) (put_sps t))
kind_step s u unit.PictureSet = closing s (λ t. behind_read u.index (picture_parameter_set_of u.payload) (put_pps t))
kind_step s u unit.SequenceEnd = closing s (λ t. Ok (sequence_end t))
kind_step s u unit.Border = close s
kind_step s u unit.SuffixInformation = record { closed = []; next = Ok (informed s u) }
kind_step s u unit.Other = record { closed = []; next = Ok s }

-- one unit: those of a layer above the base are passed over
unfoldable pub unit_step : Between → NalUnit → Stepped
unit_step s u =
    if nat_lt 0 u.layer then record { closed = []; next = Ok s } else kind_step s u (kind_of_type u.nal_type)

-- a unit as it was told, or what it breaks or meets, behind what it closes
unfoldable pub step : Between → Told → Stepped
step s (Told.Whole u) = unit_step s u
step s (Told.Broken f) = closing s (λ t. Err (stop.Fault f))
step s (Told.Met l) = closing s (λ t. Err (stop.Limit l))
