-- The order in which a stream is judged and its pictures go out (7.4.2.4.4, 8.1, C.5.2.2). What a unit closes comes
-- before the unit's own fields, and of a picture that is closed the rules on its slice segments together, that on the
-- buffer, what goes out before it, its data, and what goes out behind it. What comes first in this order is what stops
-- decoding, and what goes out is what goes out before that.
use Rattle.std.specs.Prelude.{ℕ, Bool, true, false, not, ◌&&◌, ◌||◌, List, [], ◌∷◌, ◌++◌, Option, Some, None, Result}
use Rattle.std.specs.Prelude.{Ok}
use Rattle.std.specs.Prelude.{Err, option_map, nat_lt, if◌then◌else◌}
use Rattle.hv_base.specs.declared.refusal.Stop.{Stop}
use Rattle.hv_base.specs.declared.refusal.Stop.TheVariants as stop
use Rattle.spec_picture_plan.specs.PlanTypes.{Between}
use Rattle.spec_picture_plan.specs.PlanTypes.{PicturePlan}
use Rattle.spec_bits.specs.Bits.{bits}
use Rattle.spec_nal_units.specs.Judged.{NalUnit, Told, told_of}
use Rattle.spec_picture_plan.specs.SpecOutputOrder.{last_outputs}
use Rattle.spec_picture_plan.specs.SpecParameterSets.{picture_parameter_set_of}
use Rattle.spec_picture_plan.specs.SpecParameterSets.{sequence_parameter_set_of}
use Rattle.spec_picture_plan.specs.Closing.{broken_in, full_at}
use Rattle.spec_picture_plan.specs.Pictures.{beginning}
use Rattle.spec_picture_plan.specs.Planned.{stop_of}
use Rattle.spec_picture_plan.specs.Steps.{Stepped, behind_read, close, closing, first_flag, goes_on, informed}
use Rattle.spec_picture_plan.specs.Steps.{put_pps, put_sps, sequence_end, slice_judged, step}
use Rattle.spec_picture_plan.specs.UnitKinds.{is_rasl, kind_of_type}
use Rattle.spec_picture_plan.specs.declared.unit_kind.UnitKind.{UnitKind}
use Rattle.spec_picture_plan.specs.declared.unit_kind.UnitKind.TheVariants as unit
use Rattle.spec_decoder.specs.Decoder.{BufferPicture, Decoded, decoded_picture, ended, kept_from, out_at, put_out}

-- one thing after the other: something is judged, by what stops the stream there, if anything does; the pictures at
-- these places of the buffer go out; the data of a picture are decoded, and it stands behind the last of the buffer;
-- the pictures of the buffer stay whose places these are
pub data Event : Type 0 where
  Judge : Option Stop → Event
  Output : List ℕ → Event
  Data : PicturePlan → Event
  Keep : List ℕ → Event

-- a picture that is closed
abbrev pub picture_events : PicturePlan → List Event
picture_events p =
    -- the rows and the entry points of its slice segments, segment by segment (7.4.7.1)
    Judge (option_map stop.Fault (broken_in p))
    -- whether the buffer has room for it (C.5.2.2)
    ∷ Judge (option_map stop.Fault (full_at p))
    ∷ Output p.outputs.before
    -- its coding tree units in decoding order
    ∷ Data p
    ∷ Output p.outputs.behind
    ∷ Keep p.outputs.kept
    ∷ []

-- the open picture, if there is one
abbrev pub open_events : Option PicturePlan → List Event
open_events None = []
open_events (Some p) = picture_events p

-- whether a slice segment is of a leading picture that is dropped
abbrev pub is_dropped : Between → NalUnit → Bool
is_dropped s u = is_rasl u.nal_type && s.drops_rasl

-- whether a unit of a kind closes the open picture: a slice segment does where it is dropped, or doesn't go on with it
abbrev pub kind_closes : Between → NalUnit → UnitKind → Bool
kind_closes s u unit.Slice = is_dropped s u || not (goes_on (first_flag (bits u.payload)))
kind_closes s u unit.SuffixInformation = false
kind_closes s u unit.Other = false
kind_closes s u kind = true

-- whether a unit as it was told does; one that is refused does too, one of a layer above the base doesn't
abbrev pub closes : Between → Told → Bool
closes s (Told.Whole u) = not (nat_lt 0 u.layer) && kind_closes s u (kind_of_type u.nal_type)
closes s (Told.Broken f) = true
closes s (Told.Met l) = true

-- a unit of a kind by itself, behind what it closes
abbrev pub kind_judged : NalUnit → UnitKind → Between → Result Between Stop
kind_judged u unit.Slice s = if is_dropped s u then Ok s else slice_judged u s
kind_judged u unit.SequenceSet s = behind_read u.index (sequence_parameter_set_of u.payload) (put_sps s)
kind_judged u unit.PictureSet s = behind_read u.index (picture_parameter_set_of u.payload) (put_pps s)
kind_judged u unit.SequenceEnd s = Ok (sequence_end s)
kind_judged u unit.Border s = Ok s
kind_judged u unit.SuffixInformation s = Ok (informed s u)
kind_judged u unit.Other s = Ok s

-- a unit as it was told by itself
abbrev pub unit_judged : Told → Between → Result Between Stop
unit_judged (Told.Whole u) s = if nat_lt 0 u.layer then Ok s else kind_judged u (kind_of_type u.nal_type) s
unit_judged (Told.Broken f) s = Err (stop.Fault f)
unit_judged (Told.Met l) s = Err (stop.Limit l)

-- a unit: what it closes, and then itself
abbrev pub closed_first : Bool → Between → (Between → Result Between Stop) → Stepped
closed_first true s judged = closing s judged
closed_first false s judged = record { closed = []; next = judged s }

abbrev pub closed_events : Bool → Between → List Event
closed_events true s = open_events s.picture
closed_events false s = []

-- behind a unit that doesn't stop the stream
abbrev pub next_events : Result Between Stop → (Between → List Event) → List Event
next_events (Err e) f = []
next_events (Ok s) f = f s

-- what is known behind the open picture, once the input ends
abbrev pub last_events : Result Between Stop → List Event
last_events (Err e) = []
last_events (Ok s) = Output (last_outputs s.former.dpb) ∷ []

-- the end of the input, or of what has come of it
abbrev pub end_events : Bool → Between → List Event
end_events true s = open_events s.picture ++ last_events (close s).next
end_events false s = []

-- all that happens over these units: of each what it closes, and then itself
abbrev pub trail : Bool → Between → List Told → List Event
trail ended s [] = end_events ended s
trail ended s (t ∷ ts) =
    closed_events (closes s t) s
    ++ Judge (stop_of (step s t).next) ∷ next_events (step s t).next (λ n. trail ended n ts)

abbrev pub trail_of : Bool → List ℕ → List Event
trail_of ended bytes = trail ended beginning (told_of ended bytes)

-- a picture that is decoded stands behind the last of the buffer; where it can't be, that ends decoding
abbrev pub with_decoded : List BufferPicture → Result BufferPicture Stop → (List BufferPicture → Decoded) → Decoded
with_decoded buffer (Err e) next = ended (Some e)
with_decoded buffer (Ok picture) next = next (buffer ++ picture ∷ [])

abbrev pub unless : Option Stop → Decoded → Decoded
unless None later = later
unless (Some e) later = ended (Some e)

-- what goes out as these things happen one after the other, up to the first that stops decoding
abbrev pub first_of : Bool → List Event → List BufferPicture → Decoded
first_of hash [] buffer = ended None
first_of hash (Judge s ∷ later) buffer = unless s (first_of hash later buffer)
first_of hash (Output places ∷ later) buffer = put_out (out_at buffer places) (first_of hash later buffer)
first_of hash (Data p ∷ later) buffer = with_decoded buffer (decoded_picture hash buffer p) (first_of hash later)
first_of hash (Keep places ∷ later) buffer = first_of hash later (kept_from places 0 buffer)
