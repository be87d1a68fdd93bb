-- The pictures of a stream that is made, as they are planned (8.1, 8.3, C.5.2).
use Rattle.std.specs.Prelude.{ℕ, ◌+◌, ◌-◌, ◌%◌, ◌==◌, pos, Bool, true, false, List, [], ◌∷◌, Some}
use Rattle.std.specs.Prelude.{if◌then◌else◌}
use Rattle.header_types.specs.declared.reference_pictures.DpbPicture.{DpbPicture}
use Rattle.header_types.specs.declared.reference_pictures.Lists.{Lists}
use Rattle.header_types.specs.declared.reference_pictures.Mark.{Mark}
use Rattle.header_types.specs.declared.reference_pictures.Mark.TheVariants.{Short, Unused}
use Rattle.header_types.specs.declared.reference_pictures.RefEntry.{RefEntry}
use Rattle.header_types.specs.declared.reference_pictures.Rps.{Rps}
use Rattle.slice_types.specs.declared.slice.SliceHeaderFields.{SliceHeaderFields}
use Rattle.slice_types.specs.declared.slice.SliceType.{SliceType}
use Rattle.slice_types.specs.declared.slice.SliceType.TheVariants as slice
use Rattle.plan_types.specs.declared.outputs.Outputs.{Outputs}
use Rattle.plan_types.specs.declared.picture_plan.PicturePlan.{PicturePlan}
use Rattle.plan_types.specs.declared.segment_plan.SegmentPlan.{SegmentPlan}
use Rattle.plan_types.specs.declared.stated_hash.StatedHash.{StatedHash}
use Rattle.spec_slice_headers.specs.Substreams.{substream_ranges}
use Rattle.made_laws.specs.Sets.{made_pps, made_sps}
use Rattle.made_laws.specs.Headers.{made_header, made_kind, order_at, type_at}

-- a picture that is kept for reference, and whether it waits for its output
abbrev pub held : ℕ → Bool → DpbPicture
held poc waits = record { poc = pos poc; mark = Short; needed_for_output = waits }

-- the buffer behind a picture
abbrev pub buffer_behind : SliceType → ℕ → List DpbPicture
buffer_behind slice.I poc = held poc true ∷ []
buffer_behind slice.P poc = held (poc - 2) false ∷ held poc true ∷ []
buffer_behind slice.B poc = held (poc - 1) false ∷ held (poc + 1) true ∷ held poc false ∷ []

-- how a picture of a group uses the buffer before it: the places there of the picture before it that it refers to
-- and of that behind it, how the pictures there are marked, which of them go out before it and behind it, and which
-- stay. The buffer is empty before the first picture of the stream
pub record BufferUse : Type 0 where
  pub earlier : List ℕ
  pub later : List ℕ
  pub marks : List Mark
  pub before : List ℕ
  pub behind : List ℕ
  pub kept : List ℕ

abbrev pub first_idr : BufferUse
first_idr = record { earlier = []; later = []; marks = []; before = []; behind = []; kept = 0 ∷ [] }

abbrev pub later_idr : BufferUse
later_idr = record {
  earlier = [];
  later = [];
  marks = Unused ∷ Unused ∷ [];
  before = 1 ∷ [];
  behind = [];
  kept = 2 ∷ [];
}

abbrev pub first_p : BufferUse
first_p = record {
  earlier = 0 ∷ [];
  later = [];
  marks = Short ∷ [];
  before = [];
  behind = 0 ∷ [];
  kept = 0 ∷ 1 ∷ [];
}

abbrev pub later_p : BufferUse
later_p = record {
  earlier = 1 ∷ [];
  later = [];
  marks = Unused ∷ Short ∷ Unused ∷ [];
  before = [];
  behind = 1 ∷ [];
  kept = 1 ∷ 3 ∷ [];
}

abbrev pub any_b : BufferUse
any_b = record {
  earlier = 0 ∷ [];
  later = 1 ∷ [];
  marks = Short ∷ Short ∷ [];
  before = [];
  behind = 2 ∷ [];
  kept = 0 ∷ 1 ∷ 2 ∷ [];
}

-- the picture of a number in its group, which may be the first of the stream
abbrev pub buffer_use_at : Bool → ℕ → BufferUse
buffer_use_at first g =
    if g == 0 then (if first then first_idr else later_idr)
    else (if g % 2 == 1 then (if g == 1 then first_p else later_p) else any_b)

abbrev pub made_rps : BufferUse → Rps
made_rps d = record {
  st_curr_before = d.earlier;
  st_curr_after = d.later;
  st_foll = [];
  lt_curr = [];
  lt_foll = [];
  marks = d.marks;
}

abbrev pub made_outputs : BufferUse → SliceType → ℕ → Outputs
made_outputs d type poc =
    record { before = d.before; behind = d.behind; kept = d.kept; dpb = buffer_behind type poc }

-- the entry of a list, by its place in the buffer and its order count
abbrev pub entries_at : List ℕ → ℕ → List RefEntry
entries_at [] poc = []
entries_at (place ∷ places) poc = record { place = place; poc = pos poc; is_long_term = false } ∷ []

abbrev pub earlier_order : SliceType → ℕ → ℕ
earlier_order slice.I poc = poc
earlier_order slice.P poc = poc - 2
earlier_order slice.B poc = poc - 1

abbrev pub made_lists : BufferUse → SliceType → ℕ → Lists
made_lists d type poc =
    record { l0 = entries_at d.earlier (earlier_order type poc); l1 = entries_at d.later (poc + 1) }

-- ---- the plan

-- a slice as its unit has it: its payload, where emulation prevention bytes stand, its entry points, and where the data
-- begin in the payload
pub record MadeSlice : Type 0 where
  pub payload : List ℕ
  pub removed : List ℕ
  pub entry_points : List ℕ
  pub data_place : ℕ

abbrev pub segment_with : Lists → SliceHeaderFields → MadeSlice → SegmentPlan
segment_with lists header s = record {
  header = header;
  payload = s.payload;
  removed = s.removed;
  slice = 0;
  lists = Some lists;
  substreams = substream_ranges s.payload s.removed s.data_place s.entry_points;
}

-- a picture of this type and order count, whose slice stands in the unit of this number, and of which these hashes are
-- stated
abbrev pub plan_with : BufferUse → SliceType → ℕ → ℕ → MadeSlice → List StatedHash → PicturePlan
plan_with d type poc nal s hashes = record {
  nal = nal;
  kind = made_kind type;
  sps = made_sps;
  pps = made_pps;
  poc = pos poc;
  rps = made_rps d;
  outputs = made_outputs d type poc;
  segments = segment_with (made_lists d type poc) (made_header type poc nal s.entry_points s.data_place) s ∷ [];
  hashes = hashes;
}

-- the picture of a number in its group, which may be the first of the stream
unfoldable pub made_plan : Bool → ℕ → ℕ → MadeSlice → List StatedHash → PicturePlan
made_plan first g nal s hashes = plan_with (buffer_use_at first g) (type_at g) (order_at g) nal s hashes
