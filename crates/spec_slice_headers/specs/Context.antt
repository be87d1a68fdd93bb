-- What a slice segment header is read under.
use Rattle.std.specs.Prelude.{ℕ, ◌-◌, ◌/◌, ◌^◌, Bool, true, false, ◌||◌, ◌&&◌, List, length, Option, Some, None}
use Rattle.std.specs.Prelude.{Result}
use Rattle.std.specs.Prelude.{Ok, Err, slice_get, nat_lt, nat_le, ◌==◌, if◌then◌else◌}
use Rattle.std.specs.List.{range_with_len, count_by}
use Rattle.hv_base.specs.declared.breach.Breach.{Breach}
use Rattle.hv_base.specs.declared.breach.Breach.TheVariants as breach
use Rattle.hv_base.specs.declared.fault.FaultKind.{FaultKind}
use Rattle.hv_base.specs.declared.nal_types.TheConstants.{BLA_W_LP, CRA_NUT, IDR_N_LP}
use Rattle.slice_types.specs.declared.slice.SliceHeaderFields.{SliceHeaderFields}
use Rattle.slice_types.specs.HeaderTypes.{Sets}
use Rattle.slice_types.specs.HeaderTypes.{Former}
use Rattle.plan_types.specs.declared.segment_plan.SegmentPlan.{SegmentPlan}
use Rattle.spec_parameter_sets.specs.SpecFormats.{refuse, when◌then◌else◌}
use Rattle.spec_parameter_sets.specs.SpecFormats.{Header, give, flag, ue_to}

-- a broken rule
abbrev pub fault : FaultKind → Breach
fault kind = breach.Fault kind

-- a rule, and then another on what it gave
infixl 10 ◌>>=◌
abbrev pub ◌>>=◌ : {X Y : Type 0} → Result X Breach → (X → Result Y Breach) → Result Y Breach
(Ok x) >>= f = f x
(Err e) >>= f = Err e

-- a fact that has to hold
abbrev pub kept : Bool → Breach → Result Bool Breach
kept fact e = if fact then Ok true else Err e

-- rules that stand between two fields
abbrev pub judged : {X : Type 0} → Result X Breach → Header X
judged (Ok x) = give x
judged (Err e) = refuse e

-- a flag, or what is inferred where it isn't coded
abbrev pub flag_or : Bool → Bool → Header Bool
flag_or present inferred = when present then flag else give inferred

-- ue(v) of at most a value, or what is inferred where it isn't coded
abbrev pub ue_or : Bool → ℕ → ℕ → Header ℕ
ue_or present greatest inferred = when present then ue_to greatest else give inferred

-- the segment's NAL unit, and what came before it
pub record Context : Type 0 where
  -- the unit's number and the fields of its header
  pub nal : ℕ
  pub nal_type : ℕ
  pub temporal_id : ℕ
  pub sets : Sets
  -- what the pictures that are over leave to the next one
  pub former : Former
  -- the slice segments of the same picture before it
  pub segments : List SegmentPlan

-- NoRaslOutputFlag: of each IDR and BLA picture, and of a CRA picture that begins a sequence (8.1)
abbrev pub no_rasl_output_flag : ℕ → Bool → Bool
no_rasl_output_flag nal_type first_in_sequence =
    (nat_le BLA_W_LP nal_type && nat_le nal_type IDR_N_LP) || ((nal_type == CRA_NUT) && first_in_sequence)

-- how many bits u(v) has for a field of n values: Ceil(Log2(n)), which is how many bits n - 1 has up to its highest 1
unfoldable pub ceil_log2 : ℕ → ℕ
ceil_log2 n = count_by (λ k. nat_lt 0 ((n - 1) / 2 ^ k)) (range_with_len 0 32)

-- the last of these segments
abbrev pub last_segment : List SegmentPlan → Option SegmentPlan
last_segment segments = slice_get segments (length segments - 1)

-- the header of a segment
abbrev pub header_of : Option SegmentPlan → Option SliceHeaderFields
header_of None = None
header_of (Some s) = Some s.header

-- the number of the segment that begins a segment's slice
abbrev pub slice_of : Option SegmentPlan → ℕ
slice_of None = 0
slice_of (Some s) = s.slice

-- the header of the last slice of these segments
abbrev pub slice_header : List SegmentPlan → Option SliceHeaderFields
slice_header segments = header_of (slice_get segments (slice_of (last_segment segments)))

-- its slice_segment_address
abbrev pub address_of : Option SliceHeaderFields → Option ℕ
address_of None = None
address_of (Some header) = Some header.segment.slice_segment_address

-- the address of the last of these segments
abbrev pub last_address : List SegmentPlan → Option ℕ
last_address segments = address_of (header_of (last_segment segments))

-- whether a header agrees with the first one of its picture, where that is another one
abbrev pub agrees : Option SliceHeaderFields → (SliceHeaderFields → Bool) → Bool
agrees None test = true
agrees (Some first) test = test first

-- the first header of the picture, for a segment that isn't the first
abbrev pub first_of : Context → Bool → Option SliceHeaderFields
first_of c true = None
first_of c false = header_of (slice_get c.segments 0)
