-- Slice segment headers that are read are in range.
use Rattle.std.proofs.Common.{◌≡◌, ◌<◌, ℕ, true, [], Option, Some, None, IfSome, Ok}
use Rattle.slice_types.specs.declared.slice.SliceHeaderFields.{SliceHeaderFields}
use Rattle.slice_types.specs.SliceHeaders.{IsSliceFields, IsSliceHeader}
use Rattle.slice_fields.specs.HeaderFields.{FieldReader}
use Rattle.slice_fields.specs.HeaderFields.{Takes}
use Rattle.spec_formats.specs.Fields.{Header}
use Rattle.spec_formats.proofs.Values.{CanBe, can_be}
use Rattle.header_laws.specs.Ranges.{IsNamed}
use Rattle.header_laws.proofs.Headers.{first_lsb, header_is, placed_is}
use Rattle.spec_slice_headers.specs.Context.{Context, slice_header}
use Rattle.spec_slice_headers.specs.NamedSets.{named_by}
use Rattle.spec_slice_headers.specs.SegmentHeader.{slice_segment_header}

-- a value that a reader took is one that the format can have
taken_can_be : {X : Type 0} (format : Header X) (old new : FieldReader) (x : X)
    → Takes {X = X} (λ y. y) (Ok x) old new format → CanBe format x
taken_can_be format old new x takes = can_be old.rules format old.bits new.bits x takes.0

slice_of_header : (o : Option SliceHeaderFields) → IfSome o IsSliceHeader → IfSome o (λ h. IsSliceFields h.slice)
slice_of_header None is = tt
slice_of_header (Some h) is = is.slice

-- a header that is read is in range, wherever its data begin
pub header_in_range : (c : Context) (old new : FieldReader) (h : SliceHeaderFields) (at : ℕ)
    → Takes {X = SliceHeaderFields} (λ y. y) (Ok h) old new (slice_segment_header c)
    → IfSome (named_by c.sets h.segment.slice_pic_parameter_set_id) IsNamed
    → (h.segment.dependent_slice_segment_flag ≡ true → IfSome (slice_header c.segments) IsSliceHeader)
    → IsSliceHeader (record (h) { data_place = at })
header_in_range c old new h at takes named taken =
    placed_is h at
    (header_is c h named (λ d. slice_of_header (slice_header c.segments) (taken d))
    (taken_can_be (slice_segment_header c) old new h takes))

-- where no segment came before, the order count's lsb is below MaxPicOrderCntLsb
pub lsb_in_range : (c : Context) (old new : FieldReader) (h : SliceHeaderFields)
    → Takes {X = SliceHeaderFields} (λ y. y) (Ok h) old new (slice_segment_header c)
    → c.segments ≡ [] → h.slice.references.slice_pic_order_cnt_lsb < h.kind.max_lsb
lsb_in_range c old new h takes none = first_lsb c h none (taken_can_be (slice_segment_header c) old new h takes)
