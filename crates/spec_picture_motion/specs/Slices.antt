-- What the motion of a slice's coding tree units depends on (7.4.7.1, 8.3.4).
use Rattle.std.specs.Prelude.{ℕ, ◌+◌, ◌-◌, ℤ, pos, Bool, true, false, List, [], map, length, min, nat_lt, slice_get}
use Rattle.std.specs.Prelude.{slice_index_or, Option, Some, None, option_and_then, if◌then◌else◌}
use Rattle.std.specs.List.{range_with_len}
use Rattle.slice_types.specs.HeaderTypes.{PpsFields}
use Rattle.slice_types.specs.HeaderTypes.{Lists}
use Rattle.slice_types.specs.HeaderTypes.{RefEntry}
use Rattle.slice_types.specs.declared.slice.Collocated.{Collocated}
use Rattle.slice_types.specs.declared.slice.InterFields.{InterFields}
use Rattle.slice_types.specs.declared.slice.SliceFields.{SliceFields}
use Rattle.slice_types.specs.declared.slice.SliceType.{SliceType}
use Rattle.slice_types.specs.declared.slice.SliceType.TheVariants as slice_type
use Rattle.spec_picture_trees.specs.PlanTypes.{SegmentPlan}
use Rattle.spec_picture_trees.specs.PlanTypes.{PicturePlan}
use Rattle.picture_buffer.specs.SpecMotion.{SliceMotion}
use Rattle.picture_buffer.specs.SpecMotion.{Reference}
use Rattle.picture_buffer.specs.SpecMotion.{no_reference}
use Rattle.spec_picture_trees.specs.SpecReferencePictures.{no_reference as no_entry}
use Rattle.spec_picture_trees.specs.Shapes.{picture_shape, slice_start}
use Rattle.spec_picture_trees.specs.SpecSliceData.{PictureShape}
use Rattle.spec_picture_trees.specs.Places.{first_column, first_row, unit_places}

-- a picture of a reference picture list
abbrev pub reference_of : RefEntry → Reference
reference_of entry = record { picture = entry.place; order = entry.poc; long_term = entry.is_long_term }

-- the entry with this number; behind the last one there is none
abbrev pub reference_at : List RefEntry → ℕ → Reference
reference_at entries i =
    if nat_lt i (length entries) then reference_of (slice_index_or entries i no_entry) else no_reference

-- a list of 16 entries
unfoldable pub references : List RefEntry → List Reference
references entries = map (reference_at entries) (range_with_len 0 16)

-- RefPicList0
abbrev pub entries_0 : Option Lists → List RefEntry
entries_0 None = []
entries_0 (Some lists) = lists.l0

-- RefPicList1
abbrev pub entries_1 : Option Lists → List RefEntry
entries_1 None = []
entries_1 (Some lists) = lists.l1

-- whether a slice is a B slice
abbrev pub is_bi_predictive : SliceType → Bool
is_bi_predictive slice_type.B = true
is_bi_predictive slice_type.P = false
is_bi_predictive slice_type.I = false

-- MaxNumMergeCand
abbrev pub max_candidates : Option InterFields → ℕ
max_candidates None = 0
max_candidates (Some fields) = 5 - fields.five_minus_max_num_merge_cand

-- Log2ParMrgLevel. It is at most CtbLog2SizeY, or the slice that names the set is refused (SetMismatch), and so never
-- above 6: the minimum changes nothing
abbrev pub log2_parallel : PpsFields → ℕ
log2_parallel pps = min (pps.log2_parallel_merge_level_minus2 + 2) 6

-- what a header says of the collocated picture
abbrev pub collocation_of : InterFields → Option Collocated
collocation_of fields = fields.collocated

-- collocated_from_l0_flag and collocated_ref_idx, where there are candidates of a collocated picture
abbrev pub collocation : SliceFields → Option Collocated
collocation slice = if slice.slice_temporal_mvp_enabled_flag then option_and_then collocation_of slice.inter else None

-- the collocated picture of a slice (8.5.3.2.8)
abbrev pub entry_named : List RefEntry → List RefEntry → Collocated → Option RefEntry
entry_named l0 l1 c = slice_get (if c.collocated_from_l0_flag then l0 else l1) c.collocated_ref_idx

-- the entry of the list that it names, where there is one
unfoldable pub collocated_entry : SliceFields → Option Lists → Option RefEntry
collocated_entry slice lists = option_and_then (entry_named (entries_0 lists) (entries_1 lists)) (collocation slice)

-- whether there is one
abbrev pub is_there : Option RefEntry → Bool
is_there None = false
is_there (Some entry) = true

-- its PicOrderCntVal
abbrev pub order_of : Option RefEntry → ℤ
order_of None = pos 0
order_of (Some entry) = entry.poc

-- collocated_from_l0_flag, 1 where it isn't coded
abbrev pub is_from_list_0 : Option Collocated → Bool
is_from_list_0 None = true
is_from_list_0 (Some c) = c.collocated_from_l0_flag

-- of the unit at an address, in a slice of these fields and lists
unfoldable pub motion_of_slice : PictureShape → PicturePlan → SliceFields → Option Lists → ℕ → SliceMotion
motion_of_slice picture p slice lists address = record {
  is_b = is_bi_predictive slice.slice_type;
  max_candidates = max_candidates slice.inter;
  log2_parallel = log2_parallel p.pps;
  order = p.poc;
  references_0 = references (entries_0 lists);
  references_1 = references (entries_1 lists);
  active_0 = min (length (entries_0 lists)) 16;
  active_1 = min (length (entries_1 lists)) 16;
  temporal = is_there (collocated_entry slice lists);
  from_list_0 = is_from_list_0 (collocation slice);
  collocated_order = order_of (collocated_entry slice lists);
  side = unit_places picture;
  right = picture.across - first_column picture address;
  lower = picture.down - first_row picture address;
}

-- of the unit at an address, in the slice of a segment
abbrev pub slice_motion : PicturePlan → SegmentPlan → ℕ → SliceMotion
slice_motion p s address = motion_of_slice (picture_shape p.sps p.pps) p s.header.slice (slice_start p s).lists address
