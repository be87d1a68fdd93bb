-- The fields of a slice that say its picture's order count and the pictures kept for reference (7.3.6.1, 7.4.7.1).
use Rattle.std.specs.Prelude.{ℕ, ◌+◌, Bool, true, false, List, [], length, Option, Some, None, slice_index_or, nat_lt}
use Rattle.std.specs.Prelude.{nat_le}
use Rattle.std.specs.List.{range_with_len}
use Rattle.slice_types.specs.HeaderTypes.{SpsFields}
use Rattle.slice_types.specs.HeaderTypes.{LongTermCandidate}
use Rattle.slice_types.specs.HeaderTypes.{StRps}
use Rattle.slice_types.specs.declared.slice.LongTermRefs.{LongTermRefs}
use Rattle.slice_types.specs.declared.slice.ReferenceFields.{ReferenceFields}
use Rattle.slice_types.specs.HeaderTypes.{LongTermRef}
use Rattle.slice_types.specs.HeaderTypes.{highest_ordering}
use Rattle.spec_parameter_sets.specs.SpecFormats.{when◌then◌else◌}
use Rattle.spec_parameter_sets.specs.SpecFormats.{Header, ◌>>=◌, give, ranged, u, flag, ue, optional, each}
use Rattle.spec_parameter_sets.specs.SpecReferencePictures.{st_ref_pic_set}
use Rattle.spec_parameter_sets.specs.SpecReferencePictures.{is_idr}
use Rattle.spec_slice_headers.specs.Context.{ceil_log2, ue_or}

-- a set without entries
abbrev pub empty_set : StRps
empty_set = record { negative = []; positive = [] }

-- which short-term set a slice has
pub record ShortTerm : Type 0 where
  pub short_term_ref_pic_set_sps_flag : Bool
  pub short_term_ref_pic_set_idx : ℕ
  pub short_term_ref_pic_set : StRps

-- a set that stands in the header itself
unfoldable pub coded_short_term : SpsFields → Header ShortTerm
coded_short_term sps = do
  set ←
      st_ref_pic_set (length sps.references.short_term_ref_pic_sets) (length sps.references.short_term_ref_pic_sets)
      sps.references.short_term_ref_pic_sets
      ((highest_ordering sps.order.sub_layer_ordering).max_dec_pic_buffering_minus1)
  give (record {
    short_term_ref_pic_set_sps_flag = false;
    short_term_ref_pic_set_idx = 0;
    short_term_ref_pic_set = set;
  })

-- a set of the sequence parameter set, by its number there
unfoldable pub named_short_term : SpsFields → Header ShortTerm
named_short_term sps = do
  short_term_ref_pic_set_idx ← u (ceil_log2 (length sps.references.short_term_ref_pic_sets))
  in_range ← ranged (nat_lt short_term_ref_pic_set_idx (length sps.references.short_term_ref_pic_sets))
  give (record {
    short_term_ref_pic_set_sps_flag = true;
    short_term_ref_pic_set_idx = short_term_ref_pic_set_idx;
    short_term_ref_pic_set = slice_index_or sps.references.short_term_ref_pic_sets short_term_ref_pic_set_idx empty_set;
  })

-- the short-term set of a header: one of the sequence parameter set, or its own
unfoldable pub short_term : SpsFields → Header ShortTerm
short_term sps = do
  short_term_ref_pic_set_sps_flag ← flag
  when short_term_ref_pic_set_sps_flag then named_short_term sps else coded_short_term sps

-- what stands where there is no candidate
abbrev pub no_candidate : LongTermCandidate
no_candidate = record { lt_ref_pic_poc_lsb_sps = 0; used_by_curr_pic_lt_sps_flag = false }

-- delta_poc_msb_present_flag, and delta_poc_msb_cycle_lt where it is 1
unfoldable pub msb_cycle : Header (Option ℕ)
msb_cycle = do
  delta_poc_msb_present_flag ← flag
  optional delta_poc_msb_present_flag (ue)

-- a long-term entry that names a candidate of the sequence parameter set
unfoldable pub named_long_term : List LongTermCandidate → Header LongTermRef
named_long_term candidates = do
  lt_idx_sps ← u (ceil_log2 (length candidates))
  in_range ← ranged (nat_lt lt_idx_sps (length candidates))
  cycle ← msb_cycle
  give (record {
    lt_idx_sps = Some lt_idx_sps;
    poc_lsb_lt = (slice_index_or candidates lt_idx_sps no_candidate).lt_ref_pic_poc_lsb_sps;
    used_by_curr_pic_lt_flag = (slice_index_or candidates lt_idx_sps no_candidate).used_by_curr_pic_lt_sps_flag;
    delta_poc_msb_cycle_lt = cycle;
  })

-- a long-term entry that stands in the header itself
unfoldable pub coded_long_term : SpsFields → Header LongTermRef
coded_long_term sps = do
  poc_lsb_lt ← u (sps.order.log2_max_pic_order_cnt_lsb_minus4 + 4)
  used_by_curr_pic_lt_flag ← flag
  cycle ← msb_cycle
  give (record {
    lt_idx_sps = None;
    poc_lsb_lt = poc_lsb_lt;
    used_by_curr_pic_lt_flag = used_by_curr_pic_lt_flag;
    delta_poc_msb_cycle_lt = cycle;
  })

-- the long-term entry of a number: the first ones name candidates of the sequence parameter set
abbrev pub long_term_entry : SpsFields → List LongTermCandidate → ℕ → ℕ → Header LongTermRef
long_term_entry sps candidates num_long_term_sps i =
    when nat_lt i num_long_term_sps then named_long_term candidates else coded_long_term sps

-- no long-term entries
abbrev pub no_long_term : LongTermRefs
no_long_term = record { num_long_term_sps = 0; entries = [] }

-- the long-term entries, where the sequence parameter set allows them. All entries of the set are as many as the
-- decoded picture buffer takes at most beside the picture
unfoldable pub long_term_of : SpsFields → StRps → List LongTermCandidate → Header LongTermRefs
long_term_of sps set candidates = do
  num_long_term_sps ← ue_or (nat_lt 0 (length candidates)) (length candidates) 0
  num_long_term_pics ← ue
  few ←
      ranged (nat_le (length set.negative + length set.positive + num_long_term_sps + num_long_term_pics)
      ((highest_ordering sps.order.sub_layer_ordering).max_dec_pic_buffering_minus1))
  entries ←
      each (long_term_entry sps candidates num_long_term_sps)
      (range_with_len 0 (num_long_term_sps + num_long_term_pics))
  give (record { num_long_term_sps = num_long_term_sps; entries = entries })

-- the long-term entries of a header, where the set has such
unfoldable pub long_term : SpsFields → StRps → Option (List LongTermCandidate) → Header LongTermRefs
long_term sps set None = give no_long_term
long_term sps set (Some candidates) = long_term_of sps set candidates

-- an instantaneous decoding refresh picture refers to nothing
abbrev pub no_references : ReferenceFields
no_references = record {
  slice_pic_order_cnt_lsb = 0;
  short_term_ref_pic_set_sps_flag = false;
  short_term_ref_pic_set_idx = 0;
  short_term_ref_pic_set = empty_set;
  long_term = no_long_term;
}

-- order count and reference picture sets of a header (7.3.6.1)
unfoldable pub coded_references : SpsFields → Header ReferenceFields
coded_references sps = do
  slice_pic_order_cnt_lsb ← u (sps.order.log2_max_pic_order_cnt_lsb_minus4 + 4)
  short ← short_term sps
  long ← long_term sps short.short_term_ref_pic_set sps.references.long_term_ref_pics
  give (record {
    slice_pic_order_cnt_lsb = slice_pic_order_cnt_lsb;
    short_term_ref_pic_set_sps_flag = short.short_term_ref_pic_set_sps_flag;
    short_term_ref_pic_set_idx = short.short_term_ref_pic_set_idx;
    short_term_ref_pic_set = short.short_term_ref_pic_set;
    long_term = long;
  })

-- an IDR picture has none
unfoldable pub reference_fields : ℕ → SpsFields → Header ReferenceFields
reference_fields nal_type sps = when is_idr nal_type then give no_references else coded_references sps
