-- The fields of P and B slices (7.3.6.1, 7.3.6.2, 7.4.7.1, 7.4.7.2).
use Rattle.std.specs.Prelude.{ℕ, ◌+◌, ◌-◌, Bool, true, false, ◌&&◌, List, Option, Some, None, nat_lt, if◌then◌else◌}
use Rattle.slice_types.specs.HeaderTypes.{PpsFields}
use Rattle.slice_types.specs.declared.slice.SliceType.{SliceType}
use Rattle.slice_types.specs.declared.slice.SliceType.TheVariants as slice
use Rattle.slice_types.specs.declared.slice.Collocated.{Collocated}
use Rattle.slice_types.specs.declared.slice.InterFields.{InterFields}
use Rattle.spec_parameter_sets.specs.SpecFormats.{Header, ◌>>=◌, give, ranged, u, flag, ue_to, optional, repeated}
use Rattle.spec_slice_headers.specs.Context.{ceil_log2, flag_or, ue_or}
use Rattle.spec_slice_headers.specs.Weights.{pred_weight_table}

-- a B slice, for fields that a P slice lacks
abbrev pub is_b : SliceType → Bool
is_b slice.B = true
is_b slice.P = false
is_b slice.I = false

-- the entries of list 1: none in a P slice
abbrev pub entries_1 : Option ℕ → ℕ
entries_1 None = 0
entries_1 (Some minus1) = minus1 + 1

-- list_entry_lX: below NumPicTotalCurr
unfoldable pub list_entry : ℕ → Header ℕ
list_entry total = do
  entry ← u (ceil_log2 total)
  in_range ← ranged (nat_lt entry total)
  give entry

-- ref_pic_list_modification_flag_lX, where it is coded, and the entries where it is 1
unfoldable pub modification : Bool → ℕ → ℕ → Header (Option (List ℕ))
modification present total active = do
  ref_pic_list_modification_flag ← flag_or present false
  optional ref_pic_list_modification_flag (repeated active (list_entry total))

-- how many entries the list with the collocated picture has, less 1
abbrev pub collocated_minus1 : Bool → ℕ → Option ℕ → ℕ
collocated_minus1 l0 l0_minus1 l1_minus1 = if l0 then l0_minus1 else entries_1 l1_minus1 - 1

-- collocated_ref_idx, which is coded where there are two to choose from
abbrev pub index_to : ℕ → Header ℕ
index_to greatest = ue_or (nat_lt 0 greatest) greatest 0

-- the collocated picture; collocated_from_l0_flag is 1 where it isn't coded
unfoldable pub collocated : SliceType → ℕ → Option ℕ → Header Collocated
collocated type l0_minus1 l1_minus1 = do
  collocated_from_l0_flag ← flag_or (is_b type) true
  collocated_ref_idx ← index_to (collocated_minus1 collocated_from_l0_flag l0_minus1 l1_minus1)
  give (record { collocated_from_l0_flag = collocated_from_l0_flag; collocated_ref_idx = collocated_ref_idx })

-- whether a slice of this type has explicit weights
abbrev pub has_weights : SliceType → PpsFields → Bool
has_weights type pps = if is_b type then pps.prediction.weighted_bipred_flag else pps.prediction.weighted_pred_flag

-- the fields of a P or B slice, where total is NumPicTotalCurr and temporal is slice_temporal_mvp_enabled_flag
unfoldable pub inter_fields : SliceType → PpsFields → ℕ → Bool → Header InterFields
inter_fields type pps total temporal = do
  num_ref_idx_active_override_flag ← flag
  l0_minus1 ← ue_or num_ref_idx_active_override_flag 14 pps.slice_defaults.num_ref_idx_l0_default_active_minus1
  l1_minus1 ←
      optional (is_b type)
      (ue_or num_ref_idx_active_override_flag 14 pps.slice_defaults.num_ref_idx_l1_default_active_minus1)
  list_entry_l0 ← modification (pps.lists_modification_present_flag && nat_lt 1 total) total (l0_minus1 + 1)
  list_entry_l1 ←
      modification (is_b type && (pps.lists_modification_present_flag && nat_lt 1 total)) total (entries_1 l1_minus1)
  mvd_l1_zero_flag ← flag_or (is_b type) false
  cabac_init_flag ← flag_or pps.slice_defaults.cabac_init_present_flag false
  collocated ← optional temporal (collocated type l0_minus1 l1_minus1)
  weights ← optional (has_weights type pps) (pred_weight_table (l0_minus1 + 1) (entries_1 l1_minus1))
  five_minus_max_num_merge_cand ← ue_to 4
  give (record {
    num_ref_idx_active_override_flag = num_ref_idx_active_override_flag;
    num_ref_idx_l0_active_minus1 = l0_minus1;
    num_ref_idx_l1_active_minus1 = l1_minus1;
    list_entry_l0 = list_entry_l0;
    list_entry_l1 = list_entry_l1;
    mvd_l1_zero_flag = mvd_l1_zero_flag;
    cabac_init_flag = cabac_init_flag;
    collocated = collocated;
    weights = weights;
    five_minus_max_num_merge_cand = five_minus_max_num_merge_cand;
  })
