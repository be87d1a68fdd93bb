-- The ranges of a slice segment header's fields (7.4.7).
use Rattle.std.specs.Prelude.{◌≡◌, ℕ, ◌+◌, ◌^◌, ◌<◌, ◌≤◌, pos, ◌+ℤ◌, List, true, Option, Some, None, is_some, All}
use Rattle.std.specs.Prelude.{IfSome, length, if◌then◌else◌}
use Rattle.slice_types.specs.declared.slice.Collocated.{Collocated}
use Rattle.slice_types.specs.declared.slice.InterFields.{InterFields}
use Rattle.slice_types.specs.declared.slice.ReferenceFields.{ReferenceFields}
use Rattle.slice_types.specs.declared.slice.SliceDeblocking.{SliceDeblocking}
use Rattle.slice_types.specs.declared.slice.SliceFields.{SliceFields}
use Rattle.slice_types.specs.declared.slice.SliceHeaderFields.{SliceHeaderFields}
use Rattle.slice_types.specs.declared.slice.SliceType.{SliceType}
use Rattle.slice_types.specs.declared.slice.SliceType.TheVariants as slice
use Rattle.slice_types.specs.declared.weights.ChromaWeight.{ChromaWeight}
use Rattle.slice_types.specs.declared.weights.LumaWeight.{LumaWeight}
use Rattle.slice_types.specs.declared.weights.PredWeightTable.{PredWeightTable}
use Rattle.slice_types.specs.declared.weights.RefWeights.{RefWeights}
use Rattle.header_types.specs.PictureParameterSet.{IsWithin}
use Rattle.header_types.specs.ReferencePictures.{IsStRps}

-- how many active entries list 1 has: none in a P slice
abbrev pub active_1 : Option ℕ → ℕ
active_1 None = 0
active_1 (Some minus1) = minus1 + 1

-- the collocated picture is that of an active entry
pub record IsCollocated (of_l0 of_l1 : ℕ) (c : Collocated) : Type 0 where
  pub index : c.collocated_ref_idx < (if c.collocated_from_l0_flag then of_l0 else of_l1)

pub record IsLumaWeight (w : LumaWeight) : Type 0 where
  pub weight : IsWithin 128 127 w.delta_luma_weight
  pub offset : IsWithin 128 127 w.luma_offset

pub record IsChromaWeight (w : ChromaWeight) : Type 0 where
  pub weight : IsWithin 128 127 w.delta_chroma_weight
  pub offset : IsWithin 512 511 w.delta_chroma_offset

pub record IsRefWeights (r : RefWeights) : Type 0 where
  pub luma : IfSome r.luma IsLumaWeight
  pub cb : IfSome r.chroma (λ w. IsChromaWeight w.0)
  pub cr : IfSome r.chroma (λ w. IsChromaWeight w.1)

-- weights of each active entry
pub record IsPredWeightTable (of_l0 of_l1 : ℕ) (t : PredWeightTable) : Type 0 where
  pub luma_denom : t.luma_log2_weight_denom ≤ 7
  pub chroma_denom : IsWithin 0 7 (pos t.luma_log2_weight_denom +ℤ t.delta_chroma_log2_weight_denom)
  pub count_0 : length t.l0 ≡ of_l0
  pub count_1 : length t.l1 ≡ of_l1
  pub l0 : All IsRefWeights t.l0
  pub l1 : All IsRefWeights t.l1

-- the fields of P and B slices
pub record IsInterFields (f : InterFields) : Type 0 where
  pub few_0 : f.num_ref_idx_l0_active_minus1 ≤ 14
  pub few_1 : IfSome f.num_ref_idx_l1_active_minus1 (λ n. n ≤ 14)
  pub list_entry_l0 : IfSome f.list_entry_l0 (λ (entries : List ℕ). length entries ≡ f.num_ref_idx_l0_active_minus1 + 1)
  pub list_entry_l1 : IfSome f.list_entry_l1
      (λ (entries : List ℕ). length entries ≡ active_1 f.num_ref_idx_l1_active_minus1)
  pub collocated : IfSome f.collocated
      (IsCollocated (f.num_ref_idx_l0_active_minus1 + 1) (active_1 f.num_ref_idx_l1_active_minus1))
  pub weights : IfSome f.weights
      (IsPredWeightTable (f.num_ref_idx_l0_active_minus1 + 1) (active_1 f.num_ref_idx_l1_active_minus1))
  pub merge : f.five_minus_max_num_merge_cand ≤ 4

-- an I slice has none of these fields, and a B slice alone has a list 1
abbrev pub HasFieldsOf : SliceType → Option InterFields → Type 0
HasFieldsOf slice.B None = ⊥
HasFieldsOf slice.B (Some f) = is_some f.num_ref_idx_l1_active_minus1 ≡ true
HasFieldsOf slice.P None = ⊥
HasFieldsOf slice.P (Some f) = f.num_ref_idx_l1_active_minus1 ≡ None
HasFieldsOf slice.I inter = inter ≡ None

pub record IsSliceDeblocking (d : SliceDeblocking) : Type 0 where
  pub beta : IsWithin 6 6 d.slice_beta_offset_div2
  pub tc : IsWithin 6 6 d.slice_tc_offset_div2

pub record IsReferenceFields (r : ReferenceFields) : Type 0 where
  pub lsb : r.slice_pic_order_cnt_lsb < 65536
  pub set : IsStRps 79 r.short_term_ref_pic_set
  pub long : length r.long_term.entries ≤ 15

-- the fields of a slice. The range of SliceQpY is one of slice_qp_delta together with the picture parameter set
pub record IsSliceFields (s : SliceFields) : Type 0 where
  pub references : IsReferenceFields s.references
  pub type : HasFieldsOf s.slice_type s.inter
  pub inter : IfSome s.inter IsInterFields
  pub qp_delta : IsWithin 63 63 s.slice_qp_delta
  pub cb_qp_offset : IsWithin 12 12 s.slice_cb_qp_offset
  pub cr_qp_offset : IsWithin 12 12 s.slice_cr_qp_offset
  pub deblocking : IsSliceDeblocking s.deblocking

-- a slice segment header whose fields are in range
pub record IsSliceHeader (h : SliceHeaderFields) : Type 0 where
  pub least_max_lsb : 16 ≤ h.kind.max_lsb
  pub greatest_max_lsb : h.kind.max_lsb ≤ 65536
  pub pps_id : h.segment.slice_pic_parameter_set_id ≤ 63
  pub slice : IsSliceFields h.slice
  pub some_bytes : All (λ n. 1 ≤ n) h.entry_points
  pub few_bytes : All (λ n. n ≤ 2 ^ 32) h.entry_points
