-- pred_weight_table (7.3.6.3, 7.4.7.3).
use Rattle.std.specs.Prelude.{ℕ, pos, ◌+ℤ◌, Bool, false, ◌&&◌, List, int_le, slice_index_or}
use Rattle.std.specs.List.{range_with_len}
use Rattle.slice_types.specs.declared.weights.LumaWeight.{LumaWeight}
use Rattle.slice_types.specs.declared.weights.ChromaWeight.{ChromaWeight}
use Rattle.slice_types.specs.declared.weights.RefWeights.{RefWeights}
use Rattle.slice_types.specs.declared.weights.PredWeightTable.{PredWeightTable}
use Rattle.spec_parameter_sets.specs.SpecFormats.{Header, ◌>>=◌, give, ranged, flag, ue_to, se, se_within, optional}
use Rattle.spec_parameter_sets.specs.SpecFormats.{repeated, each}

-- a luma weight with its offset (7.3.6.3)
unfoldable pub luma_weight : Header LumaWeight
luma_weight = do
  delta_luma_weight ← se_within 128 127
  luma_offset ← se_within 128 127
  give (record { delta_luma_weight = delta_luma_weight; luma_offset = luma_offset })

-- a chroma weight with its offset
unfoldable pub chroma_weight : Header ChromaWeight
chroma_weight = do
  delta_chroma_weight ← se_within 128 127
  delta_chroma_offset ← se_within 512 511
  give (record { delta_chroma_weight = delta_chroma_weight; delta_chroma_offset = delta_chroma_offset })

-- of Cb, and then of Cr
unfoldable pub chroma_weights : Header (ChromaWeight × ChromaWeight)
chroma_weights = do
  cb ← chroma_weight
  cr ← chroma_weight
  give (cb, cr)

-- the weights of one entry of a reference picture list, as its two flags say
unfoldable pub entry_weights : Bool → Bool → Header RefWeights
entry_weights luma_weight_flag chroma_weight_flag = do
  luma ← optional luma_weight_flag luma_weight
  chroma ← optional chroma_weight_flag chroma_weights
  give (record { luma = luma; chroma = chroma })

-- the weights of an entry, where these are the flags of all entries
abbrev pub weights_at : List Bool → List Bool → ℕ → Header RefWeights
weights_at luma_weight_flags chroma_weight_flags i =
    entry_weights (slice_index_or luma_weight_flags i false) (slice_index_or chroma_weight_flags i false)

-- the weights of a list of so many entries: all luma flags, all chroma flags, and then the weights
unfoldable pub list_weights : ℕ → Header (List RefWeights)
list_weights active = do
  luma_weight_flags ← repeated active flag
  chroma_weight_flags ← repeated active flag
  each (weights_at luma_weight_flags chroma_weight_flags) (range_with_len 0 active)

-- the table of lists of so many active entries, 0 of list 1 in a P slice
unfoldable pub pred_weight_table : ℕ → ℕ → Header PredWeightTable
pred_weight_table active_0 active_1 = do
  luma_log2_weight_denom ← ue_to 7
  delta_chroma_log2_weight_denom ← se
  in_range ←
      ranged (int_le (pos 0) (pos luma_log2_weight_denom +ℤ delta_chroma_log2_weight_denom)
      && int_le (pos luma_log2_weight_denom +ℤ delta_chroma_log2_weight_denom) (pos 7))
  l0 ← list_weights active_0
  l1 ← list_weights active_1
  give (record {
    luma_log2_weight_denom = luma_log2_weight_denom;
    delta_chroma_log2_weight_denom = delta_chroma_log2_weight_denom;
    l0 = l0;
    l1 = l1;
  })
