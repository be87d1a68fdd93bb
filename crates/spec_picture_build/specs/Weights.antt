-- The weights of a slice's reference pictures (7.4.7.3). Each number is held to its range, in which those that are read
-- are.
use Rattle.std.specs.Prelude.{ℕ, ◌^◌, ℤ, pos, negsuc, ◌+ℤ◌, ◌-ℤ◌, ◌*ℤ◌, min, nat_lt, List, length, map}
use Rattle.std.specs.Prelude.{slice_index_or}
use Rattle.std.specs.Prelude.{Option, Some, None, if◌then◌else◌}
use Rattle.std.specs.Int.{int_shr}
use Rattle.std.specs.List.{range_with_len}
use Rattle.spec_reconstruction.specs.SpecArithmetic.{clip3, clip3_from_zero}
use Rattle.spec_picture_motion.specs.SliceTypes.{InterFields}
use Rattle.spec_picture_motion.specs.SliceTypes.{ChromaWeight}
use Rattle.spec_picture_motion.specs.SliceTypes.{LumaWeight}
use Rattle.spec_picture_motion.specs.SliceTypes.{PredWeightTable}
use Rattle.spec_picture_motion.specs.SliceTypes.{RefWeights}
use Rattle.spec_reconstruction.specs.SpecInterPrediction.{ReferenceWeights}
use Rattle.spec_reconstruction.specs.SpecInterPrediction.{SliceWeighting}
use Rattle.spec_reconstruction.specs.SpecInterPrediction.{Default, Explicit}
use Rattle.spec_reconstruction.specs.SpecInterPrediction.{WeightTable}
use Rattle.spec_reconstruction.specs.SpecInterPrediction.{Weight}
use Rattle.spec_reconstruction.specs.SpecInterPrediction.{no_weights}

-- luma_log2_weight_denom and ChromaLog2WeightDenom
abbrev pub luma_denominator : PredWeightTable → ℕ
luma_denominator t = min t.luma_log2_weight_denom 7

-- ChromaLog2WeightDenom (7.4.7.3)
abbrev pub chroma_denominator : PredWeightTable → ℕ
chroma_denominator t =
    clip3_from_zero 7 (pos t.luma_log2_weight_denom +ℤ t.delta_chroma_log2_weight_denom)

-- 1, and what differs from it, in units of 2^-denominator
abbrev pub weight_by : ℕ → ℤ → ℤ
weight_by denominator delta = clip3 (negsuc 127) (pos 255) (pos (2 ^ denominator) +ℤ delta)

-- LumaWeightLX and luma_offset_lX
abbrev pub luma_weight : ℕ → Option LumaWeight → Weight
luma_weight denominator None = record { weight = weight_by denominator (pos 0); offset = pos 0 }
luma_weight denominator (Some w) =
    record { weight = weight_by denominator w.delta_luma_weight; offset = clip3 (negsuc 127) (pos 127) w.luma_offset }

-- ChromaOffsetLX by ChromaWeightLX
abbrev pub chroma_offset : ℕ → ℤ → ℤ → ℤ
chroma_offset denominator weight delta =
    clip3 (negsuc 127) (pos 127) (pos 128 +ℤ delta -ℤ int_shr (pos 128 *ℤ weight) denominator)

-- ChromaWeightLX and ChromaOffsetLX
abbrev pub chroma_weight : ℕ → ChromaWeight → Weight
chroma_weight denominator w = record {
  weight = weight_by denominator w.delta_chroma_weight;
  offset = chroma_offset denominator (weight_by denominator w.delta_chroma_weight) w.delta_chroma_offset;
}

-- those of Cb; where they aren't coded the weight is 1 and the offset 0
abbrev pub cb_weight : ℕ → Option (ChromaWeight × ChromaWeight) → Weight
cb_weight denominator None = record { weight = weight_by denominator (pos 0); offset = pos 0 }
cb_weight denominator (Some w) = chroma_weight denominator w.0

-- those of Cr
abbrev pub cr_weight : ℕ → Option (ChromaWeight × ChromaWeight) → Weight
cr_weight denominator None = record { weight = weight_by denominator (pos 0); offset = pos 0 }
cr_weight denominator (Some w) = chroma_weight denominator w.1

-- those of a reference picture
abbrev pub reference_weights : ℕ → ℕ → RefWeights → ReferenceWeights
reference_weights luma chroma w = record {
  luma = luma_weight luma w.luma;
  cb = cb_weight chroma w.chroma;
  cr = cr_weight chroma w.chroma;
}

-- without flags
abbrev pub no_flags : RefWeights
no_flags = record { luma = None; chroma = None }

-- those of the entry with this number; behind the last one there are none
abbrev pub weights_at : ℕ → ℕ → List RefWeights → ℕ → ReferenceWeights
weights_at luma chroma list i =
    if nat_lt i (length list) then reference_weights luma chroma (slice_index_or list i no_flags) else no_weights

-- a list of 16 entries
unfoldable pub weights_in : ℕ → ℕ → List RefWeights → List ReferenceWeights
weights_in luma chroma list = map (weights_at luma chroma list) (range_with_len 0 16)

-- the weights of all entries of both lists
unfoldable pub weight_table : PredWeightTable → WeightTable
weight_table t = record {
  luma_log2_denominator = luma_denominator t;
  chroma_log2_denominator = chroma_denominator t;
  list_0 = weights_in (luma_denominator t) (chroma_denominator t) t.l0;
  list_1 = weights_in (luma_denominator t) (chroma_denominator t) t.l1;
}

-- explicit weights, where the header has them
abbrev pub weighting_by : Option PredWeightTable → SliceWeighting
weighting_by None = Default
weighting_by (Some t) = Explicit (weight_table t)

-- of a slice, by its fields of P and B slices
unfoldable pub slice_weighting : Option InterFields → SliceWeighting
slice_weighting None = Default
slice_weighting (Some f) = weighting_by f.weights
