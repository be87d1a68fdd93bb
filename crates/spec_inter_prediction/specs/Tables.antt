-- The weights of a prediction unit among those of its slice (8.5.3.3.4.3).
use Rattle.std.specs.Prelude.{ℕ, ◌≤◌, ◌==◌, pos, List, slice_index_or, if◌then◌else◌}
use Rattle.std.specs.List.{All}
use Rattle.spec_inter_prediction.specs.declared.tables.ReferenceWeights.{ReferenceWeights}
use Rattle.spec_inter_prediction.specs.declared.tables.SliceWeighting.{SliceWeighting}
use Rattle.spec_inter_prediction.specs.declared.tables.SliceWeighting.TheVariants as slice
use Rattle.spec_inter_prediction.specs.declared.tables.WeightTable.{WeightTable}
use Rattle.spec_inter_prediction.specs.declared.weighting.Weight.{Weight}
use Rattle.spec_inter_prediction.specs.declared.weighting.Weights.{Weights}
use Rattle.spec_inter_prediction.specs.declared.weighting.Weighting.{Weighting}
use Rattle.spec_inter_prediction.specs.declared.weighting.Weighting.TheVariants.{Default, Explicit}
use Rattle.spec_inter_prediction.specs.Weighting.{IsWeight}

-- what stands behind the last picture of a list
abbrev pub no_weight : Weight
no_weight = record { weight = pos 0; offset = pos 0 }

-- what stands where a list has no entry
abbrev pub no_weights : ReferenceWeights
no_weights = record { luma = no_weight; cb = no_weight; cr = no_weight }

-- of a component: 0, 1 or 2
abbrev pub component_weight : ReferenceWeights → ℕ → Weight
component_weight w c = if c == 0 then w.luma else (if c == 1 then w.cb else w.cr)

-- of the picture with a reference index
abbrev pub weight_at : List ReferenceWeights → ℕ → ℕ → Weight
weight_at list ref_idx c = component_weight (slice_index_or list ref_idx no_weights) c

-- the weights of a component of a prediction unit, by its reference indices
unfoldable pub weights_of : WeightTable → ℕ → ℕ → ℕ → Weights
weights_of t c first second = record {
  log2_denominator = if c == 0 then t.luma_log2_denominator else t.chroma_log2_denominator;
  list0 = weight_at t.list_0 first c;
  list1 = weight_at t.list_1 second c;
}

-- the weighting of a component of a prediction unit that refers to these entries
abbrev pub weighting_of : SliceWeighting → ℕ → ℕ → ℕ → Weighting
weighting_of slice.Default c first second = Default
weighting_of (slice.Explicit t) c first second = Explicit (weights_of t c first second)

-- weights that may be coded (7.4.7.3)
pub record AreWeights (w : ReferenceWeights) : Type 0 where
  pub luma : IsWeight w.luma
  pub cb : IsWeight w.cb
  pub cr : IsWeight w.cr

-- a table that may be coded (7.4.7.3)
pub record IsTable (t : WeightTable) : Type 0 where
  pub luma : t.luma_log2_denominator ≤ 7
  pub chroma : t.chroma_log2_denominator ≤ 7
  pub list_0 : All AreWeights t.list_0
  pub list_1 : All AreWeights t.list_1

-- the weights of a slice that may be coded
abbrev pub IsSliceWeighting : SliceWeighting → Type 0
IsSliceWeighting slice.Default = Unit {0}
IsSliceWeighting (slice.Explicit t) = IsTable t
