-- Names of spec_inter_prediction that crates above take from here.
pub use Rattle.spec_inter_prediction.specs.Tables.{IsSliceWeighting, no_weights}
unfoldable pub use Rattle.spec_inter_prediction.specs.Taps.{clamped}
pub use Rattle.spec_inter_prediction.specs.declared.tables.ReferenceWeights.{ReferenceWeights}
pub use Rattle.spec_inter_prediction.specs.declared.tables.SliceWeighting.{SliceWeighting}
pub use Rattle.spec_inter_prediction.specs.declared.tables.SliceWeighting.TheVariants.{Default, Explicit}
pub use Rattle.spec_inter_prediction.specs.declared.tables.WeightTable.{WeightTable}
pub use Rattle.spec_inter_prediction.specs.declared.weighting.Weight.{Weight}
