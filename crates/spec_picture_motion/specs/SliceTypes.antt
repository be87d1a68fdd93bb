-- Names of slice_types that crates above take from here.
pub use Rattle.slice_types.specs.declared.slice.InterFields.{InterFields}
pub use Rattle.slice_types.specs.declared.slice.SliceDeblocking.{SliceDeblocking}
pub use Rattle.slice_types.specs.declared.slice.SliceFields.{SliceFields}
pub use Rattle.slice_types.specs.declared.slice.SliceType.{SliceType}
pub use Rattle.slice_types.specs.declared.weights.ChromaWeight.{ChromaWeight}
pub use Rattle.slice_types.specs.declared.weights.LumaWeight.{LumaWeight}
pub use Rattle.slice_types.specs.declared.weights.PredWeightTable.{PredWeightTable}
pub use Rattle.slice_types.specs.declared.weights.RefWeights.{RefWeights}
