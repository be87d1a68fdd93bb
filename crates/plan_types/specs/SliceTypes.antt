-- Names of slice_types that crates above take from here.
pub use Rattle.slice_types.specs.declared.slice.LongTermRefs.{LongTermRefs}
pub use Rattle.slice_types.specs.declared.slice.PictureKind.{PictureKind}
pub use Rattle.slice_types.specs.declared.slice.ReferenceFields.{ReferenceFields}
pub use Rattle.slice_types.specs.declared.slice.SliceHeaderFields.{SliceHeaderFields}
