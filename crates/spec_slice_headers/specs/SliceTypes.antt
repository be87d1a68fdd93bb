-- Names of slice_types that crates above take from here.
pub use Rattle.slice_types.specs.declared.slice.InterFields.{InterFields}
pub use Rattle.slice_types.specs.declared.slice.PictureKind.{PictureKind}
pub use Rattle.slice_types.specs.declared.slice.ReferenceFields.{ReferenceFields}
pub use Rattle.slice_types.specs.declared.slice.SegmentFields.{SegmentFields}
pub use Rattle.slice_types.specs.declared.slice.SliceFields.{SliceFields}
pub use Rattle.slice_types.specs.declared.slice.SliceHeaderFields.{SliceHeaderFields}
pub use Rattle.slice_types.specs.declared.slice.SliceType.{SliceType}
