-- Names of header_types that crates above take from here.
pub use Rattle.spec_slice_headers.specs.HeaderTypes.{IsSps, SpsFields, ctb_log2, size_in_ctbs}
unfoldable pub use Rattle.spec_slice_headers.specs.HeaderTypes.{blocks_across}
pub use Rattle.spec_slice_headers.specs.HeaderTypes.{width_in_ctbs}
