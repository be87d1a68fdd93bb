-- Names of spec_slice_headers that crates above take from here.
pub use Rattle.spec_slice_headers.specs.InterFields.{is_b}
pub use Rattle.spec_slice_headers.specs.SliceFields.{slice_qp}
pub use Rattle.spec_slice_headers.specs.Substreams.{bytes_of}
