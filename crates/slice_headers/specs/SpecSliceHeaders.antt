-- Names of spec_slice_headers that crates above take from here.
pub use Rattle.spec_slice_headers.specs.Context.{last_segment, slice_of}
unfoldable pub use Rattle.spec_slice_headers.specs.Substreams.{substream_ranges}
