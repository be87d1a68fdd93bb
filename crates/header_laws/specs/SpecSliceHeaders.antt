-- Names of spec_slice_headers that crates above take from here.
pub use Rattle.spec_slice_headers.specs.Context.{Context, address_of, agrees, first_of, header_of, last_address}
pub use Rattle.spec_slice_headers.specs.Context.{last_segment, slice_of}
pub use Rattle.spec_slice_headers.specs.NamedSets.{Named, named_by}
unfoldable pub use Rattle.spec_slice_headers.specs.SegmentHeader.{slice_header_of, slice_segment_header}
pub use Rattle.spec_slice_headers.specs.SegmentStart.{is_above}
unfoldable pub use Rattle.spec_slice_headers.specs.SegmentStart.{front, later_place, place}
pub use Rattle.spec_slice_headers.specs.Substreams.{unit_place}
unfoldable pub use Rattle.spec_slice_headers.specs.Substreams.{data_size, ranges_from, substream_ranges}
