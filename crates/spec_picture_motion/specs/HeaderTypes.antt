-- Names of header_types that crates above take from here.
pub use Rattle.slice_types.specs.HeaderTypes.{PcmFormat, ctb_size, height_in_ctbs}
