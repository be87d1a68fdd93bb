-- Names of header_types that crates above take from here.
pub use Rattle.slice_types.specs.HeaderTypes.{IsSps, PcmFormat, PpsFields, SpsFields, ctb_log2}
unfoldable pub use Rattle.slice_types.specs.HeaderTypes.{blocks_across}
pub use Rattle.slice_types.specs.HeaderTypes.{max_pcm_log2, max_tb_log2, min_cb_log2, min_pcm_log2, min_tb_log2}
pub use Rattle.slice_types.specs.HeaderTypes.{qp_bd_offset_y, size_in_ctbs, width_in_ctbs}
