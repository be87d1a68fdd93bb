-- Names of header_types that crates above take from here.
pub use Rattle.header_types.specs.Content.{same_content}
pub use Rattle.header_types.specs.SequenceParameterSets.{IsSps, ctb_log2, ctb_size, height_in_ctbs}
unfoldable pub use Rattle.header_types.specs.SequenceParameterSets.{blocks_across}
pub use Rattle.header_types.specs.SequenceParameterSets.{max_lsb, max_pcm_log2, max_tb_log2}
unfoldable pub use Rattle.header_types.specs.SequenceParameterSets.{highest_ordering}
pub use Rattle.header_types.specs.SequenceParameterSets.{min_cb_log2, min_pcm_log2, min_tb_log2, qp_bd_offset_y}
pub use Rattle.header_types.specs.SequenceParameterSets.{size_in_ctbs, width_in_ctbs}
pub use Rattle.header_types.specs.declared.former.Former.{Former}
pub use Rattle.header_types.specs.declared.former.Sets.{Sets}
pub use Rattle.header_types.specs.declared.pps.DeblockingControl.{DeblockingControl}
pub use Rattle.header_types.specs.declared.pps.PpsFields.{PpsFields}
pub use Rattle.header_types.specs.declared.reference_pictures.Lists.{Lists}
pub use Rattle.header_types.specs.declared.reference_pictures.LongTermRef.{LongTermRef}
pub use Rattle.header_types.specs.declared.reference_pictures.RefEntry.{RefEntry}
pub use Rattle.header_types.specs.declared.short_term_set.StRps.{StRps}
pub use Rattle.header_types.specs.declared.sps.LongTermCandidate.{LongTermCandidate}
pub use Rattle.header_types.specs.declared.sps.PcmFormat.{PcmFormat}
pub use Rattle.header_types.specs.declared.sps.SpsFields.{SpsFields}
