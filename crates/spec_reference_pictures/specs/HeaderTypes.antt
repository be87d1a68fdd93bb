-- Names of header_types that crates above take from here.
pub use Rattle.header_types.specs.Scaling.{IsFactor, IsScalingList, IsScalingLists}
pub use Rattle.header_types.specs.SequenceParameterSets.{ctb_log2, min_cb_log2, qp_bd_offset_y}
unfoldable pub use Rattle.header_types.specs.SequenceParameterSets.{highest_ordering}
pub use Rattle.header_types.specs.declared.pps.DeblockingControl.{DeblockingControl}
pub use Rattle.header_types.specs.declared.pps.PpsFields.{PpsFields}
pub use Rattle.header_types.specs.declared.pps.PpsFilters.{PpsFilters}
pub use Rattle.header_types.specs.declared.pps.PpsIdentity.{PpsIdentity}
pub use Rattle.header_types.specs.declared.pps.PpsPrediction.{PpsPrediction}
pub use Rattle.header_types.specs.declared.pps.PpsQuantization.{PpsQuantization}
pub use Rattle.header_types.specs.declared.pps.PpsSliceDefaults.{PpsSliceDefaults}
pub use Rattle.header_types.specs.declared.profile.Profile.{Profile}
pub use Rattle.header_types.specs.declared.profile.ProfileTierLevel.{ProfileTierLevel}
pub use Rattle.header_types.specs.declared.profile.SubLayerProfile.{SubLayerProfile}
pub use Rattle.header_types.specs.declared.scaling.ScalingList.{ScalingList}
pub use Rattle.header_types.specs.declared.scaling.ScalingLists.{ScalingLists}
pub use Rattle.header_types.specs.declared.short_term_set.StRps.{StRps}
pub use Rattle.header_types.specs.declared.sps.BlockSizes.{BlockSizes}
pub use Rattle.header_types.specs.declared.sps.ConformanceWindow.{ConformanceWindow}
pub use Rattle.header_types.specs.declared.sps.LongTermCandidate.{LongTermCandidate}
pub use Rattle.header_types.specs.declared.sps.PcmFormat.{PcmFormat}
pub use Rattle.header_types.specs.declared.sps.PictureFormat.{PictureFormat}
pub use Rattle.header_types.specs.declared.sps.SpsFields.{SpsFields}
pub use Rattle.header_types.specs.declared.sps.SpsIdentity.{SpsIdentity}
pub use Rattle.header_types.specs.declared.sps.SpsOrder.{SpsOrder}
pub use Rattle.header_types.specs.declared.sps.SpsReferences.{SpsReferences}
pub use Rattle.header_types.specs.declared.sps.SpsTools.{SpsTools}
pub use Rattle.header_types.specs.declared.sps.SubLayerOrdering.{SubLayerOrdering}
