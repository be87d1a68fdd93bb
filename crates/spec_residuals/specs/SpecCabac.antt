-- Names of spec_cabac that crates above take from here.
pub use Rattle.spec_cabac.specs.Bins.{Bin, BinValue, State, Tree, bypass, data_end, decision}
unfoldable pub use Rattle.spec_cabac.specs.Bins.{bin_at, exp_golomb}
pub use Rattle.spec_cabac.specs.Bins.{fixed, pcm_end, pcm_start, read, sample, terminate, truncated}
unfoldable pub use Rattle.spec_cabac.specs.Bins.{times}
pub use Rattle.spec_cabac.specs.Contexts.{clip3}
unfoldable pub use Rattle.spec_cabac.specs.Contexts.{first_contexts}
pub use Rattle.spec_cabac.specs.Engine.{Engine, IsLive, start_at}
unfoldable pub use Rattle.spec_cabac.specs.Engine.{is_trailing}
pub use Rattle.spec_cabac.specs.declared.init_values.TheConstants.{ABS_MVD_GREATER0_FLAG, ABS_MVD_GREATER1_FLAG}
pub use Rattle.spec_cabac.specs.declared.init_values.TheConstants.{CBF_CHROMA, CBF_LUMA, CU_QP_DELTA_ABS}
pub use Rattle.spec_cabac.specs.declared.init_values.TheConstants.{CU_SKIP_FLAG, CU_TRANSQUANT_BYPASS_FLAG}
pub use Rattle.spec_cabac.specs.declared.init_values.TheConstants.{INTER_PRED_IDC, INTRA_CHROMA_PRED_MODE, MERGE_FLAG}
pub use Rattle.spec_cabac.specs.declared.init_values.TheConstants.{MERGE_IDX, MVP_FLAG, PART_MODE, PRED_MODE_FLAG}
pub use Rattle.spec_cabac.specs.declared.init_values.TheConstants.{PREV_INTRA_LUMA_PRED_FLAG, REF_IDX, RQT_ROOT_CBF}
pub use Rattle.spec_cabac.specs.declared.init_values.TheConstants.{SAO_MERGE_FLAG, SAO_TYPE_IDX, SPLIT_CU_FLAG}
pub use Rattle.spec_cabac.specs.declared.init_values.TheConstants.{SPLIT_TRANSFORM_FLAG}
