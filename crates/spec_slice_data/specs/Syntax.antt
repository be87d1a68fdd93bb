-- The ranges of what the syntax of a coding tree unit depends on (7.4.3.2, 7.4.9.14).
use Rattle.std.specs.Prelude.{◌≤◌}
use Rattle.spec_slice_data.specs.declared.syntax.CtuSyntax.{CtuSyntax}

-- the ranges of what slice data are read by
pub record IsSyntax (syntax : CtuSyntax) : Type 0 where
  pub coding : 1 ≤ syntax.log2_min_coding
  pub transform : syntax.log2_max_transform ≤ 3
  pub depth : syntax.max_depth_intra ≤ 4
  pub luma_bits : syntax.pcm.luma_bits ≤ 16
  pub chroma_bits : syntax.pcm.chroma_bits ≤ 16
  pub offset : syntax.qp_offset ≤ 48
