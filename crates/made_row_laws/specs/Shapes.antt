-- What the rows of a made picture are read by (7.3.8.1, 7.4.3.2, 7.4.3.3, 7.4.7.1, 9.3.1).
use Rattle.std.specs.Prelude.{ℕ, pos, Bool, true, false, List, map, Option, is_some}
use Rattle.std.specs.List.{range_with_len}
use Rattle.spec_cabac.specs.Contexts.{first_contexts}
use Rattle.spec_slice_data.specs.declared.syntax.CtuSyntax.{CtuSyntax}
use Rattle.spec_slice_data.specs.declared.syntax.InterSyntax.{InterSyntax}
use Rattle.spec_slice_data.specs.Segment.{PictureShape, SegmentShape}
use Rattle.spec_made.specs.declared.units.Shift.{Shift}
use Rattle.spec_made.specs.InterRows.{init_type}

-- 128x96 luma samples in coding tree units of 16x16, and a substream for each row
abbrev pub made_shape : PictureShape
made_shape = record { width = 8; across = 32; down = 24; size = 2; sync = true }

-- one candidate for merging, and one active reference in each list
abbrev pub made_inter : Bool → Bool → InterSyntax
made_inter is_inter is_b = record {
  is_inter = is_inter;
  is_b = is_b;
  max_merge = 1;
  active_0 = 1;
  active_1 = 1;
  mvd_l1_zero = false;
  amp_enabled = false;
  max_depth_inter = 0;
}

-- coding blocks of 16x16 and 8x8 luma samples, which pulse code modulation takes both, with samples of 8 bits
abbrev pub made_syntax : InterSyntax → CtuSyntax
made_syntax inter = record {
  log2_min_coding = 1;
  log2_min_transform = 0;
  log2_max_transform = 1;
  max_depth_intra = 0;
  log2_group = 2;
  luma_depth = 8;
  chroma_depth = 8;
  qp_offset = 0;
  cu_qp_delta_enabled = false;
  transquant_bypass_enabled = false;
  transform_skip_enabled = false;
  sign_data_hiding_enabled = false;
  pcm = record { enabled = true; log2_least = 1; log2_greatest = 2; luma_bits = 8; chroma_bits = 8 };
  inter = inter;
  sao_luma = false;
  sao_chroma = false;
  has_left = false;
  has_above = false;
  right = 0;
  lower = 0;
}

-- what the units of an IDR picture are read by, and those of a P or B picture
abbrev pub idr_syntax : CtuSyntax
idr_syntax = made_syntax (made_inter false false)

abbrev pub predicted_syntax : Option Shift → CtuSyntax
predicted_syntax second = made_syntax (made_inter true (is_some second))

-- a picture's only slice segment: all 48 units, QP 26, contexts of this initType, and a substream for each of six rows
abbrev pub made_segment : ℕ → (ℕ → List ℕ) → SegmentShape
made_segment init_type row = record {
  first = 0;
  count = 48;
  slice = 0;
  qp = 26;
  contexts = first_contexts (pos 26) init_type;
  dependent = false;
  substreams = map row (range_with_len 0 6);
}
