-- transform_tree (7.3.8.8) and transform_unit (7.3.8.10).
use Rattle.std.specs.Prelude.{ℕ, zero, suc, ◌+◌, ◌-◌, ◌%◌, ◌==◌, ◌&&◌, ◌||◌, not, nat_le, nat_lt, Bool, true, false}
use Rattle.std.specs.Prelude.{if◌then◌else◌}
use Rattle.ctu_records.specs.declared.item.Item.TheVariants.{Transform}
use Rattle.ctu_records.specs.declared.item.Square.{Square}
use Rattle.ctu_records.specs.declared.item.TransformUnit.{TransformUnit}
use Rattle.ctu_records.specs.Tree.{Ctu, added, luma_mode_at}
use Rattle.spec_residuals.specs.SpecCabac.{SPLIT_TRANSFORM_FLAG, CBF_LUMA, CBF_CHROMA}
use Rattle.spec_residuals.specs.SpecCabac.{Tree, decision}
use Rattle.spec_residuals.specs.SpecFormats.{◌>>=◌, give, when◌then◌else◌}
use Rattle.spec_slice_data.specs.declared.syntax.CtuSyntax.{CtuSyntax}
use Rattle.spec_slice_data.specs.declared.syntax.UnitSyntax.{UnitSyntax}
use Rattle.spec_slice_data.specs.declared.syntax.ChromaFlags.{ChromaFlags}
use Rattle.spec_slice_data.specs.declared.syntax.TransformBlock.{TransformBlock}
use Rattle.spec_slice_data.specs.Modes.{upper_left, upper_right, lower_left, lower_right}
use Rattle.spec_slice_data.specs.Quantization.{delta_where}
use Rattle.spec_slice_data.specs.Residual.{coded_block}

-- whether the tree is split at its top without a flag: IntraSplitFlag, or interSplitFlag
abbrev pub splits_first : UnitSyntax → ℕ → Bool
splits_first unit depth = unit.split && depth == 0

-- MaxTrafoDepth
abbrev pub max_depth : CtuSyntax → UnitSyntax → ℕ
max_depth syntax unit =
    if unit.intra then syntax.max_depth_intra + (if unit.split then 1 else 0) else syntax.inter.max_depth_inter

-- split_transform_flag, or what it is taken to be (7.4.9.8)
unfoldable pub split_transform_flag : CtuSyntax → UnitSyntax → ℕ → ℕ → Tree Bool
split_transform_flag syntax unit n depth =
    when (nat_le n syntax.log2_max_transform && nat_lt syntax.log2_min_transform n)
    && (nat_lt depth (max_depth syntax unit) && not (splits_first unit depth))
    then decision (SPLIT_TRANSFORM_FLAG + (3 - n))
    else give (nat_lt syntax.log2_max_transform n || splits_first unit depth)

-- cbf_cb or cbf_cr, where that of the node above is 1
abbrev pub cbf_chroma : Bool → ℕ → Tree Bool
cbf_chroma above depth = when above then decision (CBF_CHROMA + depth) else give false

-- cbf_cb and cbf_cr
unfoldable pub chroma_flags : ChromaFlags → ℕ → Tree ChromaFlags
chroma_flags above depth = do
  cb ← cbf_chroma above.cb depth
  cr ← cbf_chroma above.cr depth
  give (record { cb = cb; cr = cr })

-- a block by its coded block flag
abbrev pub block_where : CtuSyntax → UnitSyntax → Bool → TransformBlock → Ctu → Tree Ctu
block_where syntax unit coded block ctu = when coded then coded_block syntax unit block ctu else give ctu

-- a chroma block of a square of at least 8x8 luma samples
abbrev pub chroma_transform : UnitSyntax → ℕ → Square → TransformBlock
chroma_transform unit component square = record {
  component = component;
  x = square.x;
  y = square.y;
  log2_size = square.log2_size + 1;
  mode = unit.chroma_mode;
}

-- the two chroma blocks of such a square
unfoldable pub chroma_blocks : CtuSyntax → UnitSyntax → ChromaFlags → Square → Ctu → Tree Ctu
chroma_blocks syntax unit flags square ctu = do
  with_cb ← block_where syntax unit flags.cb (chroma_transform unit 1 square) ctu
  block_where syntax unit flags.cr (chroma_transform unit 2 square) with_cb

-- the square of 8x8 luma samples of which this is the fourth quarter
abbrev pub whole_of_fourth : Square → Square
whole_of_fourth square = record { x = square.x - 1; y = square.y - 1; log2_size = 1 }

-- the chroma blocks that belong to a transform unit: behind the fourth of four blocks of 4x4 luma samples those of the
-- square that was split
unfoldable pub chroma_of : CtuSyntax → UnitSyntax → ChromaFlags → Square → Ctu → Tree Ctu
chroma_of syntax unit flags square ctu =
    when square.log2_size == 0
    then (when square.x % 2 == 1 && square.y % 2 == 1 then chroma_blocks syntax unit flags (whole_of_fourth square) ctu
    else give ctu)
    else chroma_blocks syntax unit flags square ctu

-- the luma block of a transform unit
abbrev pub luma_transform : Square → Ctu → TransformBlock
luma_transform square ctu = record {
  component = 0;
  x = square.x;
  y = square.y;
  log2_size = square.log2_size + 2;
  mode = luma_mode_at ctu.items square.x square.y;
}

-- it is read, where it is coded
abbrev pub luma_of : CtuSyntax → UnitSyntax → Bool → Square → Ctu → Tree Ctu
luma_of syntax unit cbf_luma square ctu = block_where syntax unit cbf_luma (luma_transform square ctu) ctu

-- whether any block of a transform unit is coded
abbrev pub any_coded : Bool → ChromaFlags → Bool
any_coded cbf_luma flags = cbf_luma || (flags.cb || flags.cr)

-- whether cu_qp_delta stands in a transform unit
abbrev pub has_delta : CtuSyntax → Bool → Ctu → Bool
has_delta syntax coded ctu = coded && (syntax.cu_qp_delta_enabled && not ctu.quantization.coded)

-- what stands in a transform unit behind its coded block flags
unfoldable pub transform_blocks : CtuSyntax → UnitSyntax → Bool → ChromaFlags → Square → Ctu → Tree Ctu
transform_blocks syntax unit cbf_luma flags square ctu = do
  quantized ← delta_where syntax unit.square (has_delta syntax (any_coded cbf_luma flags) ctu) ctu
  with_luma ← luma_of syntax unit cbf_luma square quantized
  chroma_of syntax unit flags square with_luma

-- a transform unit as it stands in what was read
abbrev pub transform : Square → ℕ → Bool → ChromaFlags → TransformUnit
transform square depth cbf_luma flags =
    record { square = square; depth = depth; cbf_luma = cbf_luma; cbf_cb = flags.cb; cbf_cr = flags.cr }

-- cbf_luma (9.3.4.2)
abbrev pub cbf_luma : ℕ → Tree Bool
cbf_luma depth = when depth == 0 then decision (CBF_LUMA + 1) else decision CBF_LUMA

-- cbf_luma, which is 1 at the top of an inter coding unit's tree without chroma
unfoldable pub cbf_luma_at : UnitSyntax → ChromaFlags → ℕ → Tree Bool
cbf_luma_at unit flags depth =
    when unit.intra || (nat_lt 0 depth || (flags.cb || flags.cr)) then cbf_luma depth else give true

-- a node that isn't split
unfoldable pub transform_unit : CtuSyntax → UnitSyntax → ChromaFlags → ℕ → Square → Ctu → Tree Ctu
transform_unit syntax unit flags depth square ctu = do
  coded ← cbf_luma_at unit flags depth
  transform_blocks syntax unit coded flags square (added ctu (Transform (transform square depth coded flags)))

-- transform_tree: four quarters, or a transform unit (7.3.8.8)
abbrev pub split_or_blocks : (ChromaFlags → Square → Ctu → Tree Ctu) → CtuSyntax → UnitSyntax → ChromaFlags → ℕ → Square
    → Ctu → Tree Ctu
split_or_blocks quarter syntax unit above depth square ctu = do
  split ← split_transform_flag syntax unit square.log2_size depth
  flags ← chroma_flags above depth
  when split
      then (do
        first ← quarter flags (upper_left square) ctu
        second ← quarter flags (upper_right square) first
        third ← quarter flags (lower_left square) second
        quarter flags (lower_right square) third)
      else transform_unit syntax unit flags depth square ctu

-- the transform tree of a square of 2^n places on a side, under a node with these chroma flags; 4x4 luma samples have
-- those of the node
unfoldable pub transform_tree : CtuSyntax → UnitSyntax → ChromaFlags → ℕ → ℕ → Square → Ctu → Tree Ctu
transform_tree syntax unit above zero depth square ctu = transform_unit syntax unit above depth square ctu
transform_tree syntax unit above (suc n) depth square ctu =
    split_or_blocks (λ flags. transform_tree syntax unit flags n (depth + 1)) syntax unit above depth square ctu
