-- A coded transform block (7.3.8.10, 7.3.8.11, 7.4.9.11).
use Rattle.std.specs.Prelude.{ℕ, ◌+◌, ◌*◌, ◌^◌, ◌==◌, ◌&&◌, ◌||◌, nat_le, Bool, if◌then◌else◌}
use Rattle.std.specs.List.{fold}
use Rattle.spec_residuals.specs.BlockGeometry.{Scan}
use Rattle.spec_residuals.specs.BlockGeometry.{Diagonal, Horizontal, Vertical}
use Rattle.ctu_records.specs.declared.item.CodedBlock.{CodedBlock}
use Rattle.ctu_records.specs.declared.item.Item.TheVariants as item
use Rattle.ctu_records.specs.Tree.{Ctu, added}
use Rattle.spec_residuals.specs.SpecCabac.{Tree}
use Rattle.spec_residuals.specs.SpecFormats.{◌>>=◌, give}
use Rattle.spec_residuals.specs.declared.block.ResidualBlock.{ResidualBlock}
use Rattle.spec_residuals.specs.declared.block.Level.{Level}
use Rattle.spec_residuals.specs.Levels.{Residual}
use Rattle.spec_residuals.specs.Residual.{residual_coding}
use Rattle.spec_slice_data.specs.declared.syntax.CtuSyntax.{CtuSyntax}
use Rattle.spec_slice_data.specs.declared.syntax.UnitSyntax.{UnitSyntax}
use Rattle.spec_slice_data.specs.declared.syntax.TransformBlock.{TransformBlock}

-- whether a block has 4x4 samples, or 8x8 of luma: then its scan goes by its intra mode
abbrev pub scans_by_mode : TransformBlock → Bool
scans_by_mode block = block.log2_size == 2 || (block.log2_size == 3 && block.component == 0)

-- scanIdx by predModeIntra: columns for the modes from 6 to 14, rows for those from 22 to 30
unfoldable pub scan_of_mode : ℕ → Scan
scan_of_mode mode =
    if nat_le 6 mode && nat_le mode 14 then Vertical
    else (if nat_le 22 mode && nat_le mode 30 then Horizontal else Diagonal)

-- scanIdx of a block: in an inter coding unit always diagonal (7.4.9.11)
unfoldable pub scan_of : UnitSyntax → TransformBlock → Scan
scan_of unit block = if unit.intra && scans_by_mode block then scan_of_mode block.mode else Diagonal

-- how many samples of a component a place has on a side
abbrev pub samples_of_place : ℕ → ℕ
samples_of_place component = if component == 0 then 4 else 2

-- what residual_coding of a block depends on
unfoldable pub residual_block : CtuSyntax → UnitSyntax → TransformBlock → ResidualBlock
residual_block syntax unit block = record {
  c = block.component;
  x = samples_of_place block.component * block.x;
  y = samples_of_place block.component * block.y;
  log2 = block.log2_size;
  scan = scan_of unit block;
  bypass = unit.transquant_bypass;
  skip_enabled = syntax.transform_skip_enabled;
  sign_hiding = syntax.sign_data_hiding_enabled;
}

-- a block as it stands in what was read
abbrev pub coded : TransformBlock → Bool → CodedBlock
coded block transform_skip = record {
  x = block.x;
  y = block.y;
  log2_size = block.log2_size;
  component = block.component;
  transform_skip = transform_skip;
}

-- a level of a block with a side of 2^log2 samples
abbrev pub with_level : ℕ → Ctu → Level → Ctu
with_level log2 ctu level = added ctu (item.Level (level.y * 2 ^ log2 + level.x) level.value)

-- a block, and its levels from the last one back
unfoldable pub with_residual : TransformBlock → Residual → Ctu → Ctu
with_residual block residual ctu =
    fold (with_level block.log2_size) (added ctu (item.Block (coded block residual.transform_skip))) residual.levels

-- a block of a component whose coded block flag is 1
unfoldable pub coded_block : CtuSyntax → UnitSyntax → TransformBlock → Ctu → Tree Ctu
coded_block syntax unit block ctu = do
  residual ← residual_coding (residual_block syntax unit block)
  give (with_residual block residual ctu)
