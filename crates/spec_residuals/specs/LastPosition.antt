-- transform_skip_flag, and the place of the last coded level of a block (7.3.8.11, 9.3.4.2.3).
use Rattle.std.specs.Prelude.{ℕ, ◌+◌, ◌-◌, ◌*◌, ◌/◌, ◌%◌, ◌^◌, ◌==◌, Bool, true, false, not, ◌&&◌, nat_lt}
use Rattle.std.specs.Prelude.{if◌then◌else◌}
use Rattle.block_geometry.specs.declared.kind.Scan.{Scan}
use Rattle.block_geometry.specs.declared.kind.Scan.TheVariants.{Diagonal, Horizontal, Vertical}
use Rattle.spec_cabac.specs.SpecFormats.{◌>>=◌, give, when◌then◌else◌}
use Rattle.spec_cabac.specs.Bins.{Tree, decision, fixed, truncated}
use Rattle.spec_cabac.specs.declared.init_values.TheConstants.{TRANSFORM_SKIP_FLAG, LAST_SIG_COEFF_X_PREFIX}
use Rattle.spec_cabac.specs.declared.init_values.TheConstants.{LAST_SIG_COEFF_Y_PREFIX}
use Rattle.spec_residuals.specs.declared.block.ResidualBlock.{ResidualBlock}

-- cIdx is 0
abbrev pub is_luma : ResidualBlock → Bool
is_luma block = block.c == 0

-- the context that counts from a base for luma, and from another one for chroma
abbrev pub by_component : ResidualBlock → ℕ → ℕ → ℕ
by_component block luma chroma = if is_luma block then luma else chroma

-- transform_skip_flag, 0 where it isn't coded
unfoldable pub transform_skip_flag : ResidualBlock → Tree Bool
transform_skip_flag block =
    when block.skip_enabled && not block.bypass && (block.log2 == 2)
    then decision (by_component block TRANSFORM_SKIP_FLAG (TRANSFORM_SKIP_FLAG + 1))
    else give false

-- ctxIdxInc of bin i of last_sig_coeff_x_prefix and last_sig_coeff_y_prefix (9.3.4.2.3)
abbrev pub prefix_context : ResidualBlock → ℕ → ℕ
prefix_context block i =
    by_component block (3 * (block.log2 - 2) + (block.log2 - 1) / 4 + i / 2 ^ ((block.log2 + 1) / 4))
    (15 + i / 2 ^ (block.log2 - 2))

-- last_sig_coeff_x_prefix, last_sig_coeff_y_prefix, by the base of its contexts
unfoldable pub last_prefix : ℕ → ResidualBlock → Tree ℕ
last_prefix base block = truncated (λ i. decision (base + prefix_context block i)) (2 * block.log2 - 1)

-- last_sig_coeff_x_suffix, last_sig_coeff_y_suffix, where the prefix has one
abbrev pub last_suffix : ℕ → Tree ℕ
last_suffix prefix = when nat_lt 3 prefix then fixed (prefix / 2 - 1) else give 0

-- LastSignificantCoeffX, LastSignificantCoeffY before they are exchanged (7.4.9.11)
abbrev pub last_of : ℕ → ℕ → ℕ
last_of prefix suffix = if nat_lt 3 prefix then 2 ^ (prefix / 2 - 1) * (2 + prefix % 2) + suffix else prefix

-- whether the scan goes down columns, which exchanges the coordinates
abbrev pub is_vertical : Scan → Bool
is_vertical Diagonal = false
is_vertical Horizontal = false
is_vertical Vertical = true

-- the column and the row of the last coded level, which the vertical scan exchanges
unfoldable pub last_position : ResidualBlock → Tree (ℕ × ℕ)
last_position block = do
  x_prefix ← last_prefix LAST_SIG_COEFF_X_PREFIX block
  y_prefix ← last_prefix LAST_SIG_COEFF_Y_PREFIX block
  x_suffix ← last_suffix x_prefix
  y_suffix ← last_suffix y_prefix
  give (if is_vertical block.scan then (last_of y_prefix y_suffix, last_of x_prefix x_suffix)
      else (last_of x_prefix x_suffix, last_of y_prefix y_suffix))
