-- residual_coding (7.3.8.11): the levels of a transform block.
use Rattle.std.specs.Prelude.{ℕ, ◌+◌, ◌-◌, ◌*◌, ◌/◌, ◌%◌, ◌==◌, Bool, true, false, List, [], length, replicate}
use Rattle.std.specs.Prelude.{slice_set}
use Rattle.block_geometry.specs.Scans.{scan_index}
use Rattle.spec_cabac.specs.SpecBits.{digit}
use Rattle.spec_cabac.specs.SpecFormats.{◌>>=◌, give, when◌then◌else◌}
use Rattle.spec_cabac.specs.Bins.{Tree, fixed, times}
use Rattle.spec_residuals.specs.declared.block.ResidualBlock.{ResidualBlock}
use Rattle.spec_residuals.specs.declared.progress.SubBlock.{SubBlock}
use Rattle.spec_residuals.specs.declared.progress.Progress.{Progress}
use Rattle.spec_residuals.specs.declared.progress.Signs.{Signs}
use Rattle.spec_residuals.specs.LastPosition.{transform_skip_flag, last_position}
use Rattle.spec_residuals.specs.Significance.{sub_block_at, coded_sub_block_flag, coded_indices, is_none}
use Rattle.spec_residuals.specs.Levels.{context_set, greater1_flags, greater2_flag, sign_hidden, Residual}
use Rattle.spec_residuals.specs.Levels.{levels_from}

-- the flags and the signs of so many levels
abbrev pub signs_of : ResidualBlock → ℕ → List ℕ → Tree Signs
signs_of block set indices = do
  greater1 ← greater1_flags block set (length indices)
  greater2 ← greater2_flag block set greater1.first
  signs ← fixed (length indices - digit (sign_hidden block indices))
  give (record { greater1 = greater1; greater2 = greater2; hidden = sign_hidden block indices; signs = signs })

-- the levels at these indices of a sub-block, behind those before
unfoldable pub coded_levels : ResidualBlock → SubBlock → List ℕ → Progress × Residual → Tree (Progress × Residual)
coded_levels block sub indices before = do
  signs ← signs_of block (context_set block sub before.0.raised) indices
  levels ← levels_from block sub indices signs before.1
  give (record { coded = before.0.coded; raised = signs.greater1.context == 0 }, levels)

-- a sub-block that is coded
abbrev pub marked : Progress → SubBlock → Progress
marked before sub = record { coded = slice_set before.coded (9 * sub.y + sub.x) true; raised = before.raised }

-- a sub-block that is coded: its levels, where it has any
unfoldable pub coded_sub_block : ResidualBlock → ℕ → ℕ → SubBlock → Progress × Residual → Tree (Progress × Residual)
coded_sub_block block last position sub before = do
  indices ← coded_indices block sub last position
  when is_none indices then give before else coded_levels block sub indices before

-- a sub-block, behind those of the indices above it
unfoldable pub sub_block : ResidualBlock → ℕ → ℕ → ℕ → Progress × Residual → Tree (Progress × Residual)
sub_block block last position i before = do
  let sub = sub_block_at block before.0.coded i
  coded ← coded_sub_block_flag block last sub
  when coded then coded_sub_block block last position sub (marked before.0 sub, before.1) else give before

-- before the first sub-block
abbrev pub no_progress : Progress
no_progress = record { coded = replicate 81 false; raised = false }

-- before the first level
abbrev pub no_levels : Bool → Residual
no_levels transform_skip = record { transform_skip = transform_skip; levels = [] }

-- the sub-blocks from the last one back, where the last level stands at a place of the block
abbrev pub sub_blocks : ResidualBlock → ℕ → ℕ → Bool → Tree Residual
sub_blocks block last position transform_skip = do
  done ← times 0 (last + 1) (λ k. sub_block block last position (last - k)) (no_progress, no_levels transform_skip)
  give done.1

-- the levels behind the place of the last one
abbrev pub levels_behind : ResidualBlock → ℕ × ℕ → Bool → Tree Residual
levels_behind block place transform_skip =
    sub_blocks block (scan_index (block.log2 - 2) block.scan (place.0 / 4) (place.1 / 4))
    (scan_index 2 block.scan (place.0 % 4) (place.1 % 4)) transform_skip

-- the levels of a block (7.3.8.11)
unfoldable pub residual_coding : ResidualBlock → Tree Residual
residual_coding block = do
  transform_skip ← transform_skip_flag block
  place ← last_position block
  levels_behind block place transform_skip
