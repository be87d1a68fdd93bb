-- The engine goes on behind the levels of a transform block.
use Rattle.std.proofs.Common.{ℕ, ◌-◌, Bool, false, List, [], ◌∷◌, min, Option}
use Rattle.std.specs.Prelude.{nat_lt}
use Rattle.spec_residuals.specs.declared.block.ResidualBlock.{ResidualBlock}
use Rattle.spec_residuals.specs.LastPosition.{transform_skip_flag, last_prefix, last_suffix, last_position}
use Rattle.spec_residuals.specs.Significance.{coded_sub_block_flag, sig_coeff, sig_coeffs, coded_indices}
use Rattle.spec_residuals.specs.Levels.{greater1_flag, greater1_flags, no_flags, greater2_flag}
use Rattle.spec_residuals.specs.Levels.{coeff_abs_level_remaining}
use Rattle.spec_residuals.specs.Levels.{sized_level, level_at, levels_from, Residual, too_great}
use Rattle.spec_residuals.specs.Residual.{signs_of, coded_levels, coded_sub_block, sub_block, sub_blocks}
use Rattle.spec_residuals.specs.Residual.{residual_coding}
use Rattle.spec_residuals.specs.declared.progress.SubBlock.{SubBlock}
use Rattle.spec_residuals.specs.declared.progress.LevelState.{LevelState}
use Rattle.spec_residuals.specs.declared.progress.Signs.{Signs}
use Rattle.spec_residuals.specs.declared.progress.Progress.{Progress}
use Rattle.engine_laws.proofs.Keeping.{Keeps, give_keeps, then_keeps, when_keeps, wanted_keeps, decision_keeps}
use Rattle.engine_laws.proofs.Keeping.{times_keeps, fixed_keeps, truncated_keeps, ones_keeps}

skip_keeps : (block : ResidualBlock) → Keeps (transform_skip_flag block)
unfolding transform_skip_flag
skip_keeps block = when_keeps _ (decision_keeps _) (give_keeps _)

prefix_keeps : (base : ℕ) (block : ResidualBlock) → Keeps (last_prefix base block)
unfolding last_prefix
prefix_keeps base block = truncated_keeps _ _ (λ i. decision_keeps _)

suffix_keeps : (prefix : ℕ) → Keeps (last_suffix prefix)
suffix_keeps prefix = when_keeps _ (fixed_keeps _ _) (give_keeps _)

position_keeps : (block : ResidualBlock) → Keeps (last_position block)
unfolding last_position
position_keeps block =
    then_keeps (prefix_keeps _ block) (λ a. then_keeps (prefix_keeps _ block) (λ b.
    then_keeps (suffix_keeps a) (λ c. then_keeps (suffix_keeps b) (λ d. give_keeps _))))

coded_flag_keeps : (block : ResidualBlock) (last : ℕ) (sub : SubBlock) → Keeps (coded_sub_block_flag block last sub)
unfolding coded_sub_block_flag
coded_flag_keeps block last sub = when_keeps _ (give_keeps _) (decision_keeps _)

sig_keeps : (block : ResidualBlock) (sub : SubBlock) (flagged : Bool) (n : ℕ) (found : List ℕ)
    → Keeps (sig_coeff block sub flagged n found)
sig_keeps block sub flagged n found =
    then_keeps (when_keeps _ (give_keeps _) (decision_keeps _)) (λ flag. give_keeps _)

sigs_keep : (block : ResidualBlock) (sub : SubBlock) (flagged : Bool) (from : ℕ) (found : List ℕ)
    → Keeps (sig_coeffs block sub flagged from found)
sigs_keep block sub flagged from found =
    times_keeps (λ i. sig_coeff block sub flagged (from - 1 - i)) (λ i x. sig_keeps block sub flagged _ x) 0 from found

indices_keep : (block : ResidualBlock) (sub : SubBlock) (last position : ℕ)
    → Keeps (coded_indices block sub last position)
unfolding coded_indices
indices_keep block sub last position = when_keeps _ (sigs_keep block sub false position (position ∷ []))
    (sigs_keep block sub (nat_lt 0 sub.index) 16 [])

greater1_keeps : (block : ResidualBlock) (set count : ℕ) → Keeps (greater1_flags block set count)
greater1_keeps block set count =
    times_keeps (greater1_flag block set) (λ j g. then_keeps (decision_keeps _) (λ flag. give_keeps _)) 0 (min count 8)
    no_flags

greater2_keeps : (block : ResidualBlock) (set : ℕ) (first : Option ℕ) → Keeps (greater2_flag block set first)
unfolding greater2_flag
greater2_keeps block set first = when_keeps _ (decision_keeps _) (give_keeps _)

remaining_keeps : (k : ℕ) → Keeps (coeff_abs_level_remaining k)
unfolding coeff_abs_level_remaining
remaining_keeps k = then_keeps (ones_keeps too_great) (λ prefix. then_keeps (fixed_keeps _ _) (λ suffix. give_keeps _))

sized_keeps : (block : ResidualBlock) (sub : SubBlock) (indices : List ℕ) (s : Signs) (j size : ℕ)
    (before : LevelState × Residual) → Keeps (sized_level block sub indices s j size before)
sized_keeps block sub indices s j size before = then_keeps (wanted_keeps _ _) (λ held. give_keeps _)

level_keeps : (block : ResidualBlock) (sub : SubBlock) (indices : List ℕ) (s : Signs) (j : ℕ)
    (before : LevelState × Residual) → Keeps (level_at block sub indices s j before)
level_keeps block sub indices s j before =
    then_keeps (when_keeps _ (remaining_keeps _) (give_keeps _)) (λ more. sized_keeps block sub indices s j _ before)

levels_keep : (block : ResidualBlock) (sub : SubBlock) (indices : List ℕ) (s : Signs) (before : Residual)
    → Keeps (levels_from block sub indices s before)
levels_keep block sub indices s before =
    then_keeps (times_keeps (level_at block sub indices s) (λ j x. level_keeps block sub indices s j x) 0 _ _)
    (λ done. give_keeps _)

signs_keep : (block : ResidualBlock) (set : ℕ) (indices : List ℕ) → Keeps (signs_of block set indices)
signs_keep block set indices =
    then_keeps (greater1_keeps block set _) (λ g. then_keeps (greater2_keeps block set _) (λ h.
    then_keeps (fixed_keeps _ _) (λ signs. give_keeps _)))

coded_keeps : (block : ResidualBlock) (sub : SubBlock) (indices : List ℕ) (before : Progress × Residual)
    → Keeps (coded_levels block sub indices before)
unfolding coded_levels
coded_keeps block sub indices before =
    then_keeps (signs_keep block _ indices) (λ signs. then_keeps (levels_keep block sub indices signs before.1)
    (λ levels. give_keeps _))

coded_sub_keeps : (block : ResidualBlock) (last position : ℕ) (sub : SubBlock) (before : Progress × Residual)
    → Keeps (coded_sub_block block last position sub before)
unfolding coded_sub_block
coded_sub_keeps block last position sub before =
    then_keeps (indices_keep block sub last position) (λ indices. when_keeps _ (give_keeps _)
    (coded_keeps block sub indices before))

sub_keeps : (block : ResidualBlock) (last position i : ℕ) (before : Progress × Residual)
    → Keeps (sub_block block last position i before)
unfolding sub_block
sub_keeps block last position i before =
    then_keeps (coded_flag_keeps block last _) (λ coded. when_keeps _ (coded_sub_keeps block last position _ _)
    (give_keeps _))

subs_keep : (block : ResidualBlock) (last position : ℕ) (transform_skip : Bool)
    → Keeps (sub_blocks block last position transform_skip)
subs_keep block last position transform_skip =
    then_keeps
    (times_keeps (λ k. sub_block block last position (last - k)) (λ k x. sub_keeps block last position _ x) 0 _ _)
    (λ done. give_keeps _)

pub residual_keeps : (block : ResidualBlock) → Keeps (residual_coding block)
unfolding residual_coding
residual_keeps block =
    then_keeps (skip_keeps block) (λ transform_skip. then_keeps (position_keeps block)
    (λ place. subs_keep block _ _ transform_skip))
