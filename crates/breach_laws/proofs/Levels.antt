-- Few rules are broken by the levels of a transform block.
use Rattle.std.proofs.Common.{ℕ, ◌-◌, Bool, false, List, [], ◌∷◌, min, Option}
use Rattle.std.specs.Prelude.{nat_lt}
use Rattle.spec_residuals.specs.declared.block.ResidualBlock.{ResidualBlock}
use Rattle.spec_residuals.specs.LastPosition.{transform_skip_flag, last_prefix, last_suffix, last_position}
use Rattle.spec_residuals.specs.Significance.{coded_sub_block_flag, sig_coeff, sig_coeffs, coded_indices}
use Rattle.spec_residuals.specs.Levels.{greater1_flag, greater1_flags, no_flags, greater2_flag}
use Rattle.spec_residuals.specs.Levels.{coeff_abs_level_remaining}
use Rattle.spec_residuals.specs.Levels.{sized_level, level_at, levels_from, Residual, too_great}
use Rattle.spec_residuals.specs.Residual.{signs_of, coded_levels, coded_sub_block, sub_block, sub_blocks}
use Rattle.spec_residuals.specs.Residual.{residual_coding}
use Rattle.spec_residuals.specs.declared.progress.SubBlock.{SubBlock}
use Rattle.spec_residuals.specs.declared.progress.LevelState.{LevelState}
use Rattle.spec_residuals.specs.declared.progress.Signs.{Signs}
use Rattle.spec_residuals.specs.declared.progress.Progress.{Progress}
use Rattle.breach_laws.proofs.Breaking.{Breaks, give_breaks, then_breaks, when_breaks, wanted_breaks, decision_breaks}
use Rattle.breach_laws.proofs.Breaking.{coefficient_rule, times_breaks, fixed_breaks, truncated_breaks, ones_breaks}

skip_breaks : (block : ResidualBlock) → Breaks (transform_skip_flag block)
unfolding transform_skip_flag
skip_breaks block = when_breaks _ (decision_breaks _) (give_breaks _)

prefix_breaks : (base : ℕ) (block : ResidualBlock) → Breaks (last_prefix base block)
unfolding last_prefix
prefix_breaks base block = truncated_breaks _ _ (λ i. decision_breaks _)

suffix_breaks : (prefix : ℕ) → Breaks (last_suffix prefix)
suffix_breaks prefix = when_breaks _ (fixed_breaks _ _) (give_breaks _)

position_breaks : (block : ResidualBlock) → Breaks (last_position block)
unfolding last_position
position_breaks block =
    then_breaks (prefix_breaks _ block) (λ a. then_breaks (prefix_breaks _ block) (λ b.
    then_breaks (suffix_breaks a) (λ c. then_breaks (suffix_breaks b) (λ d. give_breaks _))))

coded_flag_breaks : (block : ResidualBlock) (last : ℕ) (sub : SubBlock) → Breaks (coded_sub_block_flag block last sub)
unfolding coded_sub_block_flag
coded_flag_breaks block last sub = when_breaks _ (give_breaks _) (decision_breaks _)

sig_breaks : (block : ResidualBlock) (sub : SubBlock) (flagged : Bool) (n : ℕ) (found : List ℕ)
    → Breaks (sig_coeff block sub flagged n found)
sig_breaks block sub flagged n found =
    then_breaks (when_breaks _ (give_breaks _) (decision_breaks _)) (λ flag. give_breaks _)

sigs_break : (block : ResidualBlock) (sub : SubBlock) (flagged : Bool) (from : ℕ) (found : List ℕ)
    → Breaks (sig_coeffs block sub flagged from found)
sigs_break block sub flagged from found =
    times_breaks (λ i. sig_coeff block sub flagged (from - 1 - i))
    (λ i x. sig_breaks block sub flagged _ x) 0 from found

indices_break : (block : ResidualBlock) (sub : SubBlock) (last position : ℕ)
    → Breaks (coded_indices block sub last position)
unfolding coded_indices
indices_break block sub last position = when_breaks _ (sigs_break block sub false position (position ∷ []))
    (sigs_break block sub (nat_lt 0 sub.index) 16 [])

greater1_breaks : (block : ResidualBlock) (set count : ℕ) → Breaks (greater1_flags block set count)
greater1_breaks block set count =
    times_breaks (greater1_flag block set)
    (λ j g. then_breaks (decision_breaks _) (λ flag. give_breaks _)) 0 (min count 8)
    no_flags

greater2_breaks : (block : ResidualBlock) (set : ℕ) (first : Option ℕ) → Breaks (greater2_flag block set first)
unfolding greater2_flag
greater2_breaks block set first = when_breaks _ (decision_breaks _) (give_breaks _)

remaining_breaks : (k : ℕ) → Breaks (coeff_abs_level_remaining k)
unfolding coeff_abs_level_remaining
remaining_breaks k =
    then_breaks (ones_breaks too_great coefficient_rule)
    (λ prefix. then_breaks (fixed_breaks _ _) (λ suffix. give_breaks _))

sized_breaks : (block : ResidualBlock) (sub : SubBlock) (indices : List ℕ) (s : Signs) (j size : ℕ)
    (before : LevelState × Residual) → Breaks (sized_level block sub indices s j size before)
sized_breaks block sub indices s j size before =
    then_breaks (wanted_breaks _ _ coefficient_rule) (λ held. give_breaks _)

level_breaks : (block : ResidualBlock) (sub : SubBlock) (indices : List ℕ) (s : Signs) (j : ℕ)
    (before : LevelState × Residual) → Breaks (level_at block sub indices s j before)
level_breaks block sub indices s j before =
    then_breaks (when_breaks _ (remaining_breaks _) (give_breaks _)) (λ more.
    sized_breaks block sub indices s j _ before)

levels_break : (block : ResidualBlock) (sub : SubBlock) (indices : List ℕ) (s : Signs) (before : Residual)
    → Breaks (levels_from block sub indices s before)
levels_break block sub indices s before =
    then_breaks (times_breaks (level_at block sub indices s) (λ j x. level_breaks block sub indices s j x) 0 _ _)
    (λ done. give_breaks _)

signs_break : (block : ResidualBlock) (set : ℕ) (indices : List ℕ) → Breaks (signs_of block set indices)
signs_break block set indices =
    then_breaks (greater1_breaks block set _) (λ g. then_breaks (greater2_breaks block set _) (λ h.
    then_breaks (fixed_breaks _ _) (λ signs. give_breaks _)))

coded_breaks : (block : ResidualBlock) (sub : SubBlock) (indices : List ℕ) (before : Progress × Residual)
    → Breaks (coded_levels block sub indices before)
unfolding coded_levels
coded_breaks block sub indices before =
    then_breaks (signs_break block _ indices) (λ signs. then_breaks (levels_break block sub indices signs before.1)
    (λ levels. give_breaks _))

coded_sub_breaks : (block : ResidualBlock) (last position : ℕ) (sub : SubBlock) (before : Progress × Residual)
    → Breaks (coded_sub_block block last position sub before)
unfolding coded_sub_block
coded_sub_breaks block last position sub before =
    then_breaks (indices_break block sub last position) (λ indices. when_breaks _ (give_breaks _)
    (coded_breaks block sub indices before))

sub_breaks : (block : ResidualBlock) (last position i : ℕ) (before : Progress × Residual)
    → Breaks (sub_block block last position i before)
unfolding sub_block
sub_breaks block last position i before =
    then_breaks (coded_flag_breaks block last _) (λ coded. when_breaks _ (coded_sub_breaks block last position _ _)
    (give_breaks _))

subs_break : (block : ResidualBlock) (last position : ℕ) (transform_skip : Bool)
    → Breaks (sub_blocks block last position transform_skip)
subs_break block last position transform_skip =
    then_breaks
    (times_breaks (λ k. sub_block block last position (last - k)) (λ k x. sub_breaks block last position _ x) 0 _ _)
    (λ done. give_breaks _)

pub residual_breaks : (block : ResidualBlock) → Breaks (residual_coding block)
unfolding residual_coding
residual_breaks block =
    then_breaks (skip_breaks block) (λ transform_skip. then_breaks (position_breaks block)
    (λ place. subs_break block _ _ transform_skip))
