-- The levels of a sub-block (7.3.8.11, 9.3.3.9, 9.3.4.2.6, 9.3.4.2.7).
use Rattle.std.specs.Prelude.{ℕ, ◌+◌, ◌-◌, ◌*◌, ◌%◌, ◌^◌, ◌==◌, min, ℤ, pos, neg_ℤ, Bool, true, false, not, ◌&&◌}
use Rattle.std.specs.Prelude.{nat_lt, nat_le, List, [], ◌∷◌, ◌++◌, length, replicate, slice_index, slice_index_or}
use Rattle.std.specs.Prelude.{slice_set, Option, Some, None, is_some, if◌then◌else◌}
use Rattle.hv_base.specs.declared.breach.Breach.{Breach}
use Rattle.hv_base.specs.declared.breach.Breach.TheVariants as breach
use Rattle.hv_base.specs.declared.fault.FaultKind.TheVariants as rule
use Rattle.block_geometry.specs.Scans.{Place, scan_place}
use Rattle.spec_cabac.specs.SpecBits.{bit_of, digit}
use Rattle.spec_cabac.specs.SpecFormats.{◌>>=◌, give, wanted, when◌then◌else◌}
use Rattle.spec_cabac.specs.Bins.{Tree, decision, fixed, ones, times}
use Rattle.spec_cabac.specs.declared.init_values.TheConstants.{COEFF_ABS_LEVEL_GREATER1_FLAG}
use Rattle.spec_cabac.specs.declared.init_values.TheConstants.{COEFF_ABS_LEVEL_GREATER2_FLAG}
use Rattle.spec_residuals.specs.declared.block.ResidualBlock.{ResidualBlock}
use Rattle.spec_residuals.specs.declared.block.Level.{Level}
use Rattle.spec_residuals.specs.declared.progress.SubBlock.{SubBlock}
use Rattle.spec_residuals.specs.declared.progress.Greater1Flags.{Greater1Flags}
use Rattle.spec_residuals.specs.declared.progress.LevelState.{LevelState}
use Rattle.spec_residuals.specs.declared.progress.Signs.{Signs}
use Rattle.spec_residuals.specs.LastPosition.{is_luma, by_component}

-- a level that doesn't fit 16 bits
abbrev pub too_great : Breach
too_great = breach.Fault rule.CoeffRange

-- ctxSet: 2 in luma sub-blocks other than the first, and 1 more where the last earlier sub-block that has flags
-- coeff_abs_level_greater1_flag had one equal to 1; its levels past the eighth, which have none, don't count
-- (9.3.4.2.6)
abbrev pub context_set : ResidualBlock → SubBlock → Bool → ℕ
context_set block sub raised = (if is_luma block && nat_lt 0 sub.index then 2 else 0) + (if raised then 1 else 0)

-- greater1Ctx of the next flag: 0 once a flag was 1, else one more, up to 3
abbrev pub next_context : ℕ → Bool → ℕ
next_context context true = 0
next_context context false = if context == 0 then 0 else min 3 (context + 1)

-- which flag is the first 1, behind flag number j
abbrev pub first_behind : Option ℕ → Bool → ℕ → Option ℕ
first_behind None flag j = if flag then Some j else None
first_behind (Some first) flag j = Some first

-- whether flag number j is the first 1
abbrev pub is_first : Option ℕ → ℕ → Bool
is_first None j = false
is_first (Some first) j = j == first

-- coeff_abs_level_greater1_flag number j of a sub-block
abbrev pub greater1_flag : ResidualBlock → ℕ → ℕ → Greater1Flags → Tree Greater1Flags
greater1_flag block set j g = do
  flag ←
      decision (by_component block COEFF_ABS_LEVEL_GREATER1_FLAG (COEFF_ABS_LEVEL_GREATER1_FLAG + 16) + 4 * set
      + g.context)
  give (record {
    flags = slice_set g.flags j flag;
    context = next_context g.context flag;
    first = first_behind g.first flag j;
  })

-- before the first flag of a sub-block
abbrev pub no_flags : Greater1Flags
no_flags = record { flags = replicate 16 false; context = 1; first = None }

-- those of the first eight levels of a sub-block of so many
abbrev pub greater1_flags : ResidualBlock → ℕ → ℕ → Tree Greater1Flags
greater1_flags block set count = times 0 (min count 8) (greater1_flag block set) no_flags

-- coeff_abs_level_greater2_flag of the first level above 1
unfoldable pub greater2_flag : ResidualBlock → ℕ → Option ℕ → Tree Bool
greater2_flag block set first =
    when is_some first
    then decision (by_component block COEFF_ABS_LEVEL_GREATER2_FLAG (COEFF_ABS_LEVEL_GREATER2_FLAG + 4) + set)
    else give false

-- signHidden: the last and the first level of a sub-block are more than 3 places of the scan apart
unfoldable pub sign_hidden : ResidualBlock → List ℕ → Bool
sign_hidden block indices =
    block.sign_hiding && not block.bypass && nat_lt 3 (slice_index indices 0 - slice_index indices (length indices - 1))

-- how many bits the suffix of coeff_abs_level_remaining has, and what its prefix stands for, in 2^k
abbrev pub suffix_size : ℕ → ℕ → ℕ
suffix_size prefix k = if nat_lt 3 prefix then prefix - 3 + k else k

-- what the prefix stands for
abbrev pub front : ℕ → ℕ
front prefix = if nat_lt 3 prefix then 2 ^ (prefix - 3) + 2 else prefix

-- coeff_abs_level_remaining with cRiceParam k: a prefix of fewer than 32 ones, and a suffix (9.3.3.9)
unfoldable pub coeff_abs_level_remaining : ℕ → Tree ℕ
coeff_abs_level_remaining k = do
  prefix ← ones too_great
  suffix ← fixed (suffix_size prefix k)
  give (front prefix * 2 ^ k + suffix)

-- cRiceParam of the next level, behind one of this size
abbrev pub next_rice : ℕ → ℕ → ℕ
next_rice rice size = if nat_lt (3 * 2 ^ rice) size then min 4 (rice + 1) else rice

-- transform_skip_flag, and the levels that aren't 0, from the last one back
pub record Residual : Type 0 where
  pub transform_skip : Bool
  pub levels : List Level

-- a level more
abbrev pub with_level : Residual → Level → Residual
with_level r level = record { transform_skip = r.transform_skip; levels = r.levels ++ level ∷ [] }

-- baseLevel of level j, and its greatest value, at which the level goes on
abbrev pub base_level : Signs → ℕ → ℕ
base_level s j = 1 + digit (slice_index_or s.greater1.flags j false) + digit (s.greater2 && is_first s.greater1.first j)

-- the greatest baseLevel of level j
abbrev pub greatest_base : Signs → ℕ → ℕ
greatest_base s j = if nat_lt j 8 then (if is_first s.greater1.first j then 3 else 2) else 1

-- whether level j of so many is negative: a hidden sign is that of an odd sum
abbrev pub is_negative : Signs → ℕ → ℕ → ℕ → Bool
is_negative s count j sum =
    if s.hidden
    then (if j + 1 == count then sum % 2 == 1 else bit_of s.signs (count - 2 - j))
    else bit_of s.signs (count - 1 - j)

-- a size with its sign
abbrev pub signed : Bool → ℕ → ℤ
signed true size = neg_ℤ (pos size)
signed false size = pos size

-- a level with its place in the block
abbrev pub level_of : SubBlock → Place → Bool → ℕ → Level
level_of sub p negative size = record { x = 4 * sub.x + p.0; y = 4 * sub.y + p.1; value = signed negative size }

-- level j, of a size that was read, behind others
abbrev pub sized_level : ResidualBlock → SubBlock → List ℕ → Signs → ℕ → ℕ → LevelState × Residual
    → Tree (LevelState × Residual)
sized_level block sub indices s j size before = do
  let sum = before.0.sum + size
  let negative = is_negative s (length indices) j sum
  in_range ← wanted (nat_le size (32767 + digit negative)) too_great
  give (
    record { rice = next_rice before.0.rice size; sum = sum },
    with_level before.1 (level_of sub (scan_place 2 block.scan (slice_index indices j)) negative size),
  )

-- level j of a sub-block behind others. One without coeff_abs_level_remaining is at most 2, and raises no cRiceParam.
abbrev pub level_at : ResidualBlock → SubBlock → List ℕ → Signs → ℕ → LevelState × Residual
    → Tree (LevelState × Residual)
level_at block sub indices s j before = do
  more ← when base_level s j == greatest_base s j then coeff_abs_level_remaining before.0.rice else give 0
  sized_level block sub indices s j (base_level s j + more) before

-- before the first level of a sub-block
abbrev pub first_state : LevelState
first_state = record { rice = 0; sum = 0 }

-- the levels of a sub-block behind those before
abbrev pub levels_from : ResidualBlock → SubBlock → List ℕ → Signs → Residual → Tree Residual
levels_from block sub indices s before = do
  done ← times 0 (length indices) (level_at block sub indices s) (first_state, before)
  give done.1
