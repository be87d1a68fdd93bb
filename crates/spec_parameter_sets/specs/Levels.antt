-- What the level of a sequence allows (A.4.1, A.4.2, Table A.8).
use Rattle.std.specs.Prelude.{◌≡◌, ℕ, ◌+◌, ◌*◌, ◌/◌, ◌<◌, ◌≤◌, Bool, true, ◌||◌, ◌==◌, Option, Some, None, nat_le}
use Rattle.std.specs.Prelude.{if◌then◌else◌}
use Rattle.hv_base.specs.declared.breach.Breach.{Breach}
use Rattle.hv_base.specs.declared.breach.Breach.TheVariants as breach
use Rattle.hv_base.specs.declared.fault.FaultKind.TheVariants as fault
use Rattle.hv_base.specs.declared.level.LevelMeasure.{LevelMeasure}
use Rattle.hv_base.specs.declared.level.LevelMeasure.TheVariants as measure
use Rattle.spec_reference_pictures.specs.SpecFormats.{wanted}
use Rattle.spec_reference_pictures.specs.SpecFormats.{Header, ◌>>=◌, give}
use Rattle.spec_parameter_sets.specs.declared.levels.Level.{Level}

abbrev pub level : ℕ → ℕ → Option Level
level max_luma_ps max_side = Some (record { max_luma_ps = max_luma_ps; max_side = max_side })

-- the level of a general_level_idc, thirty times its number; another number names none
unfoldable pub level_of : ℕ → Option Level
level_of idc =
    if idc == 30 then level 36864 543
    else if idc == 60 then level 122880 991
    else if idc == 63 then level 245760 1402
    else if idc == 90 then level 552960 2103
    else if idc == 93 then level 983040 2804
    else if (idc == 120) || (idc == 123) then level 2228224 4222
    else if (idc == 150) || ((idc == 153) || (idc == 156)) then level 8912896 8444
    else if (idc == 180) || ((idc == 183) || (idc == 186)) then level 35651584 16888
    else None

-- the greatest side is the greatest whole number whose square is at most 8 * MaxLumaPs
pub record HasGreatestSide (l : Level) : Type 0 where
  pub within : l.max_side * l.max_side ≤ 8 * l.max_luma_ps
  pub greatest : 8 * l.max_luma_ps < (l.max_side + 1) * (l.max_side + 1)

-- MaxDpbSize for pictures of this many luma samples
unfoldable pub max_dpb_size : ℕ → ℕ → ℕ
max_dpb_size max_luma_ps area =
    if nat_le area (max_luma_ps / 4) then 16
    else if nat_le area (max_luma_ps / 2) then 12
    else if nat_le area (3 * max_luma_ps / 4) then 8
    else 6

abbrev pub exceeded : LevelMeasure → ℕ → ℕ → Breach
exceeded what value limit = breach.Fault (fault.LevelExceeded what value limit)

-- the pictures of a sequence and how many it keeps, by what its level allows
unfoldable pub within_level : Level → ℕ → ℕ → ℕ → Header Bool
within_level l width height pictures = do
  area ← wanted (nat_le (width * height) l.max_luma_ps) (exceeded measure.Area (width * height) l.max_luma_ps)
  wide ← wanted (nat_le (width * width) (8 * l.max_luma_ps)) (exceeded measure.Width width l.max_side)
  high ← wanted (nat_le (height * height) (8 * l.max_luma_ps)) (exceeded measure.Height height l.max_side)
  few ←
      wanted (nat_le pictures (max_dpb_size l.max_luma_ps (width * height)))
      (exceeded measure.Buffer pictures (max_dpb_size l.max_luma_ps (width * height)))
  give true

-- a number that names no level allows all
abbrev pub within : Option Level → ℕ → ℕ → ℕ → Header Bool
within None width height pictures = give true
within (Some l) width height pictures = within_level l width height pictures

unfoldable pub level_kept : ℕ → ℕ → ℕ → ℕ → Header Bool
level_kept idc width height pictures = within (level_of idc) width height pictures
