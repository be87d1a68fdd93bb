-- profile_tier_level (7.3.3, 7.4.4).
use Rattle.std.specs.Prelude.{ℕ, zero, suc, ◌+◌, ◌-◌, ◌*◌, ◌/◌, ◌%◌, ◌^◌, Bool, true, false, not, ◌||◌, ◌==◌}
use Rattle.std.specs.Prelude.{if◌then◌else◌}
use Rattle.hv_base.specs.declared.breach.Breach.TheVariants as breach
use Rattle.hv_base.specs.declared.fault.FaultKind.TheVariants as fault
use Rattle.spec_reference_pictures.specs.HeaderTypes.{Profile}
use Rattle.spec_reference_pictures.specs.HeaderTypes.{ProfileTierLevel}
use Rattle.spec_reference_pictures.specs.HeaderTypes.{SubLayerProfile}
use Rattle.spec_reference_pictures.specs.SpecFormats.{wanted}
use Rattle.spec_reference_pictures.specs.SpecFormats.{Header, ◌>>=◌, give, u, flag, optional, repeated, each}

-- profile_compatibility_flag[1]: the second of 32, of which the first is the greatest bit
abbrev pub compatibility_flag_1 : ℕ → Bool
compatibility_flag_1 flags = flags / 2 ^ 30 % 2 == 1

-- profile_compatibility_flag[2], the third
abbrev pub compatibility_flag_2 : ℕ → Bool
compatibility_flag_2 flags = flags / 2 ^ 29 % 2 == 1

-- whether the stream conforms to the Main profile (A.3.2), by profile_idc and the compatibility flags
abbrev pub is_main : ℕ → ℕ → Bool
is_main profile_idc flags = (profile_idc == 1) || compatibility_flag_1 flags

-- whether it conforms to the Main 10 profile (A.3.3)
abbrev pub is_main_10 : ℕ → ℕ → Bool
is_main_10 profile_idc flags = (profile_idc == 2) || compatibility_flag_2 flags

-- the greatest bit depth of the profile, less 8
unfoldable pub greatest_depth_minus8 : Profile → ℕ
greatest_depth_minus8 p = if is_main_10 p.profile_idc p.profile_compatibility_flags then 2 else 0

-- reserved_zero_44bits, as their first 32 and their last 12
unfoldable pub reserved_44bits : Header ℕ
reserved_44bits = do
  high ← u 32
  low ← u 12
  give (high * 4096 + low)

-- the 88 bits of a profile, which is to be Main or Main 10 where it is the general one
unfoldable pub profile : Bool → Header Profile
profile is_general = do
  profile_space ← u 2
  tier_flag ← flag
  profile_idc ← u 5
  profile_compatibility_flags ← u 32
  decoded ←
      wanted
      (not is_general || is_main profile_idc profile_compatibility_flags
      || is_main_10 profile_idc profile_compatibility_flags)
      (breach.Fault fault.Profile)
  progressive_source_flag ← flag
  interlaced_source_flag ← flag
  non_packed_constraint_flag ← flag
  frame_only_constraint_flag ← flag
  reserved_zero_44bits ← reserved_44bits
  give (record {
    profile_space = profile_space;
    tier_flag = tier_flag;
    profile_idc = profile_idc;
    profile_compatibility_flags = profile_compatibility_flags;
    progressive_source_flag = progressive_source_flag;
    interlaced_source_flag = interlaced_source_flag;
    non_packed_constraint_flag = non_packed_constraint_flag;
    frame_only_constraint_flag = frame_only_constraint_flag;
    reserved_zero_44bits = reserved_zero_44bits;
  })

-- sub_layer_profile_present_flag and sub_layer_level_present_flag
unfoldable pub sub_layer_flags : Header (Bool × Bool)
sub_layer_flags = do
  profile_present ← flag
  level_present ← flag
  give (profile_present, level_present)

-- reserved_zero_2bits of the sub-layers that aren't there up to the eighth, where there are lower sub-layers
unfoldable pub reserved_2bits : ℕ → Header ℕ
reserved_2bits zero = give 0
reserved_2bits (suc n) = u (2 * (7 - n))

-- what is said of one sub-layer
unfoldable pub sub_layer : Bool × Bool → Header SubLayerProfile
sub_layer present = do
  profile ← optional present.0 (profile false)
  level_idc ← optional present.1 (u 8)
  give (record { profile = profile; level_idc = level_idc })

-- profile_tier_level(1, max_sub_layers_minus1)
unfoldable pub profile_tier_level : ℕ → Header ProfileTierLevel
profile_tier_level max_sub_layers_minus1 = do
  general ← profile true
  general_level_idc ← u 8
  present ← repeated max_sub_layers_minus1 sub_layer_flags
  reserved ← reserved_2bits max_sub_layers_minus1
  sub_layers ← each sub_layer present
  give (record {
    general = general;
    general_level_idc = general_level_idc;
    reserved_zero_2bits = reserved;
    sub_layers = sub_layers;
  })
