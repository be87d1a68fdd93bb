-- Which scaling lists a picture uses (7.4.3.2, 7.4.3.3).
use Rattle.std.specs.Prelude.{Option, Some, None, if◌then◌else◌}
use Rattle.std.specs.Option.{unwrap_or}
use Rattle.spec_reference_pictures.specs.HeaderTypes.{PpsFields}
use Rattle.spec_reference_pictures.specs.HeaderTypes.{ScalingLists}
use Rattle.spec_reference_pictures.specs.HeaderTypes.{SpsFields}
use Rattle.spec_parameter_sets.specs.Scaling.{default_lists}

-- the lists that scale a picture: those of its picture parameter set, or else of its sequence parameter set, or else
-- the default lists. There are none where scaling_list_enabled_flag is 0: each factor is 16 then.
unfoldable pub picture_scaling_lists : SpsFields → PpsFields → Option ScalingLists
picture_scaling_lists sps pps =
    if sps.tools.scaling_list_enabled_flag
    then Some (unwrap_or pps.scaling_lists (unwrap_or sps.tools.scaling_lists default_lists))
    else None
