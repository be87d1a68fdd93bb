use Rattle.std.proofs.Common.{◌-◌}
use Rattle.spec_formats.specs.Fields.{repeated}
use Rattle.header_fields.proofs.Loops.{IsBehind}
use Rattle.spec_parameter_sets.specs.ProfileTierLevel.{sub_layer_flags}
use Rattle.param_sets.proofs.profile.read_present.Given as goal

abbrev pub invariant-loop : goal.invariant-loop
invariant-loop l =
    IsBehind l.fn.reader l.reader l.present.items (repeated (l.count - l.counter) sub_layer_flags)
    (repeated l.count sub_layer_flags)
