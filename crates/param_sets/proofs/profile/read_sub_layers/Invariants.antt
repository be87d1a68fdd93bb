use Rattle.std.proofs.Common.{drop}
use Rattle.spec_formats.specs.Fields.{each}
use Rattle.header_fields.proofs.Loops.{IsBehind}
use Rattle.spec_parameter_sets.specs.ProfileTierLevel.{sub_layer}
use Rattle.param_sets.proofs.profile.read_sub_layers.Given as goal

abbrev pub invariant-loop-flags : goal.invariant-loop-flags
invariant-loop-flags l =
    IsBehind l.fn.reader l.reader l.sub_layers (each sub_layer (drop l.flags-index l.present))
    (each sub_layer l.present)
