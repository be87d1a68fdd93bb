use Rattle.std.proofs.Common.{◌≡◌, map}
use Rattle.std.specs.List.{range_with_len}
use Rattle.spec_parameter_sets.specs.Scaling.{default_list}
use Rattle.param_sets.proofs.picture_scaling.default_lists_of.Given as goal

abbrev pub invariant-loop-matrix : goal.invariant-loop-matrix
invariant-loop-matrix l = l.lists.items ≡ map (default_list l.size) (range_with_len 0 l.matrix)
