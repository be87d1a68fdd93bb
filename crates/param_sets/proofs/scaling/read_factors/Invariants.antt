use Rattle.std.proofs.Common.{◌-◌}
use Rattle.header_fields.proofs.Loops.{IsBehind}
use Rattle.spec_parameter_sets.specs.Scaling.{coded_factors}
use Rattle.param_sets.proofs.scaling.read_factors.Given as goal

abbrev pub invariant-loop : goal.invariant-loop
invariant-loop l =
    IsBehind l.fn.reader l.reader l.factors.items (coded_factors (l.count - l.counter) l.next)
    (coded_factors l.count l.fn.first)
