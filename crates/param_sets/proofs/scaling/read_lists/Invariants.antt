use Rattle.std.proofs.Common.{◌≡◌, ◌-◌, length}
use Rattle.header_fields.proofs.Loops.{IsBefore}
use Rattle.spec_parameter_sets.specs.Scaling.{lists_behind, lists_of}
use Rattle.param_sets.proofs.scaling.read_lists.Given as goal

abbrev pub invariant-loop : goal.invariant-loop
invariant-loop l = record {
  at : IsBefore l.fn.reader l.reader (lists_behind l.size (l.count - l.counter) l.lists.items) (lists_of l.fn.size);
  places : length l.lists.items ≡ l.counter;
}
