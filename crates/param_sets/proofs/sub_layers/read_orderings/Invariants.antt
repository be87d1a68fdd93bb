use Rattle.std.proofs.Common.{◌≡◌, ◌-◌, All, length}
use Rattle.spec_formats.specs.Fields.{repeated}
use Rattle.header_fields.proofs.Loops.{IsBehind}
use Rattle.header_types.specs.SequenceParameterSets.{IsSubLayerOrdering}
use Rattle.spec_parameter_sets.specs.SequenceParameterSet.{sub_layer_ordering}
use Rattle.param_sets.proofs.sub_layers.read_orderings.Given as goal

abbrev pub invariant-loop : goal.invariant-loop
invariant-loop l = record {
  at : IsBehind l.fn.reader l.reader l.orderings (repeated (l.count - l.counter) sub_layer_ordering)
      (repeated l.count sub_layer_ordering);
  len : length l.orderings ≡ l.counter;
  in_range : All IsSubLayerOrdering l.orderings;
}
