use Rattle.std.proofs.lemmas.Result.{err_from_is_err_and}
use Rattle.spec_formats.proofs.Lists.{length-push, All-push}
use Rattle.header_fields.proofs.Loops.{repeated_is_loop, goes_on, refuses, ends}
use Rattle.header_types.specs.SequenceParameterSets.{IsSubLayerOrdering}
use Rattle.spec_parameter_sets.specs.SequenceParameterSet.{sub_layer_ordering}
use Rattle.param_sets.proofs.sub_layers.read_orderings.Goals as goal

pub loop-preserved : goal.loop-preserved
loop-preserved c = rw c.in_ok-push.ensures.ok (record {
  at =
      goes_on (repeated_is_loop c.args.reader.now.rules sub_layer_ordering c.args.count) c.loop.counter c.loop.orderings
      c.in_ok-read_sub_layer_ordering.field-0 _ c.loop.reader c.read_sub_layer_ordering.new.reader c.loop.invariant.at
      c.loop-test.true c.in_ok-read_sub_layer_ordering.ensures.value;
  len = length-push c.loop.orderings c.in_ok-read_sub_layer_ordering.field-0 c.loop.counter c.loop.invariant.len;
  in_range =
      All-push IsSubLayerOrdering c.loop.orderings c.in_ok-read_sub_layer_ordering.field-0 c.loop.invariant.in_range
      c.in_ok-read_sub_layer_ordering.ensures.in_range;
})

pub returns-in_err-read_sub_layer_ordering-clause-value : goal.returns-in_err-read_sub_layer_ordering-clause-value
returns-in_err-read_sub_layer_ordering-clause-value c =
    let p = err_from_is_err_and c.from_residual.result c.from_residual.ensures.1 in
    rw (p.1, p.2) (refuses (repeated_is_loop c.args.reader.now.rules sub_layer_ordering c.args.count) c.loop.counter
    c.loop.orderings c.in_err-read_sub_layer_ordering.field-0.0 _ c.loop.reader c.read_sub_layer_ordering.new.reader
    c.loop.invariant.at c.loop-test.true c.in_err-read_sub_layer_ordering.ensures.value)

pub returns-clause-value : goal.returns-clause-value
returns-clause-value c =
    ends (repeated_is_loop c.args.reader.now.rules sub_layer_ordering c.args.count) c.loop.counter c.loop.orderings _
    c.loop.reader c.loop.invariant.at c.loop-test.false
