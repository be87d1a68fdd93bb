use Rattle.std.proofs.lemmas.Result.{err_from_is_err_and}
use Rattle.std.proofs.Common.{false}
use Rattle.header_fields.proofs.Loops.{each_is_loop, goes_on, refuses, ends}
use Rattle.spec_parameter_sets.specs.ProfileTierLevel.{sub_layer}
use Rattle.param_sets.proofs.profile.read_sub_layers.Goals as goal

pub loop-flags-preserved : goal.loop-flags-preserved
loop-flags-preserved c =
    rw c.in_ok-push.ensures.ok (goes_on
    (each_is_loop c.args.reader.now.rules sub_layer c.args.present.now (false, false)) c.loop-flags.flags-index
    c.loop-flags.sub_layers c.in_ok-read_sub_layer.field-0 _ c.loop-flags.reader c.read_sub_layer.new.reader
    c.loop-flags.invariant c.loop-flags-test.true c.in_ok-read_sub_layer.ensures)

pub returns-in_err-read_sub_layer : goal.returns-in_err-read_sub_layer
returns-in_err-read_sub_layer c =
    let p = err_from_is_err_and c.from_residual.result c.from_residual.ensures.1 in
    rw (p.1, p.2) (refuses (each_is_loop c.args.reader.now.rules sub_layer c.args.present.now (false, false))
    c.loop-flags.flags-index c.loop-flags.sub_layers c.in_err-read_sub_layer.field-0.0 _ c.loop-flags.reader
    c.read_sub_layer.new.reader c.loop-flags.invariant c.loop-flags-test.true c.in_err-read_sub_layer.ensures)

pub returns : goal.returns
returns c =
    ends (each_is_loop c.args.reader.now.rules sub_layer c.args.present.now (false, false)) c.loop-flags.flags-index
    c.loop-flags.sub_layers _ c.loop-flags.reader c.loop-flags.invariant c.loop-flags-test.false
