use Rattle.std.proofs.lemmas.Result.{err_from_is_err_and}
use Rattle.header_fields.proofs.Loops.{repeated_is_loop, goes_on, refuses, ends}
use Rattle.spec_parameter_sets.specs.ProfileTierLevel.{sub_layer_flags}
use Rattle.param_sets.proofs.profile.read_present.Goals as goal

pub loop-preserved : goal.loop-preserved
loop-preserved c =
    rw c.in_ok-push.ensures.items (goes_on (repeated_is_loop c.args.reader.now.rules sub_layer_flags c.args.count)
    c.loop.counter c.loop.present.items c.in_ok-read_sub_layer_flags.field-0 _ c.loop.reader
    c.read_sub_layer_flags.new.reader c.loop.invariant c.loop-test.true c.in_ok-read_sub_layer_flags.ensures)

pub returns-in_err-read_sub_layer_flags : goal.returns-in_err-read_sub_layer_flags
returns-in_err-read_sub_layer_flags c =
    let p = err_from_is_err_and c.from_residual.result c.from_residual.ensures.1 in
    rw (p.1, p.2) (refuses (repeated_is_loop c.args.reader.now.rules sub_layer_flags c.args.count) c.loop.counter
    c.loop.present.items c.in_err-read_sub_layer_flags.field-0.0 _ c.loop.reader c.read_sub_layer_flags.new.reader
    c.loop.invariant c.loop-test.true c.in_err-read_sub_layer_flags.ensures)

pub returns : goal.returns
returns c =
    ends (repeated_is_loop c.args.reader.now.rules sub_layer_flags c.args.count) c.loop.counter c.loop.present.items _
    c.loop.reader c.loop.invariant c.loop-test.false
