use Rattle.spec_slice_headers.specs.Weights.{weights_at}
use Rattle.slice_fields.proofs.Items.{goes_on_by, stops_by}
use Rattle.slice_fields.proofs.weights.read_each_weights.Goals as goal

pub returns-in_err-entry : goal.returns-in_err-entry
returns-in_err-entry c =
    let answer = rw (c.flag_at-has_luma.ensures, c.flag_at-has_chroma.ensures) at c.in_err-entry.ensures in
    stops_by (weights_at c.args.lumas.now c.args.chromas.now) c.args.count c.loop-i.i c.args.reader.now c.loop-i.weights
    c.loop-i.reader c.read_entry_weights.new.reader c.in_err-entry.field-0.0 _ c.loop-i.invariant c.loop-i-test.true
    answer c.from_residual.ensures.1

pub loop-i-preserved : goal.loop-i-preserved
loop-i-preserved c =
    let answer = rw (c.flag_at-has_luma.ensures, c.flag_at-has_chroma.ensures) at c.in_ok-entry.ensures in
    rw c.in_ok-push.ensures.ok (goes_on_by (weights_at c.args.lumas.now c.args.chromas.now) c.args.count c.loop-i.i
    c.args.reader.now c.loop-i.weights c.loop-i.reader c.read_entry_weights.new.reader c.in_ok-entry.entry
    c.loop-i.invariant c.loop-i-test.true answer)
