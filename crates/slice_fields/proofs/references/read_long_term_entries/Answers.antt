use Rattle.std.proofs.Common.{◌∷◌, [], length-append, arith}
use Rattle.spec_slice_headers.specs.References.{long_term_entry}
use Rattle.slice_fields.proofs.Items.{goes_on_by, stops_by}
use Rattle.slice_fields.proofs.references.read_long_term_entries.Goals as goal

pub returns-in_err-entry-clause-value : goal.returns-in_err-entry-clause-value
returns-in_err-entry-clause-value c =
    stops_by (long_term_entry c.args.sps.now c.args.candidates.now c.args.num_long_term_sps) c.args.count c.loop-i.i
    c.args.reader.now c.loop-i.entries c.loop-i.reader c.read_long_term_entry.new.reader c.in_err-entry.field-0.0 _
    c.loop-i.invariant.read c.loop-i-test.true c.in_err-entry.ensures c.from_residual.ensures.1

pub loop-i-preserved : goal.loop-i-preserved
loop-i-preserved c = record {
  read =
      rw c.in_ok-push.ensures.ok (goes_on_by
      (long_term_entry c.args.sps.now c.args.candidates.now c.args.num_long_term_sps) c.args.count c.loop-i.i
      c.args.reader.now c.loop-i.entries c.loop-i.reader c.read_long_term_entry.new.reader c.in_ok-entry.entry
      c.loop-i.invariant.read c.loop-i-test.true c.in_ok-entry.ensures);
  count = rw c.in_ok-push.ensures.ok (omega (arith, length-append c.loop-i.entries (c.in_ok-entry.entry ∷ [])));
}
