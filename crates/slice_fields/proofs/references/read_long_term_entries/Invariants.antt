use Rattle.std.proofs.Common.{◌≡◌, length}
use Rattle.spec_slice_headers.specs.References.{long_term_entry}
use Rattle.slice_fields.proofs.Items.{AreReadBy}
use Rattle.slice_fields.proofs.references.read_long_term_entries.Given as goal

abbrev pub invariant-loop-i : goal.invariant-loop-i
invariant-loop-i l = record {
  read : AreReadBy (long_term_entry l.sps l.candidates l.num_long_term_sps) l.count l.i l.fn.reader l.entries l.reader;
  count : length l.entries ≡ l.i;
}
