use Rattle.spec_slice_headers.specs.InterFields.{list_entry}
use Rattle.slice_fields.proofs.Items.{AreRead}
use Rattle.slice_fields.proofs.inter_fields.read_list_entries.Given as goal

abbrev pub invariant-loop : goal.invariant-loop
invariant-loop l = AreRead (list_entry l.total) l.count l.counter l.fn.reader l.entries l.reader
