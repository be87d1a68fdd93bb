use Rattle.std.proofs.Common.{drop}
use Rattle.header_fields.specs.SpecFormats.{read}
use Rattle.header_fields.proofs.SpecFormatsLemmas.{behind}
use Rattle.header_fields.proofs.Loops.{IsAt}
use Rattle.spec_reference_pictures.specs.ShortTermSets.{moved}
use Rattle.ref_picture_sets.proofs.short_term_predicted.read_moved.Given as goal

abbrev pub invariant-loop-entry : goal.invariant-loop-entry
invariant-loop-entry l =
    IsAt l.fn.reader.rules
    (λ bs. behind l.entries.items (read l.fn.reader.rules (moved l.fn.delta (drop l.entry-index l.source)) bs))
    (read l.fn.reader.rules (moved l.fn.delta l.source) l.fn.reader.bits) l.reader
