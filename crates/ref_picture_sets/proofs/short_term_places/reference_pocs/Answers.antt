use Rattle.std.proofs.Common.{arith}
use Rattle.ref_picture_sets.proofs.Growing.{lengths}
use Rattle.ref_picture_sets.proofs.short_term_places.reference_pocs.Goals as goal

pub returns-clause-each : goal.returns-clause-each
returns-clause-each c = grind (arith, lengths)
