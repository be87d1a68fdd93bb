use Rattle.std.proofs.Common.{refl}
use Rattle.value_laws.specs.Tables.{context_by_quarter}
use Rattle.value_laws.proofs.tables.significance_contexts_are_by_quarter.Goals as goal

pub returns : goal.returns
unfolding context_by_quarter
returns c = refl
