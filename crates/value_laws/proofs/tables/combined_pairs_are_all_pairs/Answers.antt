use Rattle.std.proofs.Common.{refl}
use Rattle.value_laws.specs.Tables.{pairs, pairs_of, pairs_with}
use Rattle.value_laws.proofs.tables.combined_pairs_are_all_pairs.Goals as goal

pub returns : goal.returns
unfolding pairs pairs_of pairs_with
returns c = refl
