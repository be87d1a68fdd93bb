use Rattle.unit_tree_laws.proofs.Stored.{second_stores, units_keep}
use Rattle.unit_tree_laws.proofs.laws.contexts_are_stored_behind_second_units.Goals as goal

pub returns-clause-behind : goal.returns-clause-behind
returns-clause-behind c = second_stores

pub returns-clause-kept : goal.returns-clause-kept
returns-clause-kept c = units_keep
