use Rattle.std.proofs.Common.{refl}
use Rattle.value_laws.specs.Tables.{is_nearest_root}
use Rattle.value_laws.proofs.tables.level_scales_are_sixth_roots.Goals as goal

pub returns : goal.returns
unfolding is_nearest_root
returns c = refl
