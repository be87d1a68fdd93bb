use Rattle.std.proofs.Common.{refl}
use Rattle.picture_filters.proofs.Fresh.{nothing_told}
use Rattle.picture_filters.proofs.given.UnitFilters.new.Goals as goal

pub returns-clause-places : goal.returns-clause-places
returns-clause-places c = nothing_told 256 _ refl
