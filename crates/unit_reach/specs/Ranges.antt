-- The rows that a prediction unit reaches, as a list.
use Rattle.std.specs.Prelude.{List, [], ◌∷◌, ◌++◌, Option, Some, None}
use Rattle.flight_plan.specs.declared.row_range.RowRange.{RowRange}
use Rattle.unit_reach.specs.declared.reach.ItemReach.{ItemReach}

abbrev pub one : Option RowRange → List RowRange
one None = []
one (Some range) = range ∷ []

-- by list 0 before list 1
abbrev pub ranges_of : ItemReach → List RowRange
ranges_of r = one r.list_0 ++ one r.list_1
