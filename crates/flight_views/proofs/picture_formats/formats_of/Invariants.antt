use Rattle.std.proofs.Common.{◌≡◌, length}
use Rattle.flight_views.specs.Views.{EachHas}
use Rattle.flight_views.proofs.picture_formats.formats_of.Given as goal

abbrev pub invariant-loop-place : goal.invariant-loop-place
invariant-loop-place l = (length l.formats.items ≡ l.place) × EachHas l.plans l.formats.items
