-- Names of flight_views that crates above take from here.
pub use Rattle.flight_views.specs.Layouts.{IsLaidFor, StandsFor}
pub use Rattle.flight_views.specs.Views.{IsShared, IsViewOf}
pub use Rattle.flight_views.specs.declared.flight_views.FlightViews.{FlightViews}
