use Rattle.picture_filters.specs.Places.{places_of}
use Rattle.picture_filters.specs.Units.{units_of}
use Rattle.picture_filters.proofs.Gathered.{nothing}
use Rattle.picture_filters.proofs.picture.PictureFilters.new.Goals as goal

pub returns-clause-value : goal.returns-clause-value
returns-clause-value c =
    nothing (places_of c.in_ok-places.places) (units_of c.in_ok-units.units) c.in_ok-places.ensures.places
    c.in_ok-units.ensures.units
