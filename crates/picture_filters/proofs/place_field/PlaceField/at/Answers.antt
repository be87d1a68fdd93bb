use Rattle.std.proofs.Common.{◌∙◌, ap, sym}
use Rattle.picture_filters.specs.Places.{known_place}
use Rattle.picture_filters.proofs.Places.{known_at}
use Rattle.picture_filters.proofs.place_field.PlaceField.at.Goals as goal

pub returns : goal.returns
returns c =
    rw (← c.self.view_is) (c.place.ensures ∙ (ap known_place c.at.ensures
    ∙ sym (known_at c.self.inside.places c.args.x c.args.y)))
