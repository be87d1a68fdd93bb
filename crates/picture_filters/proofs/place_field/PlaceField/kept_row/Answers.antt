use Rattle.std.proofs.Common.{false, rules}
use Rattle.picture_filters.specs.Places.{known_places}
use Rattle.picture_filters.proofs.Places.{kept_row}
use Rattle.picture_filters.proofs.place_field.PlaceField.kept_row.Goals as goal

pub returns-clause-flags : goal.returns-clause-flags
returns-clause-flags c =
    rw (← c.self.view_is) (kept_row (known_places c.self.inside.places) c.self.inside.kept c.self.inside.flagged
    c.rows.result.now c.args.side c.args.row _ c.self.invariant (search rules) c.rows.ensures.count
    (λ x j. c.rows.ensures.cells false false x j))
