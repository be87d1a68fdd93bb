use Rattle.std.proofs.Common.{rules, ◌≡◌, ◌+◌, ◌*◌, ◌/◌, ◌<◌, ℕ, false, get_or, subst}
use Rattle.row_filters.specs.Around.{Around, place_in}
use Rattle.row_filters.proofs.Around.{none_above, row_kept}
use Rattle.row_filters.proofs.row_places.RowPlaces.kept_row.Goals as goal

pub returns-then-row-self : goal.returns-then-row-self
returns-then-row-self c =
    subst
    (λ (v : Around). (i j : ℕ) → i < v.format.width / 4 → j < v.format.ctb_size / 4
    → false ≡ (place_in v i (v.format.ctb_size / 4 * c.args.row + j)).kept)
    c.self.view_is
    (none_above
    (record {
      format = c.self.inside.format;
      above = c.self.inside.above;
      places = c.self.inside.places;
      units = c.self.inside.units;
    })
    c.args.row c.if-row-self.true)

pub returns-else-row-self : goal.returns-else-row-self
returns-else-row-self c =
    subst
    (λ (v : Around). (i j : ℕ) → i < v.format.width / 4 → j < v.format.ctb_size / 4
    → get_or c.rows.result.now (v.format.width / 4 * j + i) false
    ≡ (place_in v i (v.format.ctb_size / 4 * c.args.row + j)).kept)
    c.self.view_is
    (row_kept
    (record {
      format = c.self.inside.format;
      above = c.self.inside.above;
      places = c.self.inside.places;
      units = c.self.inside.units;
    })
    c.self.inside.kept c.rows.result.now c.args.row (search rules) c.self.invariant.sides c.self.invariant.kept
    c.rows.ensures.count (λ x j. c.rows.ensures.cells false false x j))
