use Rattle.std.proofs.Common.{◌≡◌, ◌<◌, ℕ, subst, ap, ◌∙◌}
use Rattle.std.specs.Prelude.{min}
use Rattle.loop_filters.specs.Formats.{columns_of}
use Rattle.sao_filter.specs.Row.{no_unit as outside, unit_in as unit_of}
use Rattle.row_filters.specs.Around.{Around, no_unit, unit_in}
use Rattle.row_filters.proofs.Around.{row_units}
use Rattle.row_filters.proofs.row_places.RowPlacesFilterView.units.Goals as goal

pub returns-clause-units : goal.returns-clause-units
returns-clause-units c =
    subst
    (λ (v : Around). (u : ℕ) → u < columns_of v.format
    → unit_of c.rows.result.now u ≡ unit_in v c.args.c u c.args.row)
    c.self.view_is
    (row_units
    (record {
      format = c.self.inside.format;
      above = c.self.inside.above;
      places = c.self.inside.places;
      units = c.self.inside.units;
    })
    c.rows.result.now c.args.c c.args.row c.min-slot.result outside c.self.invariant.units c.requires.component
    (c.min-slot.ensures ∙ ap (λ n. min n 2) c.saturating_sub.ensures)
    (λ x j. c.rows.ensures.cells outside no_unit x j))
