use Rattle.std.proofs.Common.{◌≡◌, ◌<◌, ℕ, length, sym, subst}
use Rattle.loop_filters.specs.Formats.{columns_of, rows_of}
use Rattle.picture_filters.specs.Filtering.{Viewed}
use Rattle.picture_filters.proofs.Units.{row_count}
use Rattle.picture_filters.proofs.view.PictureViewFilterView.units.Goals as goal

counted : goal.returns-clause-count
counted c =
    subst (λ (v : Viewed). length c.unit_row.result.now ≡ columns_of v.format) c.self.view_is
    (row_count c.self.inside.units.now c.unit_row.result.now _ _ c.args.row c.self.invariant.2
    (subst (λ (v : Viewed). c.args.row < rows_of v.format) (sym c.self.view_is) c.requires.row)
    c.unit_row.ensures.count)

pub returns-clause-count : goal.returns-clause-count
returns-clause-count c = counted c

pub returns-clause-units : goal.returns-clause-units
returns-clause-units c = λ u lt.
    let inside : u < length c.unit_row.result.now = subst (λ (n : ℕ). u < n) (sym (counted c)) lt in
    rw (← c.self.view_is) (c.unit_row.ensures.values u _ inside)
