use Rattle.std.proofs.Common.{◌∙◌, ap, sym}
use Rattle.picture_filters.specs.declared.filter_place.FilterPlace.{FilterPlace}
use Rattle.picture_filters.proofs.Places.{new_at}
use Rattle.picture_filters.proofs.place_field.PlaceField.new.Goals as goal

pub returns-clause-places : goal.returns-clause-places
returns-clause-places c = new_at c.in_ok-places.places (c.in_ok-places.ensures.cells (λ copy e. e))

pub invariant_of-result : goal.invariant_of-result
invariant_of-result c = record {
  columns = c.in_ok-kept.ensures.sides.columns ∙ sym c.in_ok-places.ensures.sides.columns;
  rows = c.in_ok-kept.ensures.sides.rows ∙ sym c.in_ok-places.ensures.sides.rows;
  kept = λ x y. c.in_ok-kept.ensures.cells (λ copy e. e) x y
      ∙ sym (ap (λ (p : FilterPlace). p.place.kept)
      (new_at c.in_ok-places.places (c.in_ok-places.ensures.cells (λ copy e. e)) x y));
  clear = λ e x y. c.in_ok-kept.ensures.cells (λ copy e. e) x y;
}
