use Rattle.std.proofs.Common.{rules, ◌≡◌, ◌∙◌, length, ap}
use Rattle.deblock.specs.Windows.{at}
use Rattle.picture_buffer.specs.Planes.{plane_samples, samples_of}
use Rattle.picture_buffer.proofs.Lent.{others_stay}
use Rattle.loop_filters.specs.Formats.{filters_of}
use Rattle.loop_filters.specs.Rows.{filtered_of}
use Rattle.loop_filters.proofs.Copied.{bounded_by}
use Rattle.loop_filters.proofs.Final.{final_is}
use Rattle.loop_filters.proofs.Lent.{given_is, lent_count, lent_is}
use Rattle.loop_filters.proofs.joining.filter_plane.Goals as goal

pub filter_rows-requires-clause-bounded : goal.filter_rows-requires-clause-bounded
filter_rows-requires-clause-bounded g c =
    bounded_by c.args.component.now.width c.args.component.now.height _ c.samples_mut-samples.result.now
    (samples_of c.args.planes.now c.args.component.now.c)
    (lent_count c.args.planes.now c.args.format.now c.args.component.now _ c.requires.component c.requires.sides
    c.samples_mut-samples.ensures.count)
    (lent_is c.args.planes.now c.args.format.now c.args.component.now _ c.requires.component c.requires.sides
    c.samples_mut-samples.ensures.value)
    (λ x y _ _. c.requires.bounded x y)

pub returns-clause-value : goal.returns-clause-value
returns-clause-value g c = λ x y a b.
    let same : length c.filter_rows.new.samples ≡ length (plane_samples c.args.planes.now c.args.component.now.c) =
    search rules in
    given_is c.args.planes.now c.args.format.now c.args.component.now c.filter_rows.new.samples c.requires.component
    c.requires.sides same x y a b
    ∙ c.filter_rows.ensures x y a b
    ∙ ap (λ f. filtered_of f c.args.component.now (g.V.PlaceView.place_at c.args.view.now)
    (g.V.FilterView.unit_at c.args.view.now) (at c.args.component.now.width c.samples_mut-samples.result.now) x y)
    c.requires.shape
    ∙ final_is
    (filters_of c.args.format.now (g.V.PlaceView.place_at c.args.view.now) (g.V.FilterView.unit_at c.args.view.now))
    c.args.component.now (samples_of c.args.planes.now)
    c.samples_mut-samples.result.now c.requires.component
    (lent_is c.args.planes.now c.args.format.now c.args.component.now _ c.requires.component c.requires.sides
    c.samples_mut-samples.ensures.value)
    x y a b

pub returns-clause-others : goal.returns-clause-others
returns-clause-others g c = others_stay c.args.planes.now c.args.component.now.c c.filter_rows.new.samples
