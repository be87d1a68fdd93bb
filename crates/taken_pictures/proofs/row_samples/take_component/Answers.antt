use Rattle.std.proofs.Common.{rules, ◌≡◌, ◌*◌, length, ap, ◌∙◌, cond}
use Rattle.hv_base.specs.declared.line.Phase.TheVariants.{S}
use Rattle.picture_buffer.specs.Planes.{plane_samples}
use Rattle.picture_buffer.proofs.Lent.{others_stay}
use Rattle.sample_lines.specs.FactsOfFlights.{flight_in}
use Rattle.sample_lines.specs.FactsOfFlights.{samples_at}
use Rattle.taken_pictures.specs.Rows.{is_line_of_row}
use Rattle.taken_pictures.proofs.Taken.{given_at, plane_high, plane_wide, stood_at}
use Rattle.taken_pictures.proofs.row_samples.take_component.Goals as goal

pub lay_component-requires-clause-whole : goal.lay_component-requires-clause-whole
lay_component-requires-clause-whole c =
    let p = c.args.planes.now in
    let s = c.args.layout.now in
    let n = c.args.c in
    let wide = plane_wide p s n c.requires.component c.requires.sides in
    let high = plane_high p s n c.requires.component c.requires.sides in
    c.samples_mut-plane.ensures.count ∙ (λ t. wide t * high t)

pub returns-clause-value : goal.returns-clause-value
returns-clause-value c = λ x y column line.
    let p = c.args.planes.now in
    let s = c.args.layout.now in
    let n = c.args.c in
    let few = c.requires.component in
    let sides = c.requires.sides in
    let same : length c.lay_component.new.plane ≡ length (plane_samples p n) = search rules in
    given_at p s n c.lay_component.new.plane few sides same x y column line
    ∙ (c.lay_component.ensures.value x y column line
    ∙ ap (cond (is_line_of_row s n c.args.at.now.line.row y)
    (samples_at (flight_in c.args.board.now.flight) c.args.at.now.line.picture S n x y))
    (stood_at p s n c.samples_mut-plane.result.now few sides c.samples_mut-plane.ensures.value x y column line))

pub returns-clause-others : goal.returns-clause-others
returns-clause-others c = others_stay c.args.planes.now c.args.c c.lay_component.new.plane
