use Rattle.std.proofs.Common.{◌≡◌, ◌+◌, ◌-◌, ◌*◌, arith, ap, sym, ◌∙◌, subst}
use Rattle.std.proofs.Common.{take}
use Rattle.std.proofs.lemmas.List.{get_or-take, length-take-le}
use Rattle.hv_base.specs.declared.line.Phase.{Phase}
use Rattle.sample_words.specs.Contents.{component_side, unit_width}
use Rattle.sample_words.specs.declared.sizes.FlightSizes.{FlightSizes}
use Rattle.sample_words.specs.Sizes.{IsFlight, ctb_size, height_of, width_of}
use Rattle.sample_words.proofs.Bounds.{small_width}
use Rattle.spec_picture_build.specs.Border.{width_of as picture_width}
use Rattle.spec_picture_trees.specs.Shapes.{picture_shape}
use Rattle.spec_slice_data.specs.Segment.{PictureShape}
use Rattle.spec_flights.specs.Pictures.{folded_at}
use Rattle.row_borders.proofs.Laid.{line_stays}
use Rattle.sample_lines.specs.FactsOfFlights.{flight_in}
use Rattle.sample_lines.specs.FactsOfFlights.{IsOfFlight}
use Rattle.sample_lines.proofs.FactsOfFlights.{picture_sizes}
use Rattle.border_words.proofs.Built.{whole_height}
use Rattle.border_words.proofs.Lines.{few_samples, some_lines}
use Rattle.border_words.proofs.Lowest.{line_fits, line_laid}
use Rattle.border_words.proofs.Words.{unit_high, unit_wide}
use Rattle.border_words.proofs.lowest_lines.lay_line.Goals as goal

pub overflow_sub-lowest : goal.overflow_sub-lowest
overflow_sub-lowest c =
    let u = c.args.at.now in
    let p = c.args.plan.now in
    let facts = c.args.board.now.flight in
    let tree = c.requires.unit in
    let sized = picture_sizes facts u.sizes u.line.picture p tree.flight tree.picture in
    let high = unit_high u c.args.layout.now c.line-line.result c.unit_shape-shape.result.height c.requires.place
    c.line-line.ensures.value c.unit_shape-shape.ensures.height in
    let side : c.ctb_size-side.result ≡ ctb_size u.sizes =
    c.ctb_size-side.ensures.value ∙ ap (λ (s : FlightSizes). ctb_size s) (sym c.requires.place) in
    let least = c.ctb_size-side.ensures.least in
    let whole = whole_height facts u p tree sized
    (c.words_are_of_kept_places.ensures.down facts u p tree c.requires.below) in
    let some = some_lines c.args.c (height_of u.sizes u.line.row) (omega (arith, whole, side, least)) in
    let height = c.component_side-height.ensures ∙ ap (component_side c.args.c) high in
    omega (arith, some, height)

pub read_line-requires-clause-line : goal.read_line-requires-clause-line
read_line-requires-clause-line c =
    let u = c.args.at.now in
    let p = c.args.plan.now in
    let facts = c.args.board.now.flight in
    let tree = c.requires.unit in
    let sized = picture_sizes facts u.sizes u.line.picture p tree.flight tree.picture in
    let high = unit_high u c.args.layout.now c.line-line.result c.unit_shape-shape.result.height c.requires.place
    c.line-line.ensures.value c.unit_shape-shape.ensures.height in
    let side : c.ctb_size-side.result ≡ ctb_size u.sizes =
    c.ctb_size-side.ensures.value ∙ ap (λ (s : FlightSizes). ctb_size s) (sym c.requires.place) in
    let least = c.ctb_size-side.ensures.least in
    let whole = whole_height facts u p tree sized
    (c.words_are_of_kept_places.ensures.down facts u p tree c.requires.below) in
    let some = some_lines c.args.c (height_of u.sizes u.line.row) (omega (arith, whole, side, least)) in
    let height = c.component_side-height.ensures ∙ ap (component_side c.args.c) high in
    omega (arith, some, height)

pub read_line-requires-clause-few : goal.read_line-requires-clause-few
read_line-requires-clause-few c =
    let u = c.args.at.now in
    let wide = unit_wide u c.args.layout.now c.line-line.result c.unit-unit.result c.from-column.result
    c.unit_shape-shape.result.width c.requires.place c.line-line.ensures.value c.unit-unit.ensures.value
    c.from-column.ensures c.requires.unit.phase c.unit_shape-shape.ensures.width in
    let flight : IsFlight u.sizes = subst IsFlight (sym c.requires.place) c.ctb_size-side.ensures.in_range in
    let few = few_samples c.args.c (width_of u.sizes u.unit) (small_width u.sizes u.unit flight) in
    let width = c.component_side-width.ensures ∙ ap (component_side c.args.c) wide in
    omega (arith, few, width)

pub read_line-requires-clause-inside : goal.read_line-requires-clause-inside
read_line-requires-clause-inside c =
    let u = c.args.at.now in
    let wide = unit_wide u c.args.layout.now c.line-line.result c.unit-unit.result c.from-column.result
    c.unit_shape-shape.result.width c.requires.place c.line-line.ensures.value c.unit-unit.ensures.value
    c.from-column.ensures c.requires.unit.phase c.unit_shape-shape.ensures.width in
    let width = c.component_side-width.ensures ∙ ap (component_side c.args.c) wide in
    let here : component_side c.args.c (unit_width u.sizes u.line.phase u.unit)
    ≡ component_side c.args.c (width_of u.sizes u.unit) =
    ap (λ (phase : Phase). component_side c.args.c (unit_width u.sizes phase u.unit)) c.requires.unit.phase in
    omega (arith, width, here)

pub lay_line_above-requires-clause-inside : goal.lay_line_above-requires-clause-inside
lay_line_above-requires-clause-inside c =
    let u = c.args.at.now in
    let p = c.args.plan.now in
    let facts = c.args.board.now.flight in
    let tree = c.requires.unit in
    let sized = picture_sizes facts u.sizes u.line.picture p tree.flight tree.picture in
    let flight : IsFlight u.sizes = subst IsFlight (sym c.requires.place) c.ctb_size-side.ensures.in_range in
    let side : c.ctb_size-side.result ≡ ctb_size u.sizes =
    c.ctb_size-side.ensures.value ∙ ap (λ (s : FlightSizes). ctb_size s) (sym c.requires.place) in
    let least = c.ctb_size-side.ensures.least in
    let wide = unit_wide u c.args.layout.now c.line-line.result c.unit-unit.result c.from-column.result
    c.unit_shape-shape.result.width c.requires.place c.line-line.ensures.value c.unit-unit.ensures.value
    c.from-column.ensures c.requires.unit.phase c.unit_shape-shape.ensures.width in
    let left : c.unit-unit.result * c.ctb_size-side.result ≡ u.unit * ctb_size u.sizes =
    λ t. c.unit-unit.ensures.value t * side t in
    let fits = line_fits facts u p tree sized flight (omega (arith, side, least)) c.args.c c.component_side-left.result
    c.component_side-width.result (c.component_side-left.ensures ∙ ap (component_side c.args.c) left)
    (c.component_side-width.ensures ∙ ap (component_side c.args.c) wide) in
    let room : picture_width c.args.border.now.unit.layout c.args.c
    ≡ picture_width (picture_shape p.sps p.pps) c.args.c =
    ap (λ (s : PictureShape). picture_width s c.args.c) c.requires.border in
    omega (arith, fits, room)

pub returns-clause-line : goal.returns-clause-line
returns-clause-line c =
    let u = c.args.at.now in
    let p = c.args.plan.now in
    let facts = c.args.board.now.flight in
    let tree = c.requires.unit in
    let sized = picture_sizes facts u.sizes u.line.picture p tree.flight tree.picture in
    let flight : IsFlight u.sizes = subst IsFlight (sym c.requires.place) c.ctb_size-side.ensures.in_range in
    let side : c.ctb_size-side.result ≡ ctb_size u.sizes =
    c.ctb_size-side.ensures.value ∙ ap (λ (s : FlightSizes). ctb_size s) (sym c.requires.place) in
    let least = c.ctb_size-side.ensures.least in
    let high = unit_high u c.args.layout.now c.line-line.result c.unit_shape-shape.result.height c.requires.place
    c.line-line.ensures.value c.unit_shape-shape.ensures.height in
    let wide = unit_wide u c.args.layout.now c.line-line.result c.unit-unit.result c.from-column.result
    c.unit_shape-shape.result.width c.requires.place c.line-line.ensures.value c.unit-unit.ensures.value
    c.from-column.ensures c.requires.unit.phase c.unit_shape-shape.ensures.width in
    let left : c.unit-unit.result * c.ctb_size-side.result ≡ u.unit * ctb_size u.sizes =
    λ t. c.unit-unit.ensures.value t * side t in
    let height = c.component_side-height.ensures ∙ ap (component_side c.args.c) high in
    let few = few_samples c.args.c (width_of u.sizes u.unit) (small_width u.sizes u.unit flight) in
    let width = c.component_side-width.ensures ∙ ap (component_side c.args.c) wide in
    let long = c.read_line.ensures.long in
    line_laid facts u p tree sized flight (omega (arith, side, least)) c.args.c c.args.border.now.above
    c.lay_line_above.new.border.above c.component_side-left.result c.component_side-width.result
    (c.component_side-height.result - 1) (take c.component_side-width.result c.read_line.new.out)
    (c.words_are_of_kept_places.ensures.down facts u p tree c.requires.below)
    (c.component_side-left.ensures ∙ ap (component_side c.args.c) left) width
    (length-take-le c.component_side-width.result c.read_line.new.out (omega (arith, few, width, long)))
    (ap (λ h. h - 1) height)
    (λ k less.
    get_or-take c.component_side-width.result c.read_line.new.out k 0 less ∙ c.read_line.ensures.value k less)
    c.lay_line_above.ensures.line

pub read_line-requires-clause-flight : goal.read_line-requires-clause-flight
read_line-requires-clause-flight c =
    subst (λ (s : FlightSizes). IsOfFlight c.args.board.now.flight s) c.requires.place c.requires.unit.flight

pub returns-clause-others : goal.returns-clause-others
returns-clause-others c = λ i end other.
    line_stays (picture_shape c.args.plan.now.sps c.args.plan.now.pps) (c.args.at.now.line.row + 1)
    c.args.border.now.above c.lay_line_above.new.border.above
    (folded_at (flight_in c.args.board.now.flight) c.args.at.now.line.picture) c.args.c
    c.component_side-left.result _ c.lay_line_above.ensures.line i end other

pub lay_line_above-requires-clause-few : goal.lay_line_above-requires-clause-few
lay_line_above-requires-clause-few c =
    let u = c.args.at.now in
    let wide = unit_wide u c.args.layout.now c.line-line.result c.unit-unit.result c.from-column.result
    c.unit_shape-shape.result.width c.requires.place c.line-line.ensures.value c.unit-unit.ensures.value
    c.from-column.ensures c.requires.unit.phase c.unit_shape-shape.ensures.width in
    let flight : IsFlight u.sizes = subst IsFlight (sym c.requires.place) c.ctb_size-side.ensures.in_range in
    let few = few_samples c.args.c (width_of u.sizes u.unit) (small_width u.sizes u.unit flight) in
    let width = c.component_side-width.ensures ∙ ap (component_side c.args.c) wide in
    omega (arith, few, width)
