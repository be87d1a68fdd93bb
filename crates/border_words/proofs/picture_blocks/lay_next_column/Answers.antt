use Rattle.std.proofs.Common.{◌≡◌, ℕ, ◌+◌, ◌*◌, ◌/◌, ◌^◌, ap, sym, ◌∙◌, subst, arith}
use Rattle.picture_layout.specs.declared.coding_tree_unit.CodingTreeUnit.{CodingTreeUnit}
use Rattle.spec_picture_trees.specs.Places.{unit_places}
use Rattle.spec_picture_trees.specs.Shapes.{picture_shape}
use Rattle.spec_flights.specs.Pictures.{folded_at}
use Rattle.row_borders.specs.Borders.{block_beneath}
use Rattle.sample_lines.specs.FactsOfFlights.{flight_in}
use Rattle.border_words.specs.Beneath.{HasColumn}
use Rattle.border_words.proofs.picture_blocks.lay_next_column.Goals as goal

pub returns-then-next_column-columns-clause-column : goal.returns-then-next_column-columns-clause-column
returns-then-next_column-columns-clause-column c = λ k end.
    let p = c.args.plan.now in
    let n : ℕ = unit_places (picture_shape p.sps p.pps) in
    let motions = (folded_at (flight_in c.args.board.now.flight) c.args.line.picture).motions in
    let side : c.side-side.result ≡ n =
    c.side-side.ensures.value
    ∙ (ap (λ (v : CodingTreeUnit). 2 ^ v.layout.size) c.unit-here.ensures ∙ c.requires.side) in
    let same : (c.side-side.result + 3) / 4 ≡ k = omega (arith, side, end) in
    subst
    (λ j. HasColumn c.lay_unit_column.new.border n j
    (λ row. motions (n * c.args.next) (n * c.args.line.row + 4 * row)))
    same c.lay_unit_column.ensures.column

pub returns-then-next_column-columns-clause-others : goal.returns-then-next_column-columns-clause-others
returns-then-next_column-columns-clause-others c = λ k row less.
    let p = c.args.plan.now in
    let side : c.side-side.result ≡ unit_places (picture_shape p.sps p.pps) =
    c.side-side.ensures.value
    ∙ (ap (λ (v : CodingTreeUnit). 2 ^ v.layout.size) c.unit-here.ensures ∙ c.requires.side) in
    c.lay_unit_column.ensures.others k row (λ e. omega (arith, side, less, e))

pub returns-else-next_column-columns-clause-column : goal.returns-else-next_column-columns-clause-column
returns-else-next_column-columns-clause-column c = λ k end row down.
    let p = c.args.plan.now in
    let n : ℕ = unit_places (picture_shape p.sps p.pps) in
    let side : c.side-side.result ≡ n =
    c.side-side.ensures.value
    ∙ (ap (λ (v : CodingTreeUnit). 2 ^ v.layout.size) c.unit-here.ensures ∙ c.requires.side) in
    let small = c.side-side.ensures.small in
    let same : k ≡ (c.side-side.result + 3) / 4 = omega (arith, side, end) in
    let wide = c.columns-columns.ensures.value in
    let past = c.if-next_column-columns.false in
    let told = c.from-next_column.ensures in
    ap (λ j. block_beneath c.lay_no_column.new.border j row) same
    ∙ (c.lay_no_column.ensures.column row (omega (arith, down, side, small))
    ∙ sym (c.places_outside_have_no_motion.ensures.beyond c.args.board.now.flight c.args.layout.now
    c.args.line.picture p c.args.next (n * c.args.line.row + 4 * row) c.requires.flight c.requires.picture
    (omega (arith, wide, past, told))))

pub returns-else-next_column-columns-clause-others : goal.returns-else-next_column-columns-clause-others
returns-else-next_column-columns-clause-others c = λ k row less.
    let p = c.args.plan.now in
    let side : c.side-side.result ≡ unit_places (picture_shape p.sps p.pps) =
    c.side-side.ensures.value
    ∙ (ap (λ (v : CodingTreeUnit). 2 ^ v.layout.size) c.unit-here.ensures ∙ c.requires.side) in
    c.lay_no_column.ensures.others k row (λ e. omega (arith, side, less, e))
