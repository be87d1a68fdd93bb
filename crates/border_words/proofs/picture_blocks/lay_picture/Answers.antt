use Rattle.std.proofs.Common.{◌≡◌, ℕ, ◌*◌, ap, sym, ◌∙◌, arith}
use Rattle.picture_layout.specs.declared.coding_tree_unit.CodingTreeUnit.{CodingTreeUnit}
use Rattle.spec_slice_data.specs.Segment.{column_of}
use Rattle.spec_picture_trees.specs.Places.{unit_places}
use Rattle.spec_picture_trees.specs.Shapes.{picture_shape}
use Rattle.sample_words.specs.Sizes.{columns}
use Rattle.sample_words.specs.Words.{line_number}
use Rattle.spec_flights.specs.Pictures.{folded_at}
use Rattle.progress_words.specs.Passes.{view}
use Rattle.row_borders.specs.Borders.{Bordering}
use Rattle.line_words.specs.Places.{UnitAt}
use Rattle.line_words.proofs.Words.{knows_as_much}
use Rattle.sample_lines.specs.FactsOfFlights.{flight_in}
use Rattle.border_words.proofs.Blocks.{same_beneath, two_units}
use Rattle.border_words.proofs.Passes.{stays_counted, stays_own}
use Rattle.border_words.proofs.Trees.{column_of_blocks, has_unit, side_of_blocks, tree_at, unit_seen}
use Rattle.border_words.proofs.picture_blocks.lay_picture.Goals as goal

pub new-at-requires-clause-unit : goal.new-at-requires-clause-unit
new-at-requires-clause-unit c =
    let below = c.column-column.ensures.below in
    let wide = ap (λ (v : CodingTreeUnit). v.layout.width) c.unit-unit.ensures in
    let all = c.requires.width in
    has_unit c.args.layout.now c.args.line c.column-column.result c.requires.phase (omega (arith, below, wide, all))

pub new-blocks-requires-clause-place : goal.new-blocks-requires-clause-place
new-blocks-requires-clause-place c = ap (λ (a : UnitAt). a.sizes) c.new-at.ensures

pub new-blocks-requires-clause-phase : goal.new-blocks-requires-clause-phase
new-blocks-requires-clause-phase c = ap (λ (a : UnitAt). a.line.phase) c.new-at.ensures ∙ c.requires.phase

pub lay_unit_blocks-requires-clause-blocks : goal.lay_unit_blocks-requires-clause-blocks
lay_unit_blocks-requires-clause-blocks c =
    let facts = c.args.board.now.flight in
    let below = c.column-column.ensures.below in
    let wide = ap (λ (v : CodingTreeUnit). v.layout.width) c.unit-unit.ensures in
    let all = c.requires.width in
    c.new-blocks.ensures.unit facts
    (tree_at facts c.args.layout.now c.args.line c.args.plan.now c.column-column.result c.new-at.result c.new-at.ensures
    c.requires.flight c.requires.line c.requires.phase c.requires.picture (omega (arith, below, wide, all))
    c.requires.sound)

pub lay_unit_blocks-requires-clause-seen : goal.lay_unit_blocks-requires-clause-seen
lay_unit_blocks-requires-clause-seen c =
    let facts = c.args.board.now.flight in
    let below = c.column-column.ensures.below in
    let wide = ap (λ (v : CodingTreeUnit). v.layout.width) c.unit-unit.ensures in
    let all = c.requires.width in
    unit_seen facts c.args.layout.now c.args.line c.args.plan.now c.column-column.result c.new-blocks.result.at.now
    (c.new-blocks.ensures.at ∙ c.new-at.ensures) (view c.args.pass.now) (omega (arith, below, wide, all))
    c.requires.seen

pub lay_next_column-requires-clause-own : goal.lay_next_column-requires-clause-own
lay_next_column-requires-clause-own c =
    stays_own c.args.pass.now c.lay_unit_blocks.new.pass c.lay_unit_blocks.ensures.pass c.args.board.now
    c.requires.own

pub lay_next_column-requires-clause-seen : goal.lay_next_column-requires-clause-seen
lay_next_column-requires-clause-seen c =
    stays_counted c.args.pass.now c.lay_unit_blocks.new.pass c.lay_unit_blocks.ensures.pass
    (line_number c.args.layout.now c.args.line) (columns c.args.layout.now) c.requires.seen

pub lay_next_column-requires-clause-side : goal.lay_next_column-requires-clause-side
lay_next_column-requires-clause-side c =
    ap (λ (b : Bordering). unit_places b.unit.layout) c.lay_unit_blocks.ensures.same ∙ c.requires.side

pub returns-clause-beneath : goal.returns-clause-beneath
returns-clause-beneath c =
    let facts = c.args.board.now.flight in
    let s = c.args.layout.now in
    let line = c.args.line in
    let p = c.args.plan.now in
    let x : ℕ = c.column-column.result in
    let n : ℕ = unit_places (picture_shape p.sps p.pps) in
    let old = c.args.border.now in
    let mid = c.lay_unit_blocks.new.border in
    let new = c.lay_next_column.new.border in
    let motions = (folded_at (flight_in facts) line.picture).motions in
    let below = c.column-column.ensures.below in
    let wide = ap (λ (v : CodingTreeUnit). v.layout.width) c.unit-unit.ensures in
    let all = c.requires.width in
    let tree = tree_at facts s line p x c.new-at.result c.new-at.ensures c.requires.flight c.requires.line
    c.requires.phase c.requires.picture (omega (arith, below, wide, all)) c.requires.sound in
    let blocks = c.new-blocks.ensures.unit facts tree in
    let side = side_of_blocks facts s line p x c.new-at.result c.new-at.ensures c.new-blocks.result blocks
    c.new-blocks.ensures.plan c.new-blocks.ensures.at in
    let column : column_of old.unit.layout old.unit.address ≡ x =
    sym (c.column-column.ensures.value ∙ ap (λ (v : CodingTreeUnit). column_of v.layout v.address) c.unit-unit.ensures)
    in
    two_units old mid new motions n x line.row (sym c.requires.side) (λ t. c.requires.side t * column t)
    (λ t. c.requires.side t * c.requires.row t)
    (same_beneath old mid new c.lay_unit_blocks.ensures.same c.lay_next_column.ensures.same)
    (λ k across.
    column_of_blocks facts s line p x c.new-at.result c.new-at.ensures c.new-blocks.result blocks
    c.new-blocks.ensures.plan c.new-blocks.ensures.at mid k (4 * k)
    (c.lay_unit_blocks.ensures.columns k (omega (arith, across, side))))
    c.lay_next_column.ensures.others c.lay_next_column.ensures.column

pub returns-clause-same : goal.returns-clause-same
returns-clause-same c =
    same_beneath c.args.border.now c.lay_unit_blocks.new.border c.lay_next_column.new.border
    c.lay_unit_blocks.ensures.same c.lay_next_column.ensures.same

pub returns-clause-pass : goal.returns-clause-pass
returns-clause-pass c =
    knows_as_much c.args.pass.now c.lay_unit_blocks.new.pass c.lay_next_column.new.pass
    c.lay_unit_blocks.ensures.pass c.lay_next_column.ensures.pass
