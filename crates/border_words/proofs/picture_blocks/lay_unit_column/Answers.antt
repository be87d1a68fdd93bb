use Rattle.std.proofs.Common.{◌≡◌, ℕ, ◌+◌, ◌*◌, ap, ◌∙◌, arith}
use Rattle.spec_picture_trees.specs.Places.{unit_places}
use Rattle.spec_picture_trees.specs.Shapes.{picture_shape}
use Rattle.spec_flights.specs.Pictures.{folded_at}
use Rattle.progress_words.specs.Passes.{view}
use Rattle.line_words.specs.Places.{UnitAt}
use Rattle.sample_lines.specs.FactsOfFlights.{flight_in}
use Rattle.border_words.proofs.Trees.{column_of_blocks, has_unit, tree_at, unit_seen}
use Rattle.border_words.proofs.picture_blocks.lay_unit_column.Goals as goal

pub new-at-requires-clause-unit : goal.new-at-requires-clause-unit
new-at-requires-clause-unit c = has_unit c.args.layout.now c.args.line c.args.unit c.requires.phase c.requires.unit

pub new-blocks-requires-clause-place : goal.new-blocks-requires-clause-place
new-blocks-requires-clause-place c = ap (λ (a : UnitAt). a.sizes) c.new-at.ensures

pub new-blocks-requires-clause-phase : goal.new-blocks-requires-clause-phase
new-blocks-requires-clause-phase c = ap (λ (a : UnitAt). a.line.phase) c.new-at.ensures ∙ c.requires.phase

pub lay_first_column-requires-clause-blocks : goal.lay_first_column-requires-clause-blocks
lay_first_column-requires-clause-blocks c =
    let facts = c.args.board.now.flight in
    c.new-blocks.ensures.unit facts
    (tree_at facts c.args.layout.now c.args.line c.args.plan.now c.args.unit c.new-at.result c.new-at.ensures
    c.requires.flight c.requires.line c.requires.phase c.requires.picture c.requires.unit c.requires.sound)

pub lay_first_column-requires-clause-seen : goal.lay_first_column-requires-clause-seen
lay_first_column-requires-clause-seen c =
    unit_seen c.args.board.now.flight c.args.layout.now c.args.line c.args.plan.now c.args.unit
    c.new-blocks.result.at.now (c.new-blocks.ensures.at ∙ c.new-at.ensures) (view c.args.pass.now) c.requires.unit
    c.requires.seen

pub returns-clause-column : goal.returns-clause-column
returns-clause-column c = λ row down.
    let facts = c.args.board.now.flight in
    let s = c.args.layout.now in
    let line = c.args.line in
    let p = c.args.plan.now in
    let n : ℕ = unit_places (picture_shape p.sps p.pps) in
    let blocks = c.new-blocks.ensures.unit facts
    (tree_at facts s line p c.args.unit c.new-at.result c.new-at.ensures c.requires.flight c.requires.line
    c.requires.phase c.requires.picture c.requires.unit c.requires.sound) in
    let e : n * c.args.unit + 0 ≡ n * c.args.unit = omega arith in
    column_of_blocks facts s line p c.args.unit c.new-at.result c.new-at.ensures c.new-blocks.result blocks
    c.new-blocks.ensures.plan c.new-blocks.ensures.at c.lay_first_column.new.border c.args.column 0
    c.lay_first_column.ensures.column row down
    ∙ ap (λ k. (folded_at (flight_in facts) line.picture).motions k (n * line.row + 4 * row)) e
