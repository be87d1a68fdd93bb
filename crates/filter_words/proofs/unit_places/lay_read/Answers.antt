use Rattle.std.proofs.Common.{◌≡◌, ◌+◌, ◌<◌, arith, length, subst, sym, ap, ◌∙◌}
use Rattle.progress_words.specs.Passes.{view}
use Rattle.progress_words.specs.Views.{seen_of}
use Rattle.line_words.specs.Places.{HasSizes, UnitAt, number_at, words_at}
use Rattle.flight_facts.specs.Boards.{board_flight}
use Rattle.flight_facts.specs.Facts.{flight_in}
use Rattle.flight_facts.proofs.Laid.{board_sizes}
use Rattle.filter_words.specs.Units.{across_of}
use Rattle.filter_words.proofs.Laid.{room_columns, room_rows, row_laid, row_read, segment_there}
use Rattle.filter_words.proofs.Placed.{row_fits}
use Rattle.filter_words.proofs.unit_places.lay_read.Goals as goal

pub read_run-requires-clause-flight : goal.read_run-requires-clause-flight
read_run-requires-clause-flight c =
    subst (λ (u : UnitAt). HasSizes (board_flight (flight_in c.args.board.now.flight)) u.sizes) (sym c.at.ensures)
    (board_sizes c.args.board.now.flight c.args.unit.now.sizes c.requires.unit.flight)

pub read_run-requires-clause-seen : goal.read_run-requires-clause-seen
read_run-requires-clause-seen c =
    subst (λ (u : UnitAt). u.unit < seen_of (view c.args.pass.now) (number_at u)) (sym c.at.ensures) c.requires.seen

pub read_run-requires-clause-inside : goal.read_run-requires-clause-inside
read_run-requires-clause-inside c =
    let fits =
    row_fits c.args.unit.now c.requires.unit.phase c.args.y c.row_modes.result (length c.args.words.now)
    c.requires.inside c.row_modes.ensures c.requires.words in
    let same = ap (λ (u : UnitAt). words_at u) c.at.ensures in
    omega (arith, fits, same)

pub segment_places-segment-requires : goal.segment_places-segment-requires
segment_places-segment-requires c =
    let u = c.args.unit.now in
    let is = c.requires.unit in
    let facts = c.args.board.now.flight in
    segment_there facts c.args.plan.now u is c.args.y c.requires.inside c.read_run.new.out
    (row_read facts c.args.plan.now u is c.at.result.now c.row_modes.result c.args.y (length c.args.words.now)
    c.read_run.new.out c.at.ensures c.row_modes.ensures c.requires.words c.read_run.ensures.value)
    (omega (arith, c.requires.some, c.requires.words))

pub lay_words-requires-clause-few : goal.lay_words-requires-clause-few
lay_words-requires-clause-few c =
    omega (arith, c.column.ensures.few, c.read_run.ensures.count, c.requires.words)

pub lay_words-requires-clause-columns : goal.lay_words-requires-clause-columns
lay_words-requires-clause-columns c =
    let few =
    room_columns c.args.board.now.flight c.args.plan.now c.args.unit.now c.requires.unit c.args.around.now
    c.requires.room in
    omega (arith, few, c.column.ensures.value, c.read_run.ensures.count, c.requires.words)

pub lay_words-requires-clause-first : goal.lay_words-requires-clause-first
lay_words-requires-clause-first c =
    let rows =
    room_rows c.args.board.now.flight c.args.plan.now c.args.unit.now c.requires.unit c.args.around.now
    c.requires.room c.args.y c.requires.inside in
    omega (arith, rows.0, c.row.ensures.value)

pub lay_words-requires-clause-last : goal.lay_words-requires-clause-last
lay_words-requires-clause-last c =
    let rows =
    room_rows c.args.board.now.flight c.args.plan.now c.args.unit.now c.requires.unit c.args.around.now
    c.requires.room c.args.y c.requires.inside in
    omega (arith, rows.1, c.row.ensures.value)

pub returns-clause-places : goal.returns-clause-places
returns-clause-places c =
    let u = c.args.unit.now in
    let is = c.requires.unit in
    let facts = c.args.board.now.flight in
    let count : length c.read_run.new.out ≡ across_of u = c.read_run.ensures.count ∙ c.requires.words in
    let read =
    row_read facts c.args.plan.now u is c.at.result.now c.row_modes.result c.args.y (length c.args.words.now)
    c.read_run.new.out c.at.ensures c.row_modes.ensures c.requires.words c.read_run.ensures.value in
    row_laid facts c.args.plan.now u is c.args.y c.requires.inside c.read_run.new.out read
    (omega (arith, c.requires.some, c.requires.words)) c.segment_places-segment.result.deblocking
    c.segment_places-segment.result.qp_bd_offset c.segment_places-segment.ensures.value c.column.result _
    (length c.read_run.new.out) c.args.around.now c.lay_words.new.around c.column.ensures.value
    (ap (λ n. n + c.args.y) c.row.ensures.value) count c.lay_words.ensures
