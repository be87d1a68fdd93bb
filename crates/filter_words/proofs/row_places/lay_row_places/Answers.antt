use Rattle.std.proofs.Common.{◌≡◌, ◌+◌, ◌-◌, ◌/◌, min, arith, length, refl, subst, ap, ◌∙◌}
use Rattle.sample_words.specs.Sizes.{height_of}
use Rattle.progress_words.specs.Passes.{view}
use Rattle.line_words.proofs.Words.{knows_as_much, still_of}
use Rattle.flight_facts.specs.Facts.{flight_in}
use Rattle.flight_facts.proofs.Laid.{picture_sizes}
use Rattle.filter_words.specs.Regions.{LaysPlaces}
use Rattle.filter_words.specs.Rows.{is_in_row}
use Rattle.filter_words.specs.Units.{places_at}
use Rattle.filter_words.proofs.Passing.{row_beside, still_seen}
use Rattle.filter_words.proofs.Rows.{begun, row_places, still_room}
use Rattle.filter_words.proofs.Words.{flight_sized}
use Rattle.filter_words.proofs.row_places.lay_row_places.Goals as goal

pub lay_line_places-requires-clause-seen : goal.lay_line_places-requires-clause-seen
lay_line_places-requires-clause-seen c =
    row_beside c.args.board.now.flight c.args.layout.now (view c.args.pass.now) (view c.args.pass.now) c.args.line
    (min c.args.beside 1) c.args.line.row refl c.requires.seen c.requires.row (omega arith) (omega arith)

pub lay_line_places-requires-clause-room : goal.lay_line_places-requires-clause-room
lay_line_places-requires-clause-room c =
    begun c.args.around.now c.begin.new.self c.args.plan.now c.args.line.row c.args.line.row c.begin.ensures.format
    c.requires.format c.begin.ensures.above (omega arith) (omega arith)

pub lay_above-requires-clause-own : goal.lay_above-requires-clause-own
lay_above-requires-clause-own c =
    still_of c.args.board.now c.args.pass.now c.lay_line_places.new.pass (view c.args.pass.now) c.requires.own
    c.lay_line_places.ensures.same refl

pub lay_above-requires-clause-seen : goal.lay_above-requires-clause-seen
lay_above-requires-clause-seen c =
    still_seen c.args.board.now.flight c.args.layout.now (view c.args.pass.now) (view c.lay_line_places.new.pass)
    c.args.line (min c.args.beside 1) c.lay_line_places.ensures.same.1 c.requires.seen

pub lay_above-requires-clause-room : goal.lay_above-requires-clause-room
lay_above-requires-clause-room c =
    still_room _ _ c.begin.new.self c.lay_line_places.new.around c.args.plan.now (c.args.line.row - 1)
    c.lay_line_places.ensures.places
    (begun c.args.around.now c.begin.new.self c.args.plan.now c.args.line.row (c.args.line.row - 1)
    c.begin.ensures.format c.requires.format c.begin.ensures.above (omega arith) (omega arith))

pub lay_below-requires-clause-own : goal.lay_below-requires-clause-own
lay_below-requires-clause-own c =
    let first =
    knows_as_much c.args.pass.now c.lay_line_places.new.pass c.lay_above.new.pass c.lay_line_places.ensures.same
    c.lay_above.ensures.same in
    still_of c.args.board.now c.args.pass.now c.lay_above.new.pass (view c.args.pass.now) c.requires.own first refl

pub lay_below-requires-clause-seen : goal.lay_below-requires-clause-seen
lay_below-requires-clause-seen c =
    let first =
    knows_as_much c.args.pass.now c.lay_line_places.new.pass c.lay_above.new.pass c.lay_line_places.ensures.same
    c.lay_above.ensures.same in
    still_seen c.args.board.now.flight c.args.layout.now (view c.args.pass.now) (view c.lay_above.new.pass) c.args.line
    (min c.args.beside 1) first.1 c.requires.seen

pub lay_below-requires-clause-room : goal.lay_below-requires-clause-room
lay_below-requires-clause-room c =
    still_room _ _ c.lay_line_places.new.around c.lay_above.new.around c.args.plan.now (c.args.line.row + 1)
    c.lay_above.ensures.places
    (still_room _ _ c.begin.new.self c.lay_line_places.new.around c.args.plan.now (c.args.line.row + 1)
    c.lay_line_places.ensures.places
    (begun c.args.around.now c.begin.new.self c.args.plan.now c.args.line.row (c.args.line.row + 1)
    c.begin.ensures.format c.requires.format c.begin.ensures.above (omega arith) (omega arith)))

pub returns-clause-format : goal.returns-clause-format
returns-clause-format c =
    c.lay_below.ensures.places.format ∙ c.lay_above.ensures.places.format ∙ c.lay_line_places.ensures.places.format
    ∙ c.begin.ensures.format

pub returns-clause-above : goal.returns-clause-above
returns-clause-above c =
    c.lay_below.ensures.places.above ∙ c.lay_above.ensures.places.above ∙ c.lay_line_places.ensures.places.above
    ∙ c.begin.ensures.above

pub returns-clause-places : goal.returns-clause-places
returns-clause-places c =
    let facts = c.args.board.now.flight in
    let s = c.args.layout.now in
    let down : c.height_of.result / 4 ≡ height_of s c.args.line.row / 4 =
    ap (λ n. n / 4) (c.height_of.ensures.value ∙ ap (height_of s) c.from.ensures) in
    row_places s (flight_sized facts s c.requires.flight) c.args.plan.now (length (flight_in facts).pictures)
    (picture_sizes facts s c.args.line.picture c.args.plan.now c.requires.flight c.requires.picture) c.args.line.row
    c.args.beside c.requires.beside (places_at facts c.args.line) c.begin.new.self c.lay_line_places.new.around
    c.lay_above.new.around c.lay_below.new.around
    (subst
    (λ n. LaysPlaces (is_in_row s c.args.line.row 0 n) (places_at facts c.args.line) c.begin.new.self
    c.lay_line_places.new.around)
    down c.lay_line_places.ensures.places)
    c.lay_above.ensures.places c.lay_below.ensures.places c.requires.row

pub returns-clause-same : goal.returns-clause-same
returns-clause-same c =
    let first =
    knows_as_much c.args.pass.now c.lay_line_places.new.pass c.lay_above.new.pass c.lay_line_places.ensures.same
    c.lay_above.ensures.same in
    knows_as_much c.args.pass.now c.lay_above.new.pass c.lay_below.new.pass first c.lay_below.ensures.same
