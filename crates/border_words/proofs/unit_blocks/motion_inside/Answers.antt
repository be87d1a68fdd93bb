use Rattle.std.proofs.Common.{ap, refl, arith}
use Rattle.spec_flights.specs.Pictures.{folded_at}
use Rattle.sample_lines.specs.FactsOfFlights.{flight_in}
use Rattle.border_words.specs.Units.{address_at, column_at, row_at}
use Rattle.border_words.specs.declared.kept_places.KeptPlace.{KeptPlace}
use Rattle.border_words.proofs.Above.{place_moved}
use Rattle.border_words.proofs.unit_blocks.motion_inside.Goals as goal

pub returns-clause-value : goal.returns-clause-value
returns-clause-value c =
    let b = c.args.blocks.now in
    let u = b.at.now in
    let p = b.plan.now in
    let facts = c.args.board.now.flight in
    let is = c.requires.blocks in
    let columns = is.words.columns in
    let rows = is.words.rows in
    let column = c.requires.column in
    let row = c.requires.row in
    ap (λ (k : KeptPlace). k.motion)
    (c.keep_place-place.ensures.value _ _
    (place_moved p (folded_at (flight_in facts) u.line.picture) b.unit.address (address_at p u)
    (column_at p u c.args.i) (column_at p u c.args.i) (row_at p u c.args.j) (row_at p u c.args.j) _ _ _ _ is.address
    refl refl c.read_place-words.ensures.vectors c.read_place-words.ensures.modes
    (c.words_are_of_kept_places.ensures.place facts u p c.args.i c.args.j is.tree (omega (arith, columns, column))
    (omega (arith, rows, row)))))
