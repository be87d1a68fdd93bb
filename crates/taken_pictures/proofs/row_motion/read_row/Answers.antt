use Rattle.std.proofs.Common.{◌≡◌, ◌+◌, ◌*◌, ◌/◌, ap, sym, ◌∙◌}
use Rattle.line_words.specs.Places.{number_at}
use Rattle.line_words.proofs.Words.{knows_as_much}
use Rattle.taken_pictures.specs.Rows.{side_places}
use Rattle.taken_pictures.proofs.Passes.{stays_own, stays_seen}
use Rattle.taken_pictures.proofs.row_motion.read_row.Goals as goal

pub read_modes-requires-clause-own : goal.read_modes-requires-clause-own
read_modes-requires-clause-own c =
    stays_own c.args.pass.now c.read_vectors.new.pass c.read_vectors.ensures.same c.args.board.now c.requires.own

pub read_modes-requires-clause-seen : goal.read_modes-requires-clause-seen
read_modes-requires-clause-seen c =
    stays_seen c.args.pass.now c.read_vectors.new.pass c.read_vectors.ensures.same (number_at c.args.at.now)
    c.args.at.now.unit c.requires.seen

pub returns-clause-same : goal.returns-clause-same
returns-clause-same c =
    knows_as_much c.args.pass.now c.read_vectors.new.pass c.read_modes.new.pass c.read_vectors.ensures.same
    c.read_modes.ensures.same

pub returns-clause-row : goal.returns-clause-row
returns-clause-row c =
    let u = c.args.at.now in
    let words = c.requires.words in
    let side : c.ctb_size.result / 4 ≡ side_places u.sizes =
    ap (λ n. n / 4) c.ctb_size.ensures.value ∙ ap side_places (sym c.requires.place) in
    record {
      column = λ t. side t * c.unit-column.ensures.value t;
      line = λ t. side t * (c.line-line.ensures.value t).row + c.args.y;
      count = words.columns;
      vectors = c.read_vectors.ensures.value;
      modes = c.read_modes.ensures.value;
    }
