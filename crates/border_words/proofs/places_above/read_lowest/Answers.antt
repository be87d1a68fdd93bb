use Rattle.line_words.specs.Places.{number_at}
use Rattle.line_words.proofs.Words.{knows_as_much}
use Rattle.border_words.proofs.Passes.{stays_own, stays_seen}
use Rattle.border_words.proofs.places_above.read_lowest.Goals as goal

pub read_modes-requires-clause-own : goal.read_modes-requires-clause-own
read_modes-requires-clause-own c =
    stays_own c.args.pass.now c.read_vectors.new.pass c.read_vectors.ensures.same c.args.board.now c.requires.own

pub read_modes-requires-clause-seen : goal.read_modes-requires-clause-seen
read_modes-requires-clause-seen c =
    stays_seen c.args.pass.now c.read_vectors.new.pass c.read_vectors.ensures.same (number_at c.args.at.now)
    c.args.at.now.unit c.requires.seen

pub read_offsets-requires-clause-own : goal.read_offsets-requires-clause-own
read_offsets-requires-clause-own c =
    stays_own c.args.pass.now c.read_modes.new.pass
    (knows_as_much c.args.pass.now c.read_vectors.new.pass c.read_modes.new.pass c.read_vectors.ensures.same
    c.read_modes.ensures.same)
    c.args.board.now c.requires.own

pub read_offsets-requires-clause-seen : goal.read_offsets-requires-clause-seen
read_offsets-requires-clause-seen c =
    stays_seen c.args.pass.now c.read_modes.new.pass
    (knows_as_much c.args.pass.now c.read_vectors.new.pass c.read_modes.new.pass c.read_vectors.ensures.same
    c.read_modes.ensures.same)
    (number_at c.args.at.now) c.args.at.now.unit c.requires.seen

pub returns-clause-pass : goal.returns-clause-pass
returns-clause-pass c =
    knows_as_much c.args.pass.now c.read_modes.new.pass c.read_offsets.new.pass
    (knows_as_much c.args.pass.now c.read_vectors.new.pass c.read_modes.new.pass c.read_vectors.ensures.same
    c.read_modes.ensures.same)
    c.read_offsets.ensures.same
