use Rattle.line_words.proofs.Words.{knows_as_much}
use Rattle.progress_words.specs.Passes.{view}
use Rattle.sample_lines.specs.FactsOfFlights.{flight_meaning}
use Rattle.sample_lines.specs.FactsOfFlights.{flight_in}
use Rattle.taken_pictures.proofs.Held.{held_is}
use Rattle.taken_pictures.proofs.Passes.{stays_known, stays_own}
use Rattle.taken_pictures.proofs.Pictures.{row_seen}
use Rattle.taken_pictures.proofs.whole_pictures.take_picture.Goals as goal

pub take_motion-requires-clause-own : goal.take_motion-requires-clause-own
take_motion-requires-clause-own c =
    stays_own c.args.pass.now c.take_samples.new.pass c.take_samples.ensures.same c.args.board.now c.requires.own

pub take_motion-requires-clause-seen : goal.take_motion-requires-clause-seen
take_motion-requires-clause-seen c = λ row less.
    row_seen c.args.layout.now (view c.args.pass.now) (view c.take_samples.new.pass) c.args.picture row
    c.take_samples.ensures.same.1 c.requires.seen less

pub take_motion-requires-clause-known : goal.take_motion-requires-clause-known
take_motion-requires-clause-known c =
    stays_known c.args.pass.now c.take_samples.new.pass c.take_samples.ensures.same
    (flight_meaning (flight_in c.args.board.now.flight)) c.requires.known

pub returns-clause-picture : goal.returns-clause-picture
returns-clause-picture c =
    held_is (flight_in c.args.board.now.flight) c.args.picture c.args.plan.now c.take_samples.new.planes
    c.take_motion.new.field c.take_samples.ensures.samples c.take_motion.ensures.motion

pub returns-clause-same : goal.returns-clause-same
returns-clause-same c =
    knows_as_much c.args.pass.now c.take_samples.new.pass c.take_motion.new.pass c.take_samples.ensures.same
    c.take_motion.ensures.same
