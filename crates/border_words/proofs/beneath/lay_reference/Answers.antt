use Rattle.std.proofs.Common.{sym, subst}
use Rattle.flight_plan.specs.declared.row_range.Reference.{Reference}
use Rattle.row_borders.specs.Building.{IsBeneath}
use Rattle.sample_lines.specs.FactsOfFlights.{flight_in}
use Rattle.border_words.specs.Beneath.{named_motions}
use Rattle.border_words.proofs.beneath.lay_reference.Goals as goal

pub lay_of_flight-requires-clause-seen : goal.lay_of_flight-requires-clause-seen
lay_of_flight-requires-clause-seen c = c.requires.seen c.in-Flight.picture c.in-Flight.is

pub lay_of_flight-requires-clause-sound : goal.lay_of_flight-requires-clause-sound
lay_of_flight-requires-clause-sound c = λ x less. c.requires.sound c.in-Flight.picture x c.in-Flight.is less

pub returns-in-Base-clause-beneath : goal.returns-in-Base-clause-beneath
returns-in-Base-clause-beneath c =
    subst
    (λ (r : Reference). IsBeneath c.lay_base.new.border
    (named_motions (flight_in c.args.board.now.flight) c.args.references.now.bases.now r))
    (sym c.in-Base.is) c.lay_base.ensures.beneath

pub returns-in-Flight-clause-beneath : goal.returns-in-Flight-clause-beneath
returns-in-Flight-clause-beneath c =
    subst
    (λ (r : Reference). IsBeneath c.lay_of_flight.new.border
    (named_motions (flight_in c.args.board.now.flight) c.args.references.now.bases.now r))
    (sym c.in-Flight.is) c.lay_of_flight.ensures.beneath
