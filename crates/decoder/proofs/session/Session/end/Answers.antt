use Rattle.std.proofs.Common.{true, false, [], ◌++◌, ◌∙◌, sym, subst}
use Rattle.nal_stream.specs.Framing.{to_come}
use Rattle.decoder.specs.Headline.{change_of}
use Rattle.decoder.specs.Session.{IsGoing}
use Rattle.decoder.specs.Taking.{Reached, all_owed}
use Rattle.decoder.proofs.Sessions.{going-of}
use Rattle.decoder.proofs.Takings.{ended-behind, ended-then}
use Rattle.decoder.proofs.Tellings.{ended-tells, history}
use Rattle.decoder.proofs.session.Session.end.Goals as goal

pub returns-in-Ok-clause-ended : goal.returns-in-Ok-clause-ended
returns-in-Ok-clause-ended g c = λ bytes gained st none.
    let going : IsGoing c.args.self.now bytes gained = going-of c.args.self.now bytes gained none st in
    let r : Reached c.args.self.now.options
    (change_of g.O.Sink.contents g.O.Sink.faults c.args.out.now c.take_units.new.out) c.take_units.new.framer
    c.take_units.new.self true bytes gained [] =
    c.in-Ok.ensures.taken true bytes going.given (to_come c.finish.new.self true []) gained
    (ended-tells c.args.self.now.framer c.finish.new.self bytes going.given going.tells
    (c.finish.ensures.value (history going.given false bytes) going.tells.stands))
    going.taken in
    ended-then g.O.Sink.contents g.O.Sink.faults c.args.self.now.options c.args.out.now c.take_units.new.out
    c.write_end-outcome.new.out (all_owed c.args.self.now.options true bytes) gained r.more
    c.write_end-outcome.result r.gains r.quiet
    (ended-behind c.args.self.now.options
    (change_of g.O.Sink.contents g.O.Sink.faults c.take_units.new.out c.write_end-outcome.new.out)
    c.take_units.new.self r.given (gained ++ r.more) true bytes [] c.write_end-outcome.result r.taken r.tells.told
    c.write_end-outcome.ensures)

pub returns-in-Err-clause-ended : goal.returns-in-Err-clause-ended
returns-in-Err-clause-ended g c = λ bytes gained st none.
    let going : IsGoing c.args.self.now bytes gained = going-of c.args.self.now bytes gained none st in
    (c.in-Err.ensures.taken true bytes going.given (to_come c.finish.new.self true []) gained
    (ended-tells c.args.self.now.framer c.finish.new.self bytes going.given going.tells
    (c.finish.ensures.value (history going.given false bytes) going.tells.stands))
    going.taken).1
