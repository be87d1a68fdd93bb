use Rattle.std.proofs.Common.{Some, None, false, ◌++◌, ◌∙◌, sym, subst, refl}
use Rattle.decoder.specs.declared.session.Session.{Session}
use Rattle.decoder.specs.Headline.{change_of}
use Rattle.decoder.specs.Taking.{Reached, Stops, all_owed}
use Rattle.decoder.proofs.Sessions.{pushed-again, pushed-on, pushed-over}
use Rattle.decoder.proofs.session.Session.push.Goals as goal

pub returns-in-Some-clause-pushed : goal.returns-in-Some-clause-pushed
returns-in-Some-clause-pushed g c = λ bytes gained st.
    pushed-again g.O.Sink.contents g.O.Sink.faults c.args.out.now c.args.self.now bytes c.args.piece.now gained
    c.in-Some.outcome c.in-Some.is st

pub returns-in-Ok-clause-pushed : goal.returns-in-Ok-clause-pushed
returns-in-Ok-clause-pushed g c = λ bytes gained st.
    pushed-on c.take_piece.new.self c.args.self.now.options
    (change_of g.O.Sink.contents g.O.Sink.faults c.args.out.now c.take_piece.new.out) (bytes ++ c.args.piece.now) gained
    (c.in-Ok.ensures.outcome ∙ c.in_default.is) c.in-Ok.ensures.options
    (c.in-Ok.ensures.taken bytes gained st c.in_default.is)
