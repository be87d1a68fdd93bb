use Rattle.std.proofs.Common.{rules, false, [], subst}
use Rattle.std.proofs.lemmas.Option.{same_Some}
use Rattle.decoder.specs.Headline.{change_of}
use Rattle.decoder.specs.Session.{IsGoing}
use Rattle.decoder.specs.Taking.{Ended, all_owed}
use Rattle.decoder.proofs.Sessions.{going-of}
use Rattle.decoder.proofs.Takings.{ended-behind}
use Rattle.decoder.proofs.session.Session.stop.Goals as goal

pub returns-in-Ok-clause-ended : goal.returns-in-Ok-clause-ended
returns-in-Ok-clause-ended g c = λ bytes gained st none.
    let going : IsGoing c.args.self.now bytes gained = going-of c.args.self.now bytes gained none st in
    subst (Ended (change_of g.O.Sink.contents g.O.Sink.faults c.args.out.now c.write_halted.new.out)
    (all_owed c.args.self.now.options false bytes) gained)
    c.in-Ok.is
    (ended-behind c.args.self.now.options
    (change_of g.O.Sink.contents g.O.Sink.faults c.args.out.now c.write_halted.new.out) c.args.self.now.decoder
    going.given
    gained false bytes [] c.write_halted.result going.taken going.tells.told c.write_halted.ensures)

pub returns-in_default-write_halted : goal.returns-in_default-write_halted
returns-in_default-write_halted g c = record {
  ended = λ bytes gained st none.
      let going : IsGoing c.args.self.now bytes gained = going-of c.args.self.now bytes gained none st in
      ended-behind c.args.self.now.options
      (change_of g.O.Sink.contents g.O.Sink.faults c.args.out.now c.write_halted.new.out) c.args.self.now.decoder
      going.given gained false bytes [] c.write_halted.result going.taken going.tells.told c.write_halted.ensures;
  again = search rules;
  stop = λ none is. c.in_default-write_halted.not-Ok (same_Some _ _ is);
}
