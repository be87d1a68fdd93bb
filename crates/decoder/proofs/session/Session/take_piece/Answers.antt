use Rattle.std.proofs.Common.{rules, ◌≡◌, false, [], ◌++◌}
use Rattle.std.specs.Prelude.{is_err}
use Rattle.hv_base.specs.declared.outcome.Outcome.TheVariants as outcome
use Rattle.nal_stream.specs.Framing.{to_come}
use Rattle.decoder.specs.Headline.{change_of}
use Rattle.decoder.specs.Session.{IsGoing}
use Rattle.decoder.proofs.Sessions.{fed-ok, going-of}
use Rattle.decoder.proofs.Takings.{stopped-unfed}
use Rattle.decoder.proofs.Tellings.{fed-tells, history, told-more}
use Rattle.decoder.proofs.session.Session.take_piece.Goals as goal

pub returns-then-is_err-clause-taken : goal.returns-then-is_err-clause-taken
returns-then-is_err-clause-taken g c = λ bytes gained st none.
    let going : IsGoing c.args.self.now bytes gained = going-of c.args.self.now bytes gained none st in
    stopped-unfed g.O.Sink.contents g.O.Sink.faults c.args.self.now.options c.args.out.now c.args.self.now.decoder
    going.given (to_come c.args.self.now.framer false c.args.piece.now) gained false (bytes ++ c.args.piece.now)
    going.taken (told-more c.args.self.now.framer bytes c.args.piece.now going.given going.tells)

pub returns-clause-taken : goal.returns-clause-taken
returns-clause-taken g c = λ bytes gained st none.
    let going : IsGoing c.args.self.now bytes gained = going-of c.args.self.now bytes gained none st in
    let fed : is_err c.feed.result ≡ false = search rules in
    c.take_units.ensures.taken false (bytes ++ c.args.piece.now) going.given (to_come c.feed.new.self false []) gained
    (fed-tells c.args.self.now.framer c.feed.new.self bytes c.args.piece.now going.given going.tells
    (fed-ok c.feed.result _ (c.feed.ensures.ok (history going.given false bytes) going.tells.stands) fed))
    going.taken
