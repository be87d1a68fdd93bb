use Rattle.std.proofs.Common.{List, subst, sym}
use Rattle.plan_types.specs.declared.picture_plan.PicturePlan.{PicturePlan}
use Rattle.decoder.specs.Buffers.{HeldBuffer}
use Rattle.decoder.specs.Headline.{change_of}
use Rattle.decoder.specs.Writing.{WritesFirst}
use Rattle.decoder.proofs.Leaving.{FollowsFrom}
use Rattle.decoder.proofs.Writes.{ends-unwritten}
use Rattle.decoder.proofs.writing.decode_pictures.Goals as goal

pub take_pictures-requires : goal.take_pictures-requires
take_pictures-requires g c =
    subst (λ (ps : List PicturePlan). FollowsFrom c.run_flight.new.self ps c.in-Ok.flight)
    (sym c.as_slice-plans.ensures)
    (subst (λ (b : HeldBuffer). FollowsFrom b c.args.pictures.now c.in-Ok.flight) (sym c.in-Ok.ensures.same)
    c.in-Ok.ensures.decoded)

pub returns : goal.returns
returns g c =
    subst (λ (ps : List PicturePlan). WritesFirst c.args.options.form c.args.options.hash
    (change_of g.O.Sink.contents g.O.Sink.faults c.args.out.now c.take_pictures.new.out)
    ps c.args.buffer.now c.take_pictures.new.buffer c.take_pictures.result) c.as_slice-plans.ensures
    (subst (λ (b : HeldBuffer). WritesFirst c.args.options.form c.args.options.hash
    (change_of g.O.Sink.contents g.O.Sink.faults c.args.out.now c.take_pictures.new.out)
    c.as_slice-plans.result.now b c.take_pictures.new.buffer c.take_pictures.result) c.in-Ok.ensures.same
    c.take_pictures.ensures)

pub returns-in_default : goal.returns-in_default
returns-in_default g c =
    ends-unwritten g.O.Sink.contents g.O.Sink.faults c.args.options.form c.args.options.hash c.args.out.now
    c.args.pictures.now c.args.buffer.now
