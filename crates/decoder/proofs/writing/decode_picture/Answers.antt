use Rattle.std.proofs.Common.{[], ◌∷◌, subst, sym}
use Rattle.decoder.specs.Buffers.{HeldBuffer}
use Rattle.decoder.specs.Headline.{change_of}
use Rattle.decoder.specs.Writing.{TakesPicture}
use Rattle.decoder.proofs.Leaving.{FollowsFrom}
use Rattle.decoder.proofs.Writes.{picture-unwritten}
use Rattle.decoder.proofs.writing.decode_picture.Goals as goal

pub returns : goal.returns
returns g c =
    subst (λ (b : HeldBuffer). TakesPicture c.args.options.form c.args.options.hash
    (change_of g.O.Sink.contents g.O.Sink.faults c.args.out.now c.take_picture.new.out) c.args.picture.now
    b c.take_picture.new.buffer c.take_picture.result) c.in-Ok.ensures.same
    (c.take_picture.ensures.takes []
    (subst (λ (b : HeldBuffer). FollowsFrom b (c.args.picture.now ∷ []) c.in-Ok.flight) (sym c.in-Ok.ensures.same)
    c.in-Ok.ensures.decoded))

pub returns-in_default : goal.returns-in_default
returns-in_default g c =
    picture-unwritten g.O.Sink.contents g.O.Sink.faults c.args.options.form c.args.options.hash c.args.out.now
    c.args.picture.now c.args.buffer.now
