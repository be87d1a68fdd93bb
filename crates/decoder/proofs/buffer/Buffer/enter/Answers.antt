use Rattle.std.proofs.Common.{sym, subst}
use Rattle.spec_decoder.specs.Decoder.{decoded_picture, pictures_in}
use Rattle.decoder.specs.Buffers.{buffer_of}
use Rattle.decoder.specs.Pictures.{Enters}
use Rattle.decoder.proofs.Entering.{entered-in, left-in, refused-in}
use Rattle.decoder.proofs.Writes.{exit-is}
use Rattle.decoder.proofs.buffer.Buffer.enter.Goals as goal

pub returns-in_err-shared-clause-enters : goal.returns-in_err-shared-clause-enters
returns-in_err-shared-clause-enters c = λ later d.
    subst (Enters c.args.self.now c.args.self.now
    (decoded_picture c.args.hash (buffer_of c.args.self.now) c.args.picture.now))
    (sym (exit-is c.from_residual.result c.in_err-shared.field-0.0 c.from_residual.ensures.1))
    (refused-in c.args.hash c.args.self.now c.args.picture.now c.in_err-shared.field-0.0
    (c.in_err-shared.ensures (pictures_in (buffer_of c.args.self.now)) later d))

pub returns-in-Ok-clause-enters : goal.returns-in-Ok-clause-enters
returns-in-Ok-clause-enters c = λ later d.
    entered-in c.args.hash c.args.self.now c.push.new.self c.args.picture.now c.of.result c.in_ok-shared.shared
    c.in-Ok.ensures.even (c.in_ok-shared.ensures (pictures_in (buffer_of c.args.self.now)) later d).0
    c.of.ensures.poc c.of.ensures.nal_type c.in-Ok.ensures.tags c.in-Ok.ensures.pictures

pub returns-in-Ok-clause-left : goal.returns-in-Ok-clause-left
returns-in-Ok-clause-left c = λ later d.
    left-in c.args.self.now c.push.new.self c.args.picture.now later c.next_picture.new.flight c.of.result
    c.in_ok-shared.shared c.in-Ok.ensures.even
    (c.in_ok-shared.ensures (pictures_in (buffer_of c.args.self.now)) later d).1 c.in-Ok.ensures.tags
    c.in-Ok.ensures.pictures
