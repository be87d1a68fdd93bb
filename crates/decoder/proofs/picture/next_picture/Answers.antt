use Rattle.std.proofs.Common.{refl, sym, ap, subst, ◌∙◌}
use Rattle.row_jobs.specs.PictureBuild.{decoded_of}
use Rattle.picture_buffer.specs.Pictures.{HeldPicture}
use Rattle.spec_decoded_pictures.specs.Decoded.{picture_decoded}
use Rattle.spec_decoder.specs.Decoder.{compared, decoded_data}
use Rattle.decoder.specs.Pictures.{IsRefused}
use Rattle.decoder.proofs.Building.{next-differs, next-stopped, next-taken}
use Rattle.decoder.proofs.picture.next_picture.Goals as goal

pub returns-in-None : goal.returns-in-None
returns-in-None c = λ buffer later d.
    next-taken c.args.hash buffer c.args.picture.now later c.args.flight.now c.next.new.self c.in-Some.shared
    c.in-Some.ensures.value c.in-Some.ensures.fault
    (c.in-None.ensures
    ∙ ap (λ (h : HeldPicture). compared c.args.hash c.args.picture.now (decoded_of h)) c.picture.ensures.value) d

pub returns-in-Some-compare : goal.returns-in-Some-compare
returns-in-Some-compare c = λ buffer later d.
    next-differs c.args.hash buffer c.args.picture.now later c.args.flight.now c.next.new.self c.in-Some.shared
    c.in-Some-compare.fault c.in-Some.ensures.value c.in-Some.ensures.fault
    (c.in-Some-compare.ensures
    ∙ ap (λ (h : HeldPicture). compared c.args.hash c.args.picture.now (decoded_of h)) c.picture.ensures.value) d

pub returns-in_default : goal.returns-in_default
returns-in_default c = λ buffer later d.
    subst (IsRefused (decoded_data c.args.hash c.args.picture.now (picture_decoded buffer c.args.picture.now)))
    (sym c.outcome_of.ensures)
    (next-stopped c.args.hash buffer c.args.picture.now later c.args.flight.now c.next.new.self.fault
    (c.in_default.ensures.none refl) c.in_default.ensures.fault d)
