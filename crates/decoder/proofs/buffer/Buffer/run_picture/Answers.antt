use Rattle.std.proofs.Common.{List, [], ◌∷◌, sym, subst}
use Rattle.std.specs.Prelude.{IfOk}
use Rattle.spec_decoder.specs.Decoder.{pictures_in}
use Rattle.spec_picture_build.specs.References.{DecodedPicture}
use Rattle.row_jobs.specs.FlightResults.{Decodes}
use Rattle.decoder.specs.Buffers.{HeldBuffer, buffer_of}
use Rattle.decoder.proofs.Buffers.{pictures-tagged}
use Rattle.decoder.proofs.buffer.Buffer.run_picture.Goals as goal

pub returns-clause-decoded : goal.returns-clause-decoded
returns-clause-decoded c =
    subst (λ (b : HeldBuffer). IfOk c.run_picture.result
    (λ r. Decodes (pictures_in (buffer_of b)) (c.args.picture.now ∷ []) r.pictures r.fault)) c.self.view_is
    (subst (λ (ps : List DecodedPicture). IfOk c.run_picture.result
    (λ r. Decodes ps (c.args.picture.now ∷ []) r.pictures r.fault))
    (sym (pictures-tagged c.self.inside.tags.items c.self.inside.pictures c.self.invariant))
    c.run_picture.ensures.decoded)
