use Rattle.spec_decoder.specs.Decoder.{decoded}
use Rattle.spec_made.specs.Stream.{made}
use Rattle.std.proofs.Common.{true}
use Rattle.made_drawing_laws.proofs.Decoded.{as_drawn}
use Rattle.made_drawing_laws.proofs.laws.made_streams_decode_as_drawn.Goals as goal

pub returns : goal.returns
returns c = λ hash seed pictures.
    as_drawn seed pictures (decoded hash true (made seed pictures)) (c.made_streams_are_written.ensures.picture seed)
    (c.made_streams_are_decoded.ensures.stop hash seed pictures)
    (c.made_streams_are_decoded.ensures.shown hash seed pictures)
