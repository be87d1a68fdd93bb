-- The pictures of the decoded picture buffer as they are held.
use Rattle.std.specs.Prelude.{List, map}
use Rattle.picture_buffer.specs.Motion.{motions_of}
use Rattle.picture_buffer.specs.Pictures.{HeldPicture}
use Rattle.picture_buffer.specs.Planes.{samples_of}
use Rattle.spec_picture_build.specs.References.{DecodedPicture}

-- the decoded picture that is held
abbrev pub decoded_of : HeldPicture → DecodedPicture
decoded_of p = record { format = p.format; samples = samples_of p.planes; motions = motions_of p.motion }

-- the buffer
abbrev pub buffer_of : List HeldPicture → List DecodedPicture
buffer_of bases = map decoded_of bases
