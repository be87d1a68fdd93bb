-- The decoded picture buffer as it is held.
use Rattle.std.specs.Prelude.{ℕ, List, [], ◌∷◌}
use Rattle.picture_buffer.specs.Pictures.{HeldPicture}
use Rattle.row_jobs.specs.PictureBuild.{decoded_of}
use Rattle.spec_decoder.specs.Decoder.{BufferPicture}
use Rattle.decoder.specs.declared.tag.Tag.{Tag}

-- its pictures, what is told of each, and the number of the next picture that goes out, up to 2^64 - 1
pub record HeldBuffer : Type 0 where
  pub tags : List Tag
  pub pictures : List HeldPicture
  pub number : ℕ

-- a picture with what is told of it
abbrev pub tagged : Tag → HeldPicture → BufferPicture
tagged tag p = record { poc = tag.poc; nal_type = tag.nal_type; picture = decoded_of p }

-- pictures with what is told of each
abbrev pub all_tagged : List Tag → List HeldPicture → List BufferPicture
all_tagged [] pictures = []
all_tagged (tag ∷ tags) [] = []
all_tagged (tag ∷ tags) (p ∷ pictures) = tagged tag p ∷ all_tagged tags pictures

-- the pictures of the buffer
abbrev pub buffer_of : HeldBuffer → List BufferPicture
buffer_of b = all_tagged b.tags b.pictures
