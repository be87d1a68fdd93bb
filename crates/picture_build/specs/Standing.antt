-- What stands beside a coding tree unit of a picture that is built.
use Rattle.std.specs.Prelude.{List, Option}
use Rattle.header_types.specs.declared.reference_pictures.RefEntry.{RefEntry}
use Rattle.picture_buffer.specs.Motion.{FieldPlaces}
use Rattle.picture_buffer.specs.Pictures.{HeldPicture}
use Rattle.picture_buffer.specs.Planes.{PictureSamples}
use Rattle.unit_build.specs.PictureFilters.{Filtering}
use Rattle.picture_trees.specs.PictureLayout.{CodingTreeUnit}
use Rattle.spec_picture_build.specs.References.{motions_of as motions_at}
use Rattle.spec_picture_motion.specs.Derived.{collocated_motions}
use Rattle.spec_picture_motion.specs.Field.{Motions}
use Rattle.picture_build.specs.Pictures.{buffer_of}

-- the unit, what is built of its picture so far, the pictures of the buffer before it, and the entry of the collocated
-- picture in the lists of the unit's slice
pub record Standing : Type 0 where
  pub unit : CodingTreeUnit
  pub planes : PictureSamples
  pub motion : FieldPlaces
  pub filters : Filtering
  pub bases : List HeldPicture
  pub entry : Option RefEntry

-- the motion of the collocated picture
abbrev pub collocated_by : Standing → Motions
collocated_by standing = collocated_motions (motions_at (buffer_of standing.bases)) standing.entry
