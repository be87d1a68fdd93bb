-- A decoded picture beside the one that its known units make.
use Rattle.std.specs.Prelude.{◌≡◌, ◌≢◌, ◌<◌, List, [], Some, Result, Ok, Err}
use Rattle.header_types.specs.SequenceParameterSets.{size_in_ctbs}
use Rattle.known_unit_laws.specs.PlanTypes.{PicturePlan}
use Rattle.locality_laws.specs.BlockGeometry.{ctb_place}
use Rattle.known_unit_laws.specs.SpecPictureTrees.{PictureBroken, SegmentAt}
use Rattle.known_unit_laws.specs.SpecKnownUnits.{AreAllKnown, AreKnownTo}
use Rattle.known_unit_laws.specs.SpecKnownUnits.{picture_segments, segment_having}
use Rattle.locality_laws.specs.SpecPictureBuild.{DecodedPicture}
use Rattle.spec_flights.specs.Pictures.{known_decoded}
use Rattle.spec_flights.specs.Rows.{broken_at}

-- a picture in which no rule is broken: it is what its known units make, and these are all its units, if it has a slice
-- segment
pub record IsDecodedWhole (buffer : List DecodedPicture) (p : PicturePlan) (picture : DecodedPicture) : Type 0 where
  pub picture_is : picture ≡ known_decoded buffer p
  pub all : p.segments ≢ [] → AreAllKnown p

-- what stops the decoding of a picture: the units before it are known, and it breaks this rule where it is read by
-- them, in the NAL unit of its segment
pub record IsFirstBad (p : PicturePlan) (broken : PictureBroken) : Type 0 where
  pub inside : ctb_place broken.ctu < size_in_ctbs p.sps
  pub before : AreKnownTo p (ctb_place broken.ctu)
  pub rule : broken_at p broken.ctu ≡ Some broken.breach
  pub at : SegmentAt
  pub segment : segment_having (picture_segments p) broken.ctu ≡ Some at
  pub nal : at.nal ≡ broken.nal

-- sequential decoding gives what the known units of a picture make, or stops at the first unit that is bad
abbrev pub IsDecodedAsKnown : List DecodedPicture → PicturePlan → Result DecodedPicture PictureBroken → Type 0
IsDecodedAsKnown buffer p (Ok picture) = IsDecodedWhole buffer p picture
IsDecodedAsKnown buffer p (Err broken) = IsFirstBad p broken
