-- The motion of a coding tree unit that is derived, and of what stands beside it.
use Rattle.std.specs.Prelude.{ℕ, ◌&&◌, nat_le, Bool}
use Rattle.spec_motion.specs.declared.slice_motion.SliceMotion.{SliceMotion}
use Rattle.spec_motion.specs.Vectors.{Known}
use Rattle.spec_picture_build.specs.SpecPictureMotion.{Motions, unit_laid}
use Rattle.spec_picture_filters.specs.Units.{motion_near}
use Rattle.picture_filters.specs.SpecPictureTrees.{unit_places}
use Rattle.spec_picture_build.specs.SpecSliceData.{PictureShape}
use Rattle.picture_motion.specs.PictureLayout.{CodingTreeUnit}

-- the motion of the picture behind a unit of which this is known
abbrev pub motion_behind : CodingTreeUnit → SliceMotion → Known → Motions → Motions
motion_behind unit slice known motions = unit_laid unit.layout unit.address slice known motions

-- the same by places that are counted from 1 at the unit's first place
abbrev pub motion_there : CodingTreeUnit → SliceMotion → Known → Motions → Motions
motion_there unit slice known motions = motion_near unit.layout unit.address (motion_behind unit slice known motions)

-- whether a place that is counted from 1 at a unit's first place is one of the unit
abbrev pub is_inside : PictureShape → ℕ → ℕ → Bool
is_inside picture column row =
    (nat_le 1 column && nat_le column (unit_places picture)) && (nat_le 1 row && nat_le row (unit_places picture))
