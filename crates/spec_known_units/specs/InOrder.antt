-- Units that are known by address, beside the reading of a picture in order.
use Rattle.std.specs.Prelude.{◌≡◌, ◌≢◌, ◌<◌, ℕ, true, List, [], Option, Some, is_some, Result, Ok, Err}
use Rattle.spec_picture_trees.specs.HeaderTypes.{size_in_ctbs}
use Rattle.spec_picture_trees.specs.PlanTypes.{PicturePlan}
use Rattle.spec_picture_trees.specs.BlockGeometry.{ctb_place, ctb_scan}
use Rattle.spec_picture_trees.specs.Picture.{Halt, Progress, SegmentAt}
use Rattle.spec_known_units.specs.Known.{known_before, known_units, picture_segments, segment_having, unit_read}
use Rattle.spec_known_units.specs.Known.{units_known}

-- the first so many units that are decoded are known
abbrev pub AreKnownTo : PicturePlan → ℕ → Type 0
AreKnownTo p n = (place : ℕ) → place < n → is_some (units_known p (ctb_scan place)) ≡ true

-- all units of a picture are known
abbrev pub AreAllKnown : PicturePlan → Type 0
AreAllKnown p = AreKnownTo p (size_in_ctbs p.sps)

-- a picture that is read without a broken rule: the units that are handed over are those that are known, and these are
-- all units of the picture, if it has a slice segment
pub record IsReadWhole (p : PicturePlan) (read : Progress) : Type 0 where
  pub given : read.given ≡ known_units p
  pub all : p.segments ≢ [] → AreAllKnown p

-- a picture whose reading stops at a unit: the units that are handed over are those before it, which are known, and it
-- is the first that isn't: read by those before it, it breaks the rule, in the NAL unit of its segment
pub record IsFirstBroken (p : PicturePlan) (halt : Halt) : Type 0 where
  pub inside : ctb_place halt.broken.ctu < size_in_ctbs p.sps
  pub before : AreKnownTo p (ctb_place halt.broken.ctu)
  pub given : halt.given ≡ known_before p (ctb_place halt.broken.ctu)
  pub breaks : unit_read p (units_known p) halt.broken.ctu ≡ Some (Err halt.broken.breach)
  pub at : SegmentAt
  pub segment : segment_having (picture_segments p) halt.broken.ctu ≡ Some at
  pub nal : at.nal ≡ halt.broken.nal

-- what is known of the units of a picture is what reading them in order gives
abbrev pub IsAsInOrder : PicturePlan → Result Progress Halt → Type 0
IsAsInOrder p (Ok read) = IsReadWhole p read
IsAsInOrder p (Err halt) = IsFirstBroken p halt
