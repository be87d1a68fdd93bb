-- Motion in range (8.5.3.2).
use Rattle.std.specs.Int.{w16}
use Rattle.std.specs.Int.RustNames.{FitsSigned}
use Rattle.std.specs.Prelude.{ℕ, ◌<◌, Option, Some, None, IfSome, ⊤}
use Rattle.picture_buffer.specs.Motion.{FieldPlaces, motions_of}
use Rattle.picture_buffer.specs.declared.place_motion.PlaceMotion.{PlaceMotion}
use Rattle.picture_buffer.specs.declared.place_motion.PlaceVector.{PlaceVector}

-- a vector of 16 bits a coordinate, which names one of 16 references
pub record IsVectorHeld (v : PlaceVector) : Type 0 where
  pub x : FitsSigned w16 v.vector.mv.x
  pub y : FitsSigned w16 v.vector.mv.y
  pub ref_idx : v.vector.ref_idx < 16

-- one of two vectors is there
abbrev pub HasVector : Option PlaceVector → Option PlaceVector → Type 0
HasVector None None = ⊥
HasVector None (Some second) = ⊤
HasVector (Some first) second = ⊤

-- the motion of a place: such vectors, and one of them is there
pub record IsMotionHeld (m : PlaceMotion) : Type 0 where
  pub list_0 : IfSome m.list_0 IsVectorHeld
  pub list_1 : IfSome m.list_1 IsVectorHeld
  pub some : HasVector m.list_0 m.list_1

-- so it is at each place that has motion
abbrev pub AreMotionsHeld : FieldPlaces → Type 0
AreMotionsHeld field = (x y : ℕ) → IfSome (motions_of field x y) IsMotionHeld
