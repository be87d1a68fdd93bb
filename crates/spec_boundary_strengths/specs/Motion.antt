-- When the motion on both sides of an edge differs (8.7.2.4). Pictures are told apart by their place in the decoded
-- picture buffer, and not by reference index or list.
use Rattle.std.specs.Prelude.{ℕ, ◌==◌, Bool, true, false, not, ◌&&◌, ◌||◌, nat_le, ◌-ℤ◌, Option, Some, None}
use Rattle.std.specs.Prelude.{if◌then◌else◌}
use Rattle.std.specs.Int.RustNames.{unsigned_abs}
use Rattle.picture_buffer.specs.declared.place_motion.PlaceMotion.{PlaceMotion}
use Rattle.picture_buffer.specs.declared.place_motion.PlaceVector.{PlaceVector}
use Rattle.spec_boundary_strengths.specs.declared.vectors.Vectors.{Vectors}
use Rattle.spec_boundary_strengths.specs.declared.vectors.Vectors.TheVariants.{NoVector, OneVector, TwoVectors}

-- the vectors of both lists that are there
abbrev pub listed : Option PlaceVector → Option PlaceVector → Vectors
listed None None = NoVector
listed None (Some v) = OneVector v
listed (Some v) None = OneVector v
listed (Some v) (Some w) = TwoVectors v w

-- the vectors of a place, whichever lists they are of
unfoldable pub vectors : PlaceMotion → Vectors
vectors motion = listed motion.list_0 motion.list_1

-- whether two vectors point to the same picture
abbrev pub same_picture : PlaceVector → PlaceVector → Bool
same_picture v w = v.reference.picture == w.reference.picture

-- whether two vectors are at least four quarter samples apart, across or down
unfoldable pub are_apart : PlaceVector → PlaceVector → Bool
are_apart v w =
    nat_le 4 (unsigned_abs (v.vector.mv.x -ℤ w.vector.mv.x)) || nat_le 4 (unsigned_abs (v.vector.mv.y -ℤ w.vector.mv.y))

-- whether one of two pairs of vectors is apart
abbrev pub one_apart : PlaceVector → PlaceVector → PlaceVector → PlaceVector → Bool
one_apart p q p' q' = are_apart p q || are_apart p' q'

-- whether two vectors point to the same two pictures as two others: in their order, or crossed
abbrev pub same_in_order : PlaceVector → PlaceVector → PlaceVector → PlaceVector → Bool
same_in_order p0 p1 q0 q1 = same_picture p0 q0 && same_picture p1 q1

-- whether each vector refers to the picture of the other side's other vector
abbrev pub same_crossed : PlaceVector → PlaceVector → PlaceVector → PlaceVector → Bool
same_crossed p0 p1 q0 q1 = same_picture p0 q1 && same_picture p1 q0

-- two vectors on each side: to other pictures; all to the same picture, where both ways to match them have vectors
-- apart; or to two pictures, where those to the same picture are apart
unfoldable pub differ_by_two : PlaceVector → PlaceVector → PlaceVector → PlaceVector → Bool
differ_by_two p0 p1 q0 q1 =
    if not (same_in_order p0 p1 q0 q1 || same_crossed p0 p1 q0 q1)
    then true
    else (if same_picture p0 p1
    then one_apart p0 q0 p1 q1 && one_apart p0 q1 p1 q0
    else (if same_in_order p0 p1 q0 q1
    then one_apart p0 q0 p1 q1
    else one_apart p0 q1 p1 q0))

-- whether there is another number of vectors, or they point to other pictures, or are apart
unfoldable pub differ : Vectors → Vectors → Bool
differ NoVector NoVector = false
differ (OneVector p) (OneVector q) = not (same_picture p q) || are_apart p q
differ (TwoVectors p0 p1) (TwoVectors q0 q1) = differ_by_two p0 p1 q0 q1
differ NoVector (OneVector q) = true
differ NoVector (TwoVectors q0 q1) = true
differ (OneVector p) NoVector = true
differ (OneVector p) (TwoVectors q0 q1) = true
differ (TwoVectors p0 p1) NoVector = true
differ (TwoVectors p0 p1) (OneVector q) = true

-- bS by motion alone
unfoldable pub motion_strength : PlaceMotion → PlaceMotion → ℕ
motion_strength p q = if differ (vectors p) (vectors q) then 1 else 0
