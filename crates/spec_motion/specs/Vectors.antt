-- Motion by place, the pictures that it points to, and when two motions are the same.
use Rattle.std.specs.Prelude.{ℕ, ◌==◌, Bool, true, false, not, ◌&&◌, Option, Some, None, pos, slice_index_or}
use Rattle.std.specs.Prelude.{if◌then◌else◌}
use Rattle.std.specs.Ordering.{int_eq}
use Rattle.ctu_records.specs.declared.prediction.Mv.{Mv}
use Rattle.spec_motion.specs.declared.collocation.Collocated.{Collocated}
use Rattle.spec_motion.specs.declared.slice_motion.SliceMotion.{SliceMotion}
use Rattle.spec_motion.specs.declared.vectors.Motion.{Motion}
use Rattle.spec_motion.specs.declared.vectors.Reference.{Reference}
use Rattle.spec_motion.specs.declared.vectors.Vector.{Vector}

-- what is known of motion while a coding tree unit is derived, by column and row of places, both counted from 1 at the
-- unit's first place: column 0 stands left of the unit, row 0 above it. None where a place isn't available (6.4.1,
-- 6.4.2): it is outside the picture or the slice, or isn't decoded yet; nor where it is predicted in intra mode
abbrev pub Known : Type 0
Known = ℕ → ℕ → Option Motion

-- the motion of the collocated picture, by column and row of blocks of 4x4 places counted from the unit's first one:
-- that of the block's first place, none where it is predicted in intra mode
abbrev pub Beneath : Type 0
Beneath = ℕ → ℕ → Option Collocated

-- a vector of 0
abbrev pub zero_mv : Mv
zero_mv = record { x = pos 0; y = pos 0 }

-- no motion
abbrev pub no_motion : Motion
no_motion = record { list_0 = None; list_1 = None }

-- the other one of two lists
abbrev pub other_list : ℕ → ℕ
other_list list = if list == 0 then 1 else 0

-- the vector in a list
abbrev pub in_list : ℕ → Motion → Option Vector
in_list list motion = if list == 0 then motion.list_0 else motion.list_1

-- what stands where a list has no picture
abbrev pub no_reference : Reference
no_reference = record { picture = 0; order = pos 0; long_term = false }

-- RefPicListX[ i ]
unfoldable pub reference_in : SliceMotion → ℕ → ℕ → Reference
reference_in slice list i = slice_index_or (if list == 0 then slice.references_0 else slice.references_1) i no_reference

-- whether vectors are the same
abbrev pub same_mv : Mv → Mv → Bool
same_mv a b = int_eq a.x b.x && int_eq a.y b.y

-- whether two vectors of a list are the same, or both not there
abbrev pub same_vector : Option Vector → Option Vector → Bool
same_vector None None = true
same_vector None (Some b) = false
same_vector (Some a) None = false
same_vector (Some a) (Some b) = same_mv a.mv b.mv && a.ref_idx == b.ref_idx

-- whether motions have the same motion vectors and the same reference indices
unfoldable pub same_motion : Motion → Motion → Bool
same_motion a b = same_vector a.list_0 b.list_0 && same_vector a.list_1 b.list_1

-- whether two flags are the same
abbrev pub agree : Bool → Bool → Bool
agree a b = if a then b else not b

-- the first that is there
abbrev pub or_else : {A : Type 0} → Option A → Option A → Option A
or_else None second = second
or_else (Some first) second = Some first
