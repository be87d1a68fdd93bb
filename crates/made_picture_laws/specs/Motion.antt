-- The motion of a made picture, as it is derived.
use Rattle.std.specs.Prelude.{ℕ, nat_lt, Option, Some, None}
use Rattle.ctu_records.specs.declared.prediction.Mv.{Mv}
use Rattle.picture_buffer.specs.declared.place_motion.PlaceMotion.{PlaceMotion}
use Rattle.picture_buffer.specs.declared.place_motion.PlaceVector.{PlaceVector}
use Rattle.spec_motion.specs.declared.vectors.Motion.{Motion as UnitMotion}
use Rattle.spec_motion.specs.declared.vectors.Reference.{Reference}
use Rattle.spec_motion.specs.declared.vectors.Vector.{Vector}
use Rattle.spec_slice_data.specs.Offset.{signed}
use Rattle.spec_made.specs.declared.units.Motion.{Motion}
use Rattle.spec_made.specs.declared.units.Shift.{Shift}
use Rattle.spec_made.specs.InterRows.{size_of}

-- a vector in quarters of a luma sample
abbrev pub mv_of : Shift → Mv
mv_of s = record {
  x = signed (size_of s.across) (nat_lt s.across 100);
  y = signed (size_of s.down) (nat_lt s.down 100);
}

-- by the first entry of its list
abbrev pub vector_at : Shift → Vector
vector_at s = record { mv = mv_of s; ref_idx = 0 }

abbrev pub second_at : Option Shift → Option Vector
second_at None = None
second_at (Some s) = Some (vector_at s)

-- the motion of every place
abbrev pub motion_drawn : Motion → UnitMotion
motion_drawn m = record { list_0 = Some (vector_at m.first); list_1 = second_at m.second }

-- a vector with the picture that it points to
abbrev pub pointing_where : Reference → Option Vector → Option PlaceVector
pointing_where reference None = None
pointing_where reference (Some v) = Some (record { vector = v; reference = reference })

-- the same motion with the pictures that it refers to, by the first entry of each list
abbrev pub place_drawn : (ℕ → Reference) → Motion → PlaceMotion
place_drawn first m = record {
  list_0 = pointing_where (first 0) (motion_drawn m).list_0;
  list_1 = pointing_where (first 1) (motion_drawn m).list_1;
}
