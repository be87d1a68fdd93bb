-- A place's motion, packed.
use Rattle.std.specs.Prelude.{◌≡◌, ℕ, pos, ◌<◌, ◌≤◌, ◌==◌, Bool, false, List, slice_index_or, Option, Some, None}
use Rattle.std.specs.Prelude.{if◌then◌else◌}
use Rattle.place_grid.specs.Cells.{Cells, cell}
use Rattle.spec_motion.specs.CtuRecords.{Mv}
use Rattle.picture_buffer.specs.declared.packed.PackedMotion.{PackedMotion}
use Rattle.picture_buffer.specs.declared.place_motion.PlaceMotion.{PlaceMotion}
use Rattle.picture_buffer.specs.declared.place_motion.PlaceVector.{PlaceVector}
use Rattle.picture_buffer.specs.declared.targets.OwnTargets.{OwnTargets}
use Rattle.picture_buffer.specs.declared.targets.Target.{Target}

-- what stands where there is no target
abbrev pub no_target : Target
no_target = record { picture = 0; order = pos 0; ref_idx = 0; long_term = false }

abbrev pub no_own : OwnTargets
no_own = record { first = no_target; second = no_target }

-- a place without motion
abbrev pub no_motion : PackedMotion
no_motion = record {
  mv_0 = record { x = pos 0; y = pos 0 };
  mv_1 = record { x = pos 0; y = pos 0 };
  index_0 = 0;
  index_1 = 0;
}

-- what a list's vector points to
abbrev pub target_of : Option PlaceVector → Target
target_of None = no_target
target_of (Some v) = record {
  picture = v.reference.picture;
  order = v.reference.order;
  ref_idx = v.vector.ref_idx;
  long_term = v.reference.long_term;
}

-- the vector of a list; no displacement where there is none
abbrev pub mv_of : Option PlaceVector → Mv
mv_of None = record { x = pos 0; y = pos 0 }
mv_of (Some v) = v.vector.mv

-- the target with an index: where that is 2, what the place keeps of its own
abbrev pub target_at : List Target → Target → ℕ → Target
target_at targets own index = if index == 2 then own else slice_index_or targets index no_target

-- a vector to a target
abbrev pub to_target : Mv → Target → PlaceVector
to_target mv target = record {
  vector = record { mv = mv; ref_idx = target.ref_idx };
  reference = record { picture = target.picture; order = target.order; long_term = target.long_term };
}

-- the vector of a list by its index, which is 1 where there is none
abbrev pub unpacked_vector : List Target → Target → ℕ → Mv → Option PlaceVector
unpacked_vector targets own index mv =
    if index == 1 then None else Some (to_target mv (target_at targets own index))

-- the motion of a place by the targets of its field and its own, which has none where its first index is 0
abbrev pub unpacked : List Target → OwnTargets → PackedMotion → Option PlaceMotion
unpacked targets own p =
    if p.index_0 == 0
    then None
    else Some (record {
      list_0 = unpacked_vector targets own.first p.index_0 p.mv_0;
      list_1 = unpacked_vector targets own.second p.index_1 p.mv_1;
    })

-- a place whose indices are used
pub record IsWithin (count : ℕ) (p : PackedMotion) : Type 0 where
  pub first : p.index_0 < count
  pub second : p.index_1 < count

-- the packed places of a picture, what they keep of their own, and how many indices are used
pub record AreKept (places : Cells PackedMotion) (own : Cells OwnTargets) (count : ℕ) : Type 0 where
  pub columns : own.across ≡ places.across
  pub rows : own.down ≡ places.down
  pub from : 3 ≤ count
  pub to : count ≤ 64
  pub indices : (x y : ℕ) → IsWithin count (cell no_motion places x y)

-- where no place may have motion, none is packed
abbrev pub AreStill : Bool → Cells PackedMotion → Type 0
AreStill moving places = moving ≡ false → (x y : ℕ) → cell no_motion places x y ≡ no_motion
