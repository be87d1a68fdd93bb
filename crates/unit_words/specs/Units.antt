-- What a coding tree unit's work leaves, by its samples and its places of 4x4 luma samples.
use Rattle.std.specs.Prelude.{ℕ, ◌+◌, None}
use Rattle.std.specs.Option.{unwrap_or}
use Rattle.ctu_records.specs.Tree.{Ctu}
use Rattle.unit_trees.specs.SpecSliceData.{side_of}
use Rattle.spec_motion.specs.declared.vectors.Motion.{Motion}
use Rattle.unit_build.specs.CtuBuild.{Cells, held}
use Rattle.unit_build.specs.CtuMotion.{Cells as MotionCells, held as motion_held}
use Rattle.unit_build.specs.PictureFilters.{UnitFilters}
use Rattle.unit_build.specs.PictureFilters.{read_place}
use Rattle.sample_words.specs.declared.modes.PlaceModes.{PlaceModes}

-- the sample of a component in a column and a line of the unit, 0 where none is known
abbrev pub unit_sample : Cells → ℕ → ℕ → ℕ → ℕ
unit_sample samples c x y = unwrap_or (held samples c (x + 1) (y + 1)) 0

-- a place without vectors
abbrev pub no_motion : Motion
no_motion = record { list_0 = None; list_1 = None }

-- the motion of a place of the unit, without vectors where none is known, as where it is predicted in intra mode
abbrev pub unit_motion : MotionCells → ℕ → ℕ → Motion
unit_motion motion x y = unwrap_or (motion_held motion (x + 1) (y + 1)) no_motion

-- what else is known of that place, by what was read of the unit and what it gives the loop filters; the number is that
-- of its slice segment
abbrev pub unit_modes : Ctu → UnitFilters → ℕ → ℕ → ℕ → PlaceModes
unit_modes ctu filters segment x y = record {
  segment = segment;
  side = side_of ctu x y;
  left_strength = (read_place filters.places x y).left_strength;
  top_strength = (read_place filters.places x y).top_strength;
  kept = (read_place filters.places x y).kept;
  coded = (read_place filters.places x y).coded;
}
