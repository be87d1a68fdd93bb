-- Streams as those of a seed, whose pictures may stand still and whose rows may be spoiled.
use Rattle.std.specs.Prelude.{ℕ, zero, suc, ◌+◌, ◌-◌, ◌%◌, ◌==◌, Bool, true, false, List, [], ◌++◌, if◌then◌else◌}
use Rattle.spec_made.specs.declared.bends.Bend.{Bend}
use Rattle.spec_made.specs.declared.units.Motion.{Motion}
use Rattle.spec_made.specs.Draws.{pcm_units_of, inter_units_of, motion_of}
use Rattle.spec_made.specs.InterRows.{later_motion}
use Rattle.spec_made.specs.Planes.{pcm_planes, predicted_planes}
use Rattle.spec_made.specs.Headers.{idr_codes, inter_codes}
use Rattle.spec_made.specs.Bends.{bend_at, inter_row_by, pcm_row_by}
use Rattle.spec_made.specs.Stream.{Making, set_units, slice_unit, hash_unit, behind_inter, type_of, start_of}

-- how pictures differ from those of a seed: whether their vectors, which are drawn, are 0, and which rows are spoiled
pub record Turned : Type 0 where
  pub flat : Bool
  pub bends : List Bend

abbrev pub motion_told : Bool → Motion → Motion
motion_told false m = m
motion_told true m = later_motion m

-- the IDR picture of a number, and what stands behind it
unfoldable pub idr_by : Turned → ℕ → Making → List ℕ × Making
idr_by t j m =
    let units = pcm_units_of m.generator in
    let planes = pcm_planes units.0 in (
      slice_unit 19 idr_codes (λ r. pcm_row_by (bend_at t.bends j r) units.0 r) ++ hash_unit planes,
      record { generator = units.1; older = m.older; last = planes },
    )

-- the P or B picture of a number
unfoldable pub inter_by : Turned → ℕ → Bool → ℕ → Making → List ℕ × Making
inter_by t j both poc m =
    let drawn = motion_of both m.generator in
    let units = inter_units_of drawn.1 in
    let motion = motion_told t.flat drawn.0 in
    let planes = predicted_planes m.older m.last motion in (
      slice_unit (type_of both) (inter_codes motion.second poc)
          (λ r. inter_row_by (bend_at t.bends j r) motion units.0 r)
          ++ hash_unit planes,
      behind_inter both units.1 m planes,
    )

unfoldable pub picture_by : Turned → ℕ → Making → List ℕ × Making
picture_by t j m =
    let g = j % 8 in
    if g == 0 then idr_by t j m
    else (if g % 2 == 1 then inter_by t j false (g + 1) m else inter_by t j true (g - 1) m)

-- so many pictures from one on
unfoldable pub pictures_by : Turned → ℕ → ℕ → Making → List ℕ
pictures_by t j zero m = []
pictures_by t j (suc n) m = (picture_by t j m).0 ++ pictures_by t (j + 1) n (picture_by t j m).1

unfoldable pub made_by : Turned → ℕ → ℕ → List ℕ
made_by t seed pictures = set_units ++ pictures_by t 0 pictures (start_of seed)

-- the stream of a seed whose vectors are all 0
abbrev pub flat_made : ℕ → ℕ → List ℕ
flat_made seed pictures = made_by (record { flat = true; bends = [] }) seed pictures

-- the same with rows that are spoiled
abbrev pub bent_made : List Bend → ℕ → ℕ → List ℕ
bent_made bends seed pictures = made_by (record { flat = true; bends = bends }) seed pictures
