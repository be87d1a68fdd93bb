-- The stream of a seed: pictures in groups of eight, each behind its parameter sets with a unit of its hashes.
use Rattle.std.specs.Prelude.{ℕ, zero, suc, ◌+◌, ◌-◌, ◌%◌, ◌==◌, Bool, true, false, List, [], ◌∷◌, ◌++◌}
use Rattle.std.specs.Prelude.{if◌then◌else◌}
use Rattle.rand_pcg.specs.Lcg.{Lcg}
use Rattle.md5.specs.Md5.{md5}
use Rattle.spec_written_headers.specs.Codes.{Code}
use Rattle.spec_made.specs.declared.units.Motion.{Motion}
use Rattle.spec_made.specs.Draws.{generator_of, pcm_units_of, inter_units_of, motion_of}
use Rattle.spec_made.specs.Written.{unit_behind_code}
use Rattle.spec_made.specs.InterRows.{inter_row}
use Rattle.spec_made.specs.PcmRows.{pcm_row}
use Rattle.spec_made.specs.Planes.{Planes, no_planes, pcm_planes, predicted_planes}
use Rattle.spec_made.specs.Headers.{sequence_payload, picture_payload, idr_codes, inter_codes, header_bytes}
use Rattle.spec_made.specs.Headers.{entries_of, rows_of}

-- both parameter sets
unfoldable pub set_units : List ℕ
set_units = unit_behind_code 33 sequence_payload ++ unit_behind_code 34 picture_payload

-- a slice: its header, by its entry points, and its substreams
abbrev pub slice_unit : ℕ → (List ℕ → List Code) → (ℕ → List ℕ) → List ℕ
slice_unit nal_type codes row =
    unit_behind_code nal_type (header_bytes (codes (entries_of row)) ++ rows_of row 6)

-- the hashes of a picture, in a suffix SEI message (D.2.19)
unfoldable pub hash_unit : Planes → List ℕ
hash_unit p =
    unit_behind_code 40
    (132 ∷ 49 ∷ 0 ∷ (md5 p.luma ++ (md5 p.cb ++ (md5 p.cr ++ 128 ∷ []))))

-- between two pictures: the generator, and the two pictures that others may refer to, the later one last
pub record Making : Type 0 where
  pub generator : Lcg
  pub older : Planes
  pub last : Planes

-- an IDR picture, and what stands behind it
unfoldable pub idr_made : Making → List ℕ × Making
idr_made m =
    let units = pcm_units_of m.generator in
    let planes = pcm_planes units.0 in (
      slice_unit 19 idr_codes (pcm_row units.0) ++ hash_unit planes,
      record { generator = units.1; older = m.older; last = planes },
    )

-- behind a P picture, which takes its reference's place, and behind a B picture, to which no other refers
abbrev pub behind_inter : Bool → Lcg → Making → Planes → Making
behind_inter false g m planes = record { generator = g; older = m.last; last = planes }
behind_inter true g m planes = record { generator = g; older = m.older; last = m.last }

abbrev pub type_of : Bool → ℕ
type_of false = 1
type_of true = 0

-- a P picture, by the picture at -2, or a B picture, by those at -1 and 1, and what stands behind it
unfoldable pub inter_made : Bool → ℕ → Making → List ℕ × Making
inter_made both poc m =
    let motion = motion_of both m.generator in
    let units = inter_units_of motion.1 in
    let planes = predicted_planes m.older m.last motion.0 in (
      slice_unit (type_of both) (inter_codes motion.0.second poc) (inter_row motion.0 units.0) ++ hash_unit planes,
      behind_inter both units.1 m planes,
    )

-- the picture of a number in its group
unfoldable pub picture_made : ℕ → Making → List ℕ × Making
picture_made g m =
    if g == 0 then idr_made m else (if g % 2 == 1 then inter_made false (g + 1) m else inter_made true (g - 1) m)

-- so many pictures from one on
unfoldable pub pictures_made : ℕ → ℕ → Making → List ℕ
pictures_made j zero m = []
pictures_made j (suc n) m = (picture_made (j % 8) m).0 ++ pictures_made (j + 1) n (picture_made (j % 8) m).1

abbrev pub start_of : ℕ → Making
start_of seed = record { generator = generator_of seed; older = no_planes; last = no_planes }

-- the stream of a seed, with so many pictures
unfoldable pub made : ℕ → ℕ → List ℕ
made seed pictures = set_units ++ pictures_made 0 pictures (start_of seed)
