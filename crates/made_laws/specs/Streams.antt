-- The units and the pictures of a stream that is made (7.3.1.1, 7.4.2.4.4): both parameter sets, and then for each
-- picture its slice and its hashes.
use Rattle.std.specs.Prelude.{ℕ, zero, suc, ◌+◌, ◌-◌, ◌*◌, ◌%◌, ◌==◌, min, Bool, true, false, List, [], ◌∷◌, ◌++◌}
use Rattle.std.specs.Prelude.{length}
use Rattle.std.specs.Prelude.{map, if◌then◌else◌}
use Rattle.std.specs.List.{flat_map, range_with_len}
use Rattle.md5.specs.Md5.{md5}
use Rattle.plan_types.specs.declared.picture_plan.PicturePlan.{PicturePlan}
use Rattle.plan_types.specs.declared.stated_hash.StatedHash.{StatedHash}
use Rattle.spec_nal_units.specs.Escaped.{added, escaped, unit_with}
use Rattle.spec_nal_units.specs.Judged.{NalUnit}
use Rattle.spec_stated_hashes.specs.Digests.{digest_of}
use Rattle.spec_written_headers.specs.Codes.{Code}
use Rattle.spec_made.specs.Draws.{inter_units_of, motion_of, pcm_units_of}
use Rattle.spec_made.specs.Headers.{entries_of, header_bytes, idr_codes, inter_codes, picture_payload, rows_of}
use Rattle.spec_made.specs.Headers.{sequence_payload}
use Rattle.spec_made.specs.InterRows.{inter_row}
use Rattle.spec_made.specs.PcmRows.{pcm_row}
use Rattle.spec_made.specs.Planes.{Planes, pcm_planes, predicted_planes}
use Rattle.spec_made.specs.Stream.{Making, picture_made, start_of}
use Rattle.made_laws.specs.Headers.{nal_type_of, type_at}
use Rattle.made_laws.specs.Plans.{MadeSlice, made_plan}

-- what is drawn of a picture: the codes of its header by its entry points, its rows, and its samples
pub record Picture : Type 0 where
  pub codes : List ℕ → List Code
  pub row : ℕ → List ℕ
  pub planes : Planes

unfoldable pub idr_picture : Making → Picture
idr_picture m =
    let units = pcm_units_of m.generator in
    record { codes = idr_codes; row = pcm_row units.0; planes = pcm_planes units.0 }

unfoldable pub inter_picture : Bool → ℕ → Making → Picture
inter_picture both poc m =
    let motion = motion_of both m.generator in
    let units = inter_units_of motion.1 in
    record {
      codes = inter_codes motion.0.second poc;
      row = inter_row motion.0 units.0;
      planes = predicted_planes m.older m.last motion.0;
    }

-- the picture of a number in its group
unfoldable pub picture_at : ℕ → Making → Picture
picture_at g m =
    if g == 0 then idr_picture m
    else (if g % 2 == 1 then inter_picture false (g + 1) m else inter_picture true (g - 1) m)

-- the bytes of a header, with its byte alignment
abbrev pub header_of : Picture → List ℕ
header_of p = header_bytes (p.codes (entries_of p.row))

abbrev pub payload_of : Picture → List ℕ
payload_of p = header_of p ++ rows_of p.row 6

-- the slice of a picture in a unit of this type: its entry points are how many bytes are written of each row
unfoldable pub slice_in : ℕ → Picture → MadeSlice
slice_in nal_type p = record {
  payload = payload_of p;
  removed = added 2 (2 * nal_type) 1 (payload_of p);
  entry_points = map (λ r. length (escaped 1 1 (p.row r))) (range_with_len 0 5);
  data_place = length (header_of p);
}

abbrev pub slice_at : ℕ → Making → MadeSlice
slice_at g m = slice_in (nal_type_of (type_at g)) (picture_at g m)

-- the hashes of samples, as a suffix SEI message
unfoldable pub hash_payload : Planes → List ℕ
hash_payload p = 132 ∷ 49 ∷ 0 ∷ (md5 p.luma ++ (md5 p.cb ++ (md5 p.cr ++ 128 ∷ [])))

-- ---- the units

-- the number of a unit: 4294967295 stands for itself and for all after it
abbrev pub number_of : ℕ → ℕ
number_of n = min n 4294967295

-- the unit of a number, of the base layer and TemporalId 0
abbrev pub unit_numbered : ℕ → ℕ → List ℕ → NalUnit
unit_numbered n nal_type payload = record {
  index = number_of n;
  nal_type = nal_type;
  layer = 0;
  temporal_id = 0;
  payload = payload;
  removed = added 2 (2 * nal_type) 1 payload;
}

-- the bytes of a unit
abbrev pub bytes_of : NalUnit → List ℕ
bytes_of u = unit_with (2 * u.nal_type) 1 u.payload

-- the unit of a picture's slice, and of its hashes: the picture of number j is of number g in its group
abbrev pub slice_numbered : ℕ → ℕ → Making → NalUnit
slice_numbered j g m = unit_numbered (2 + 2 * j) (nal_type_of (type_at g)) (payload_of (picture_at g m))

abbrev pub hash_numbered : ℕ → ℕ → Making → NalUnit
hash_numbered j g m = unit_numbered (3 + 2 * j) 40 (hash_payload (picture_at g m).planes)

-- what stands before the picture of a number in the stream of a seed: the generator, and the pictures that it may refer
-- to
unfoldable pub making_at : ℕ → ℕ → Making
making_at seed zero = start_of seed
making_at seed (suc j) = (picture_made (j % 8) (making_at seed j)).1

-- both units of that picture
abbrev pub units_of : ℕ → ℕ → List NalUnit
units_of seed j =
    slice_numbered j (j % 8) (making_at seed j) ∷ hash_numbered j (j % 8) (making_at seed j) ∷ []

-- both parameter sets
abbrev pub set_units : List NalUnit
set_units = unit_numbered 0 33 sequence_payload ∷ unit_numbered 1 34 picture_payload ∷ []

-- the units of the stream of a seed, with so many pictures
abbrev pub made_units : ℕ → ℕ → List NalUnit
made_units seed pictures = set_units ++ flat_map (units_of seed) (range_with_len 0 pictures)

-- ---- the pictures

-- the MD5 of each plane that is drawn, as the unit of this number states them
abbrev pub made_hash : ℕ → Planes → StatedHash
made_hash nal p = record {
  nal = nal;
  luma = digest_of (md5 p.luma);
  cb = digest_of (md5 p.cb);
  cr = digest_of (md5 p.cr);
}

-- what is stated of the planes of the picture of number j, which is of number g in its group
abbrev pub hashes_at : ℕ → ℕ → Making → List StatedHash
hashes_at j g m = made_hash (number_of (3 + 2 * j)) (picture_at g m).planes ∷ []

-- the plan of that picture, before which this stands
abbrev pub plan_at : ℕ → ℕ → Making → PicturePlan
plan_at j g m = made_plan (j == 0) g (number_of (2 + 2 * j)) (slice_at g m) (hashes_at j g m)

-- the plan of the picture of a number in the stream of a seed
abbrev pub plan_of : ℕ → ℕ → PicturePlan
plan_of seed j = plan_at j (j % 8) (making_at seed j)

-- the pictures of that stream
abbrev pub made_plans : ℕ → ℕ → List PicturePlan
made_plans seed pictures = map (plan_of seed) (range_with_len 0 pictures)

-- which pictures of the buffer go out where the stream ends behind so many pictures
abbrev pub last_out : ℕ → List ℕ
last_out zero = []
last_out (suc n) = if n % 8 == 0 then 0 ∷ [] else 1 ∷ []
