-- What is drawn of each picture, and what is written of it.
use Rattle.std.proofs.Common.{◌≡◌, ℕ, ◌+◌, ◌-◌, ◌%◌, Bool, true, false, List, ◌++◌, cond, refl}
use Rattle.std.specs.Prelude.{◌==◌}
use Rattle.slice_types.specs.declared.slice.SliceType.{SliceType}
use Rattle.slice_types.specs.declared.slice.SliceType.TheVariants as slice
use Rattle.spec_made.specs.declared.units.Shift.{Shift}
use Rattle.spec_made.specs.Draws.{motion_of, shift_of}
use Rattle.spec_made.specs.Stream.{Making, hash_unit, idr_made, inter_made, picture_made}
use Rattle.spec_made.specs.Written.{unit_behind_code}
use Rattle.made_laws.specs.Headers.{nal_type_of, order_at, type_at}
use Rattle.made_laws.specs.Streams.{Picture, hash_payload, idr_picture, inter_picture, payload_of, picture_at}
use Rattle.made_laws.proofs.Codes.{codes_of}
use Rattle.made_laws.proofs.Rows.{IsRow}
use Rattle.made_laws.proofs.Sizes.{inter_row_is, pcm_row_is}

-- the picture, its type and its order count, by whether it is an IDR picture and whether it is a P picture
abbrev picture_by : Bool → Bool → ℕ → Making → Picture
picture_by idr p g m =
    cond {A = Picture} idr (idr_picture m)
    (cond {A = Picture} p (inter_picture false (g + 1) m) (inter_picture true (g - 1) m))

abbrev type_by : Bool → Bool → SliceType
type_by idr p = cond {A = SliceType} idr slice.I (cond {A = SliceType} p slice.P slice.B)

abbrev order_by : Bool → Bool → ℕ → ℕ
order_by idr p g = cond {A = ℕ} idr 0 (cond {A = ℕ} p (g + 1) (g - 1))

-- ---- its rows

rows_by : (idr p : Bool) (g : ℕ) (m : Making) (r : ℕ) → IsRow 10000 ((picture_by idr p g m).row r)
unfolding idr_picture inter_picture
rows_by true p g m r = pcm_row_is m.generator r
rows_by false true g m r = inter_row_is _ _ r
rows_by false false g m r = inter_row_is _ _ r

pub rows_are : (g : ℕ) (m : Making) (r : ℕ) → IsRow 10000 ((picture_at g m).row r)
unfolding picture_at
rows_are g m r = rows_by (g == 0) (g % 2 == 1) g m r

-- ---- the codes of its header

-- the second vector of a B picture
abbrev pub second_shift : Making → Shift
second_shift m = (shift_of (shift_of m.generator).1).0

codes_by : (idr p : Bool) (g : ℕ) (m : Making) (offsets : List ℕ)
    → (picture_by idr p g m).codes offsets ≡ codes_of (type_by idr p) (second_shift m) (order_by idr p g) offsets
unfolding idr_picture inter_picture motion_of
codes_by true p g m offsets = refl
codes_by false true g m offsets = refl
codes_by false false g m offsets = refl

pub codes_are : (g : ℕ) (m : Making) (offsets : List ℕ)
    → (picture_at g m).codes offsets ≡ codes_of (type_at g) (second_shift m) (order_at g) offsets
unfolding picture_at
codes_are g m offsets = codes_by (g == 0) (g % 2 == 1) g m offsets

-- ---- its bytes

abbrev made_by : Bool → Bool → ℕ → Making → List ℕ × Making
made_by idr p g m =
    cond {A = List ℕ × Making} idr (idr_made m)
    (cond {A = List ℕ × Making} p (inter_made false (g + 1) m) (inter_made true (g - 1) m))

abbrev units_of : ℕ → Picture → List ℕ
units_of nal_type p = unit_behind_code nal_type (payload_of p) ++ unit_behind_code 40 (hash_payload p.planes)

bytes_by : (idr p : Bool) (g : ℕ) (m : Making)
    → (made_by idr p g m).0 ≡ units_of (nal_type_of (type_by idr p)) (picture_by idr p g m)
unfolding idr_picture inter_picture idr_made inter_made hash_unit hash_payload
bytes_by true p g m = refl
bytes_by false true g m = refl
bytes_by false false g m = refl

pub bytes_are : (g : ℕ) (m : Making) → (picture_made g m).0
    ≡ unit_behind_code (nal_type_of (type_at g)) (payload_of (picture_at g m))
    ++ unit_behind_code 40 (hash_payload (picture_at g m).planes)
unfolding picture_at picture_made
bytes_are g m = bytes_by (g == 0) (g % 2 == 1) g m
