-- The parameter sets and the slice segment headers (7.3.2.2, 7.3.2.3, 7.3.6.1).
use Rattle.std.specs.Prelude.{ℕ, ◌-◌, ◌%◌, ℤ, pos, true, false, List, [], ◌∷◌, ◌++◌, length, map, Option, Some, None}
use Rattle.std.specs.List.{range_with_len, concat}
use Rattle.spec_bits.specs.Spelling.{aligned_bits}
use Rattle.spec_nal_units.specs.Escaped.{escaped}
use Rattle.spec_written_headers.specs.Codes.{Code, Bits, Flagged, Golomb, Signed, spelled}
use Rattle.spec_made.specs.declared.units.Shift.{Shift}
use Rattle.spec_made.specs.Written.{bytes_of}

-- 128x96, coding tree blocks of 16, coding blocks from 8 on, pulse code modulation of 8 to 16 and of 8 bits, 8 bits of
-- slice_pic_order_cnt_lsb, a buffer of three pictures of which one may be reordered
unfoldable pub sequence_payload : List ℕ
sequence_payload =
    1 ∷ 1 ∷ 96 ∷ 0 ∷ 0 ∷ 0 ∷ 144 ∷ 0 ∷ 0 ∷ 0 ∷ 0 ∷ 0 ∷ 30 ∷ 160 ∷ 16 ∷ 32 ∷ 97 ∷ 101 ∷ 181 ∷ 170 ∷ 197 ∷ 222 ∷ 176
    ∷ 64 ∷ []

-- entropy coding sync, and QP 26
unfoldable pub picture_payload : List ℕ
picture_payload = 192 ∷ 113 ∷ 130 ∷ 18 ∷ []

-- the entry points, of 32 bits each
abbrev pub entry_codes : List ℕ → List Code
entry_codes [] = []
entry_codes (offset ∷ offsets) = Bits 32 offset ∷ entry_codes offsets

-- slice_qp_delta, and the entry points
abbrev pub last_codes : List ℕ → List Code
last_codes offsets = Signed (pos 0) ∷ Golomb 5 ∷ Golomb 31 ∷ entry_codes offsets

-- an IDR picture's, up to slice_type
abbrev pub idr_start : List Code
idr_start = Flagged true ∷ Flagged false ∷ Golomb 0 ∷ Bits 0 0 ∷ Golomb 2 ∷ []

unfoldable pub idr_codes : List ℕ → List Code
idr_codes offsets = idr_start ++ last_codes offsets

-- another's, up to short_term_ref_pic_set_sps_flag
abbrev pub first_codes : ℕ → ℕ → List Code
first_codes slice_type poc = Flagged true ∷ Golomb 0 ∷ Bits 0 0 ∷ Golomb slice_type ∷ Bits 8 poc ∷ Flagged false ∷ []

-- the picture at -2, in list 0
abbrev pub one_reference : List Code
one_reference = Golomb 1 ∷ Golomb 0 ∷ Golomb 1 ∷ Flagged true ∷ Flagged false ∷ []

-- those at -1 and 1, one in each list, and mvd_l1_zero_flag
abbrev pub two_references : List Code
two_references =
    Golomb 1 ∷ Golomb 1 ∷ Golomb 0 ∷ Flagged true ∷ Golomb 0 ∷ Flagged true ∷ Flagged false ∷ Flagged false ∷ []

abbrev pub reference_codes : Option Shift → List Code
reference_codes None = one_reference
reference_codes (Some s) = two_references

abbrev pub slice_type_of : Option Shift → ℕ
slice_type_of None = 1
slice_type_of (Some s) = 0

-- five_minus_max_num_merge_cand
abbrev pub merge_codes : List Code
merge_codes = Golomb 4 ∷ []

unfoldable pub inter_codes : Option Shift → ℕ → List ℕ → List Code
inter_codes second poc offsets =
    first_codes (slice_type_of second) poc ++ (reference_codes second ++ (merge_codes ++ last_codes offsets))

-- a header with its byte alignment
abbrev pub header_bytes : List Code → List ℕ
header_bytes codes = bytes_of (spelled codes [] ++ aligned_bits (length (spelled codes [])))

-- entry_point_offset_minus1 of a substream: it counts what is written of it, and has 32 bits
abbrev pub offset_of : List ℕ → ℕ
offset_of row = (length (escaped 1 1 row) - 1) % 4294967296

-- those of all rows but the last
abbrev pub entries_of : (ℕ → List ℕ) → List ℕ
entries_of row = map (λ r. offset_of (row r)) (range_with_len 0 5)

-- the bytes of so many rows
abbrev pub rows_of : (ℕ → List ℕ) → ℕ → List ℕ
rows_of row n = concat (map row (range_with_len 0 n))
