-- The unit of each picture's slice: it reads back, it isn't too large, and its entry points cut its rows.
use Rattle.std.proofs.Common.{◌≡◌, ℕ, zero, suc, ◌+◌, ◌*◌, ◌-◌, ◌<◌, ◌≤◌, Bool, true, false, List, [], ◌∷◌, ◌++◌}
use Rattle.std.proofs.Common.{length, map, replicate, sym, ap, subst, ◌∙◌, arith}
use Rattle.std.specs.Prelude.{nat_lt, not, sum, ◌==◌, ◌&&◌}
use Rattle.std.proofs.lemmas.Bool.{lt-ltb}
use Rattle.std.specs.List.{concat, range_with_len}
use Rattle.std.proofs.lemmas.Bool.Decides.{nat_tests}
use Rattle.std.proofs.lemmas.List.{append-nil, length-append, length-replicate}
use Rattle.std.proofs.lemmas.List.Folds.{concat-append}
use Rattle.slice_types.specs.declared.slice.SliceType.{SliceType}
use Rattle.slice_types.specs.declared.slice.SliceType.TheVariants as slice
use Rattle.spec_bits.specs.Spelling.{code_of, leading_zero_bits_of, se_bits, u_bits, ue_bits}
use Rattle.spec_bits.proofs.Digits.{length-u_bits}
use Rattle.spec_nal_units.specs.Escaped.{added, ends_in_words, escaped, unit_with, IsWritable}
use Rattle.spec_nal_units.specs.Judged.{removed_of}
use Rattle.spec_nal_units.proofs.Escaping.{read_back}
use Rattle.spec_slice_headers.specs.Substreams.{bytes_of, data_size, substream_ranges, substreams}
use Rattle.spec_slice_headers.specs.Substreams.{substreams_from, unit_place}
use Rattle.spec_slice_headers.proofs.Ranges.{hold}
use Rattle.spec_slice_headers.proofs.Cuts.{reach}
use Rattle.spec_written_headers.specs.Codes.{Code, Bits, Flagged, Golomb, Signed, bits_of, spelled}
use Rattle.spec_made.specs.declared.units.Shift.{Shift}
use Rattle.spec_made.specs.Headers.{entries_of, header_bytes, idr_codes, inter_codes, rows_of}
use Rattle.spec_made.specs.Stream.{Making}
use Rattle.made_laws.specs.Headers.{nal_type_of, order_at, type_at}
use Rattle.made_laws.specs.Streams.{header_of, payload_of, picture_at, slice_at, slice_in}
use Rattle.made_laws.proofs.Bytes.{EndsInSome, more_before}
use Rattle.made_laws.proofs.Cuts.{AllEnd, cut, escaped-rows, place-behind, size_of}
use Rattle.made_laws.proofs.Drawn.{codes_are, rows_are, second_shift}
use Rattle.made_laws.proofs.Codes.{codes_of}
use Rattle.made_laws.proofs.Rows.{IsRow}
use Rattle.made_laws.proofs.Slices.{no_less, some_bytes, twice}
use Rattle.made_laws.proofs.Written.{header_ends, length-header}

-- ---- bytes that end in another byte than 00 may be written

not_zero : (z : ℕ) → 0 < z → (z == 0) ≡ false
not_zero zero h = absurd (omega arith)
not_zero (suc z) h = grind (arith, nat_tests)

ends_whole : (half : Bool) (front : List ℕ) (z : ℕ) → 0 < z → ends_in_words half (front ++ z ∷ []) ≡ true
ends_whole half [] z some = ap (λ t. not (t && not half)) (not_zero z some)
ends_whole half (b ∷ front) z some = ends_whole ((b == 0) && not half) front z some

pub writable : (payload : List ℕ) → EndsInSome payload → IsWritable 1 payload
writable payload e = record {
  header = omega arith;
  words = ap (ends_in_words false) e.is ∙ ends_whole false e.front e.last e.some;
}

-- ---- the rows of a picture

-- all but the last
abbrev pub first_rows : (ℕ → List ℕ) → List (List ℕ)
first_rows row = row 0 ∷ row 1 ∷ row 2 ∷ row 3 ∷ row 4 ∷ []

pub rows_split : (row : ℕ → List ℕ) → rows_of row 6 ≡ concat (first_rows row) ++ row 5
rows_split row =
    concat-append (first_rows row) (row 5 ∷ []) ∙ ap (λ l. concat (first_rows row) ++ l) (append-nil (row 5))

pub first_end : (row : ℕ → List ℕ) → ((r : ℕ) → IsRow 10000 (row r)) → AllEnd (first_rows row)
first_end row are = ((are 0).ends, ((are 1).ends, ((are 2).ends, ((are 3).ends, ((are 4).ends, tt)))))

-- a header and rows behind it end in such a byte
joined_ends : (front : List ℕ) (row : ℕ → List ℕ) → ((r : ℕ) → IsRow 10000 (row r))
    → EndsInSome (front ++ rows_of row 6)
joined_ends front row are =
    subst (λ l. EndsInSome (front ++ l)) (sym (rows_split row))
    (more_before front _ (more_before (concat (first_rows row)) (row 5) (are 5).ends))

-- how long they are in the unit
joined_size : (b l : ℕ) (front : List ℕ) (row : ℕ → List ℕ) → EndsInSome front → ((r : ℕ) → IsRow 10000 (row r))
    → length (escaped b l (front ++ rows_of row 6))
    ≡ length (escaped b l front) + (sum (map size_of (first_rows row)) + size_of (row 5))
joined_size b l front row e are =
    ap (λ x. length (escaped b l (front ++ x))) (rows_split row)
    ∙ escaped-rows b l front (first_rows row) (row 5) e (first_end row are)

-- how the entry points cut them
joined_cut : (b l : ℕ) (front : List ℕ) (row : ℕ → List ℕ) → EndsInSome front → ((r : ℕ) → IsRow 10000 (row r))
    → substreams (front ++ rows_of row 6) (added 2 b l (front ++ rows_of row 6)) (length front)
    (map size_of (first_rows row))
    ≡ map row (range_with_len 0 6)
unfolding substreams
joined_cut b l front row e are =
    let payload : List ℕ = front ++ rows_of row 6 in
    ap (λ n. substreams_from payload (added 2 b l payload) n (map size_of (first_rows row)))
    (place-behind b l front (rows_of row 6) e)
    ∙ cut b l payload front (first_rows row) (row 5) e (first_end row are) (ap (λ x. front ++ x) (rows_split row))

-- how long the data are in the unit
joined_data : (first : ℕ) (front : List ℕ) (row : ℕ → List ℕ) → EndsInSome front → ((r : ℕ) → IsRow 10000 (row r))
    → data_size (front ++ rows_of row 6) (added 2 first 1 (front ++ rows_of row 6)) (length front)
    ≡ sum (map size_of (first_rows row)) + size_of (row 5)
joined_data first front row e are =
    let payload : List ℕ = front ++ rows_of row 6 in
    let unit : List ℕ = unit_with first 1 payload in
    let back = read_back first 1 payload (writable payload (joined_ends front row are)) in
    let inside : length front ≤ length payload = omega (arith, length-append front (rows_of row 6)) in
    let reached = reach unit (length front) (omega arith) in
    let place = place-behind first 1 front (rows_of row 6) e in
    let size = joined_size first 1 front row e are in
    sym (ap (λ p. data_size p (removed_of unit) (length front)) back.same
    ∙ ap (λ r. data_size payload r (length front)) back.places)
    ∙ reached
    ∙ ap (λ r. length unit - unit_place r (length front)) back.places
    ∙ ap (λ n. length unit - n) place
    ∙ (let n : length unit - (2 + length (escaped first 1 front))
    ≡ sum (map size_of (first_rows row)) + size_of (row 5) = omega (arith, size) in n)

-- ---- the size of a header

-- how many bits a code has at most
abbrev most_bits : Code → ℕ
most_bits (Bits n value) = n
most_bits (Flagged value) = 1
most_bits (Golomb value) = 63
most_bits (Signed value) = 63

few_golomb : (value : ℕ) → length (ue_bits value) ≤ 63
unfolding ue_bits leading_zero_bits_of
few_golomb value =
    let zeros : ℕ = leading_zero_bits_of value in
    omega (
      arith,
      length-append (replicate zeros false) (u_bits (zeros + 1) (value + 1)),
      length-replicate zeros false,
      length-u_bits (zeros + 1) (value + 1),
    )

few_bits : (c : Code) → length (bits_of c) ≤ most_bits c
unfolding bits_of se_bits
few_bits (Bits n value) = omega (arith, length-u_bits n value)
few_bits (Flagged value) = omega arith
few_bits (Golomb value) = few_golomb value
few_bits (Signed value) = few_golomb (code_of value)

abbrev all_bits : List Code → ℕ
all_bits [] = 0
all_bits (c ∷ codes) = most_bits c + all_bits codes

few_spelled : (codes : List Code) → length (spelled codes []) ≤ all_bits codes
unfolding spelled
few_spelled [] = omega arith
few_spelled (c ∷ codes) =
    omega (arith, length-append (bits_of c) (spelled codes []), few_bits c, few_spelled codes)

few_codes : (type : SliceType) (s : Shift) (poc : ℕ) (row : ℕ → List ℕ)
    → all_bits (codes_of type s poc (entries_of row)) ≤ 2000
unfolding idr_codes inter_codes
few_codes slice.I s poc row = omega arith
few_codes slice.P s poc row = omega arith
few_codes slice.B s poc row = omega arith

few_header : (g : ℕ) (m : Making) → length (header_of (picture_at g m)) ≤ 1000
few_header g m =
    let row : ℕ → List ℕ = (picture_at g m).row in
    let codes : List Code = codes_of (type_at g) (second_shift m) (order_at g) (entries_of row) in
    let same = ap (λ k. length (header_bytes k)) (codes_are g m (entries_of row)) in
    omega (arith, same, length-header codes, few_spelled codes, few_codes (type_at g) (second_shift m) (order_at g) row)

few_row : (row : List ℕ) → IsRow 10000 row → size_of row ≤ 20001
few_row row r = omega (arith, twice 1 1 row, r.few)

few_rows : (row : ℕ → List ℕ) → ((r : ℕ) → IsRow 10000 (row r))
    → sum (map size_of (first_rows row)) + size_of (row 5) ≤ 120006
few_rows row are =
    omega (
      arith,
      few_row (row 0) (are 0),
      few_row (row 1) (are 1),
      few_row (row 2) (are 2),
      few_row (row 3) (are 3),
      few_row (row 4) (are 4),
      few_row (row 5) (are 5),
    )

-- ---- the slice of a picture

header_some : (g : ℕ) (m : Making) → EndsInSome (header_of (picture_at g m))
header_some g m = header_ends ((picture_at g m).codes (entries_of (picture_at g m).row))

pub payload_ends : (g : ℕ) (m : Making) → EndsInSome (payload_of (picture_at g m))
payload_ends g m = joined_ends (header_of (picture_at g m)) (picture_at g m).row (rows_are g m)

pub unit_small : (first g : ℕ) (m : Making) → length (unit_with first 1 (payload_of (picture_at g m))) ≤ 67108864
unit_small first g m =
    let header : List ℕ = header_of (picture_at g m) in
    let row : ℕ → List ℕ = (picture_at g m).row in
    omega (
      arith,
      joined_size first 1 header row (header_some g m) (rows_are g m),
      few_rows row (rows_are g m),
      twice first 1 header,
      few_header g m,
    )

pub rows_cut : (g : ℕ) (m : Making)
    → substreams (slice_at g m).payload (slice_at g m).removed (slice_at g m).data_place (slice_at g m).entry_points
    ≡ map (picture_at g m).row (range_with_len 0 6)
unfolding slice_in
rows_cut g m =
    joined_cut (2 * nal_type_of (type_at g)) 1 (header_of (picture_at g m)) (picture_at g m).row (header_some g m)
    (rows_are g m)

pub ranges_cut : (g : ℕ) (m : Making)
    → map (bytes_of (slice_at g m).payload)
    (substream_ranges (slice_at g m).payload (slice_at g m).removed (slice_at g m).data_place
    (slice_at g m).entry_points)
    ≡ map (picture_at g m).row (range_with_len 0 6)
ranges_cut g m =
    hold (slice_at g m).payload (slice_at g m).removed (slice_at g m).data_place (slice_at g m).entry_points
    ∙ rows_cut g m

pub rows_fit : (g : ℕ) (m : Making)
    → nat_lt (sum (slice_at g m).entry_points)
    (data_size (slice_at g m).payload (slice_at g m).removed (slice_at g m).data_place)
    ≡ true
unfolding slice_in
rows_fit g m =
    let row : ℕ → List ℕ = (picture_at g m).row in
    let last = no_less 1 1 (row 5) in
    let whole = joined_data (2 * nal_type_of (type_at g)) (header_of (picture_at g m)) row (header_some g m)
    (rows_are g m) in
    lt-ltb _ _ (omega (arith, whole, last, some_bytes (row 5) (rows_are g m 5).ends))
