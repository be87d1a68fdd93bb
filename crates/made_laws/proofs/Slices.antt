-- The header of each picture's slice, as it is read.
use Rattle.std.proofs.Common.{◌≡◌, ℕ, suc, ◌+◌, ◌*◌, ◌^◌, ◌<◌, ◌≤◌, Bool, true, false, List, [], ◌∷◌, ◌++◌}
use Rattle.std.proofs.Common.{length, map, cond, rules, Ok, refl, sym, ap, subst, ◌∙◌, arith}
use Rattle.std.specs.Prelude.{◌==◌}
use Rattle.std.specs.List.{range_with_len}
use Rattle.std.proofs.lemmas.List.{length-append}
use Rattle.slice_types.specs.declared.slice.SliceType.{SliceType}
use Rattle.slice_types.specs.declared.slice.SliceType.TheVariants as slice
use Rattle.spec_nal_units.specs.Escaped.{escaped, needs_prevention}
use Rattle.spec_slice_headers.specs.Context.{Context}
use Rattle.spec_slice_headers.specs.SegmentHeader.{slice_header_of}
use Rattle.spec_written_headers.specs.Codes.{Code, HaveRoom}
use Rattle.spec_made.specs.declared.units.Shift.{Shift}
use Rattle.spec_made.specs.Headers.{entries_of, header_bytes, idr_codes, inter_codes, offset_of, rows_of}
use Rattle.spec_made.specs.Stream.{Making}
use Rattle.made_laws.specs.Headers.{made_header, order_at, type_at}
use Rattle.made_laws.specs.Streams.{picture_at, slice_at, slice_in}
use Rattle.made_laws.proofs.Bytes.{EndsInSome}
use Rattle.made_laws.proofs.Drawn.{codes_are, rows_are, second_shift}
use Rattle.made_laws.proofs.Facts.{Facts}
use Rattle.made_laws.proofs.Codes.{codes_of}
use Rattle.made_laws.specs.Formers.{context_at}
use Rattle.made_laws.proofs.Rows.{IsRow}
use Rattle.made_laws.proofs.Written.{header_read}

-- ---- what is written is at most twice as long

longer : (test : Bool) (b n : ℕ) (x y : List ℕ) → length x ≤ n → length y ≤ n
    → length (cond {A = List ℕ} test (3 ∷ b ∷ x) (b ∷ y)) ≤ suc (suc n)
longer true b n x y p q = omega (arith, p)
longer false b n x y p q = omega (arith, q)

shorter : (test : Bool) (b n : ℕ) (x y : List ℕ) → n ≤ length x → n ≤ length y
    → suc n ≤ length (cond {A = List ℕ} test (3 ∷ b ∷ x) (b ∷ y))
shorter true b n x y p q = omega (arith, p)
shorter false b n x y p q = omega (arith, q)

last_one : (test : Bool) → length (cond {A = List ℕ} test (3 ∷ []) []) ≤ 1
last_one true = omega arith
last_one false = omega arith

pub twice : (a b : ℕ) (bs : List ℕ) → length (escaped a b bs) ≤ 2 * length bs + 1
twice a b [] = last_one (b == 0)
twice a b (c ∷ bs) =
    let e : 2 * length (c ∷ bs) + 1 ≡ suc (suc (2 * length bs + 1)) = omega arith in
    subst (λ n. length (escaped a b (c ∷ bs)) ≤ n) (sym e)
    (longer (needs_prevention a b c) c (2 * length bs + 1) (escaped 3 c bs) (escaped b c bs) (twice 3 c bs)
    (twice b c bs))

pub no_less : (a b : ℕ) (bs : List ℕ) → length bs ≤ length (escaped a b bs)
no_less a b [] = omega arith
no_less a b (c ∷ bs) =
    shorter (needs_prevention a b c) c (length bs) (escaped 3 c bs) (escaped b c bs) (no_less 3 c bs) (no_less b c bs)

-- a row's entry point tells how long it is in the unit
pub some_bytes : (bytes : List ℕ) → EndsInSome bytes → 1 ≤ length bytes
some_bytes bytes e = omega (arith, ap length e.is, length-append e.front (e.last ∷ []))

pub offset_is : (row : List ℕ) → IsRow 10000 row → offset_of row + 1 ≡ length (escaped 1 1 row)
offset_is row r = omega (arith, twice 1 1 row, no_less 1 1 row, some_bytes row r.ends, r.few)

-- ---- its codes have room

room_of : (type : SliceType) (s : Shift) (poc a b c d e : ℕ) → poc < 256 → a < 2 ^ 32 → b < 2 ^ 32 → c < 2 ^ 32
    → d < 2 ^ 32 → e < 2 ^ 32 → HaveRoom (codes_of type s poc (a ∷ b ∷ c ∷ d ∷ e ∷ []))
unfolding idr_codes inter_codes
room_of slice.I s poc a b c d e p ka kb kc kd ke = search rules
room_of slice.P s poc a b c d e p ka kb kc kd ke = search rules
room_of slice.B s poc a b c d e p ka kb kc kd ke = search rules

small_offset : (row : List ℕ) → offset_of row < 2 ^ 32
small_offset row = omega arith

entries_small : (type : SliceType) (s : Shift) (poc : ℕ) (row : ℕ → List ℕ) → poc < 256
    → HaveRoom (codes_of type s poc (entries_of row))
entries_small type s poc row p =
    room_of type s poc (offset_of (row 0)) (offset_of (row 1)) (offset_of (row 2)) (offset_of (row 3))
    (offset_of (row 4)) p (small_offset (row 0)) (small_offset (row 1)) (small_offset (row 2)) (small_offset (row 3))
    (small_offset (row 4))

-- ---- the header

-- what its codes give, with the entry points by the lengths of the rows
header_with : (type : SliceType) (poc nal place : ℕ) (row : ℕ → List ℕ) → ((r : ℕ) → IsRow 10000 (row r))
    → made_header type poc nal ((offset_of (row 0) + 1) ∷ (offset_of (row 1) + 1) ∷ (offset_of (row 2) + 1)
    ∷ (offset_of (row 3) + 1) ∷ (offset_of (row 4) + 1) ∷ []) place
    ≡ made_header type poc nal (map (λ r. length (escaped 1 1 (row r))) (range_with_len 0 5)) place
header_with type poc nal place row are =
    rw (
      offset_is (row 0) (are 0),
      offset_is (row 1) (are 1),
      offset_is (row 2) (are 2),
      offset_is (row 3) (are 3),
      offset_is (row 4) (are 4),
    ) refl

codes_read : (first : Bool) (g nal : ℕ) (s : Shift) (row : ℕ → List ℕ) (rows : List ℕ) → Facts first g
    → ((r : ℕ) → IsRow 10000 (row r))
    → slice_header_of (context_at first g nal)
    (header_bytes (codes_of (type_at g) s (order_at g) (entries_of row)) ++ rows)
    ≡ Ok (made_header (type_at g) (order_at g) nal (map (λ r. length (escaped 1 1 (row r))) (range_with_len 0 5))
    (length (header_bytes (codes_of (type_at g) s (order_at g) (entries_of row)))))
unfolding made_header
codes_read first g nal s row rows f are =
    let codes : List Code = codes_of (type_at g) s (order_at g) (entries_of row) in
    header_read (context_at first g nal) codes _ rows
    (entries_small (type_at g) s (order_at g) row f.order)
    (f.header s nal (offset_of (row 0)) (offset_of (row 1)) (offset_of (row 2)) (offset_of (row 3)) (offset_of (row 4)))
    ∙ ap Ok (header_with (type_at g) (order_at g) nal (length (header_bytes codes)) row are)

-- a picture's header is the one that is made
pub header_is : (first : Bool) (g nal : ℕ) (m : Making) → Facts first g
    → slice_header_of (context_at first g nal) (slice_at g m).payload
    ≡ Ok (made_header (type_at g) (order_at g) nal (slice_at g m).entry_points (slice_at g m).data_place)
unfolding slice_in
header_is first g nal m f =
    let row : ℕ → List ℕ = (picture_at g m).row in
    let entries : List ℕ = map (λ r. length (escaped 1 1 (row r))) (range_with_len 0 5) in
    let c : Context = context_at first g nal in
    let codes : List Code = codes_of (type_at g) (second_shift m) (order_at g) (entries_of row) in
    let same = codes_are g m (entries_of row) in
    ap (λ k. slice_header_of c (header_bytes k ++ rows_of row 6)) same
    ∙ codes_read first g nal (second_shift m) row (rows_of row 6) f (rows_are g m)
    ∙ sym (ap (λ k. Ok (made_header (type_at g) (order_at g) nal entries (length (header_bytes k)))) same)
