-- The bits of a header that is written with its byte alignment, and how they are read.
use Rattle.std.proofs.Common.{◌≡◌, ℕ, suc, ◌*◌, ◌-◌, ◌/◌, ◌%◌, Bool, true, false, List, [], ◌∷◌, ◌++◌}
use Rattle.std.proofs.Common.{length, Some, Ok, refl, ap, ◌∙◌, arith, append_assoc}
use Rattle.std.proofs.lemmas.List.{length-append, length-replicate}
use Rattle.hv_base.specs.declared.field_rules.TheConstants.{SLICE_HEADER_RULES}
use Rattle.slice_types.specs.declared.slice.SliceHeaderFields.{SliceHeaderFields}
use Rattle.spec_bits.specs.Bits.{bits}
use Rattle.spec_bits.specs.Spelling.{aligned_bits}
use Rattle.spec_bits.proofs.Aligned.{aligned_at-aligned_bits}
use Rattle.spec_bits.proofs.Bytes.{bits-append}
use Rattle.spec_bits.proofs.Places.{length-bits}
use Rattle.spec_formats.specs.Fields.{read, whole}
use Rattle.spec_slice_headers.specs.Context.{Context}
use Rattle.spec_slice_headers.specs.SegmentHeader.{aligned, alignment, placed, slice_header_of, slice_segment_header}
use Rattle.spec_slice_headers.specs.SegmentHeader.{whole_alignment}
use Rattle.spec_written_headers.specs.Codes.{Code, HaveRoom, bits_of, replayed, spelled}
use Rattle.spec_written_headers.proofs.Replay.{read_back}
use Rattle.spec_made.specs.Headers.{header_bytes}
use Rattle.made_laws.proofs.Bytes.{EndsInSome, bits-bytes_of, bytes_end, length-bytes_of}

-- the bits of codes, and then others
spelled-append : (codes : List Code) (tail : List Bool) → spelled codes [] ++ tail ≡ spelled codes tail
unfolding spelled
spelled-append [] tail = refl
spelled-append (c ∷ codes) tail =
    append_assoc (bits_of c) (spelled codes []) tail ∙ ap (λ l. bits_of c ++ l) (spelled-append codes tail)

length-aligned : (n : ℕ) → length (aligned_bits n) ≡ suc (7 - n % 8)
unfolding aligned_bits
length-aligned n = ap suc (length-replicate (7 - n % 8) false)

-- a header has whole bytes
whole_bytes : (bs : List Bool) → length (bs ++ aligned_bits (length bs)) ≡ 8 * suc (length bs / 8)
whole_bytes bs = omega (arith, length-append bs (aligned_bits (length bs)), length-aligned (length bs))

pub header_bits : (codes : List Code) (rows : List ℕ) → bits (header_bytes codes ++ rows)
    ≡ spelled codes (aligned_bits (length (spelled codes [])) ++ bits rows)
header_bits codes rows =
    let bs : List Bool = spelled codes [] in
    bits-append (header_bytes codes) rows
    ∙ ap (λ l. l ++ bits rows) (bits-bytes_of (suc (length bs / 8)) (bs ++ aligned_bits (length bs)) (whole_bytes bs))
    ∙ append_assoc bs (aligned_bits (length bs)) (bits rows)
    ∙ spelled-append codes (aligned_bits (length bs) ++ bits rows)

-- its last byte isn't 00
pub header_ends : (codes : List Code) → EndsInSome (header_bytes codes)
unfolding aligned_bits
header_ends codes =
    let bs : List Bool = spelled codes [] in
    bytes_end (length bs / 8) bs (7 - length bs % 8) (omega arith) (omega arith)

pub length-header : (codes : List Code) → length (header_bytes codes) ≡ suc (length (spelled codes []) / 8)
length-header codes =
    let bs : List Bool = spelled codes [] in
    length-bytes_of (suc (length bs / 8)) (bs ++ aligned_bits (length bs)) (whole_bytes bs)

aligned_behind : (n : ℕ) (rows : List ℕ) → alignment (aligned_bits n ++ bits rows) ≡ Ok (true, bits rows)
unfolding alignment
aligned_behind n rows =
    let count : length (bits rows) % 8 ≡ 0 = omega (arith, length-bits rows) in
    ap (λ r. whole_alignment (whole SLICE_HEADER_RULES r)) (aligned_at-aligned_bits n (bits rows) count)

place_of : (header rows : List ℕ) → length (header ++ rows) - length (bits rows) / 8 ≡ length header
place_of header rows = omega (arith, length-append header rows, length-bits rows)

-- a header that its codes give is read from its bytes, whatever stands behind them, with the place of the data
pub header_read : (c : Context) (codes : List Code) (h : SliceHeaderFields) (rows : List ℕ) → HaveRoom codes
    → replayed (slice_segment_header c) codes ≡ Some (h, [])
    → slice_header_of c (header_bytes codes ++ rows)
    ≡ Ok (record h { data_place = length (header_bytes codes) })
unfolding slice_header_of spelled
header_read c codes h rows room is =
    let n : ℕ = length (spelled codes []) in
    let payload : List ℕ = header_bytes codes ++ rows in
    let tail : List Bool = aligned_bits n ++ bits rows in
    ap (λ b. aligned payload (read SLICE_HEADER_RULES (slice_segment_header c) b)) (header_bits codes rows)
    ∙ ap (aligned payload) (read_back SLICE_HEADER_RULES (slice_segment_header c) codes h [] tail room is)
    ∙ ap (placed payload h) (aligned_behind n rows)
    ∙ ap (λ place. Ok (record h { data_place = place })) (place_of (header_bytes codes) rows)
