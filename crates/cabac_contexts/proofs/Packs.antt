-- Contexts that are packed and unpacked.
use Rattle.std.proofs.Common.{◌≡◌, ℕ, ◌+◌, ◌*◌, ◌/◌, ◌%◌, ◌<◌, ◌≤◌, List, All, length, ◌⊎◌, inl, inr}
use Rattle.std.proofs.Common.{sym, ap, ◌∙◌, zero-add, arith}
use Rattle.std.specs.Prelude.{slice_index}
use Rattle.std.specs.Int.{w64, from_le_bytes, to_le_bytes}
use Rattle.std.proofs.lemmas.Bool.{cases_lt}
use Rattle.std.proofs.lemmas.Nat.{le_bytes_8}
use Rattle.std.proofs.lemmas.List.{get_or_past}
use Rattle.std.proofs.lemmas.List.FromFn.{fill_by_all, get_or-map-range_with_len, length-map-range_with_len}
use Rattle.cabac_contexts.specs.Packing.{eight_from, packed, unpacked}

pub past : (contexts : List ℕ) (i : ℕ) → length contexts ≤ i → slice_index contexts i ≡ 0
past contexts i h = get_or_past contexts i 0 h

byte_or_zero : (contexts : List ℕ) → All (λ value. value < 126) contexts
    → (i : ℕ) → (i < length contexts) ⊎ (length contexts ≤ i) → slice_index contexts i < 256
byte_or_zero contexts small i (inl inside) = let low : slice_index contexts i < 126 = small i 0 inside in omega arith
byte_or_zero contexts small i (inr out) = let zero = past contexts i out in omega arith

-- each number is a byte, those past the end too
all_bytes : (contexts : List ℕ) → All (λ value. value < 126) contexts → (i : ℕ) → slice_index contexts i < 256
all_bytes contexts small i = byte_or_zero contexts small i (cases_lt i (length contexts))

eight : (contexts : List ℕ) (first j : ℕ) → j < 8
    → slice_index (eight_from contexts first) j ≡ slice_index contexts (first + j)
eight contexts first j h = get_or-map-range_with_len (λ j. slice_index contexts (first + j)) 0 8 j j 0 h (zero-add j)

byte_of_eight : (contexts : List ℕ) (first : ℕ) → All (λ value. value < 126) contexts → (j : ℕ) → (j < 8) ⊎ (8 ≤ j)
    → slice_index (eight_from contexts first) j < 256
byte_of_eight contexts first small j (inl inside) =
    let at = eight contexts first j inside in let low = all_bytes contexts small (first + j) in omega arith
byte_of_eight contexts first small j (inr out) =
    let count : length (eight_from contexts first) ≡ 8 =
    length-map-range_with_len (λ j. slice_index contexts (first + j)) 0 8 in
    let zero = past (eight_from contexts first) j (omega arith) in
    omega arith

eight_bytes : (contexts : List ℕ) (first : ℕ) → All (λ value. value < 126) contexts
    → (j : ℕ) → slice_index (eight_from contexts first) j < 256
eight_bytes contexts first small j = byte_of_eight contexts first small j (cases_lt j 8)

word : (contexts : List ℕ) (k : ℕ) → k < 20
    → slice_index (packed contexts) k ≡ from_le_bytes w64 (eight_from contexts (8 * k))
unfolding packed
word contexts k h =
    get_or-map-range_with_len (λ k. from_le_bytes w64 (eight_from contexts (8 * k))) 0 20 k k 0 h (zero-add k)

pub round_trip : (contexts : List ℕ) → length contexts ≡ 154 → All (λ value. value < 126) contexts
    → unpacked (packed contexts) ≡ contexts
unfolding unpacked
round_trip contexts count small =
    sym (fill_by_all (λ i. slice_index (to_le_bytes w64 (slice_index (packed contexts) (i / 8))) (i % 8))
    contexts 154 0 count (λ i h.
    let below : i / 8 < 20 = omega arith in
    let rest : i % 8 < 8 = omega arith in
    let at : 8 * (i / 8) + i % 8 ≡ i = omega arith in
    let bytes =
    le_bytes_8 (eight_from contexts (8 * (i / 8))) (slice_index (packed contexts) (i / 8))
    (length-map-range_with_len (λ j. slice_index contexts (8 * (i / 8) + j)) 0 8)
    (eight_bytes contexts (8 * (i / 8)) small) (word contexts (i / 8) below) in
    sym (ap (λ bs. slice_index bs (i % 8)) bytes ∙ eight contexts (8 * (i / 8)) (i % 8) rest
    ∙ ap (slice_index contexts) at)))
