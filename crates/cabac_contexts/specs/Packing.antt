-- Contexts as words of 64 bits.
use Rattle.std.specs.Prelude.{ℕ, ◌+◌, ◌*◌, ◌/◌, ◌%◌, List, map, slice_index}
use Rattle.std.specs.Int.{w64, from_le_bytes, to_le_bytes}
use Rattle.std.specs.List.{range_with_len}

-- eight contexts from one on, and zeros past the last
abbrev pub eight_from : List ℕ → ℕ → List ℕ
eight_from contexts first = map (λ j. slice_index contexts (first + j)) (range_with_len 0 8)

-- eight contexts a word, the first in its least byte
unfoldable pub packed : List ℕ → List ℕ
packed contexts = map (λ k. from_le_bytes w64 (eight_from contexts (8 * k))) (range_with_len 0 20)

-- the contexts of such words
unfoldable pub unpacked : List ℕ → List ℕ
unpacked words = map (λ i. slice_index (to_le_bytes w64 (slice_index words (i / 8))) (i % 8)) (range_with_len 0 154)
