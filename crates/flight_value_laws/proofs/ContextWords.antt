-- Contexts in words: twenty of 64 bits each, out of which they come back.
use Rattle.std.proofs.Common.{◌≡◌, ℕ, ◌+◌, ◌*◌, ◌^◌, ◌<◌, List, length, sym, subst, arith}
use Rattle.std.proofs.Common.{inl, inr, zero-add}
use Rattle.std.specs.Prelude.{slice_index, slice_index_or}
use Rattle.std.specs.Int.{w64, from_le_bytes}
use Rattle.std.specs.List.{range_with_len}
use Rattle.std.proofs.lemmas.Bool.{cases_lt}
use Rattle.std.proofs.lemmas.List.{get_or_past}
use Rattle.std.proofs.lemmas.List.Elements.{All-map}
use Rattle.std.proofs.lemmas.List.FromFn.{get_or-map-range_with_len, length-map-range_with_len}
use Rattle.known_picture_laws.specs.CabacContexts.{eight_from, packed, unpacked}
use Rattle.known_picture_laws.proofs.CabacContextsLemmas.{round_trip}
use Rattle.flight_value_laws.specs.Ranges.{AreContextWords, AreContexts}
use Rattle.flight_value_laws.proofs.Contexts.{context_at}

byte_is : (contexts : List ℕ) (first : ℕ) → AreContexts contexts → (i : ℕ)
    → slice_index (eight_from contexts first) i < 256
byte_is contexts first are i =
    let at : ℕ → ℕ = λ j. slice_index contexts (first + j) in
    elim (cases_lt i 8) [
      | inl inside ↦
          let is : slice_index (eight_from contexts first) i ≡ slice_index contexts (first + i) =
          get_or-map-range_with_len at 0 8 i i 0 inside (zero-add i) in
          let small = context_at contexts (first + i) are in
          omega (arith, is, small)
      | inr past ↦
          let count : length (eight_from contexts first) ≡ 8 = length-map-range_with_len at 0 8 in
          let none : slice_index (eight_from contexts first) i ≡ 0 =
          get_or_past (eight_from contexts first) i 0 (omega (arith, count, past)) in
          omega (arith, none)
    ]

word_small : (bytes : List ℕ) → ((i : ℕ) → slice_index bytes i < 256) → from_le_bytes w64 bytes < 2 ^ 64
word_small bytes small =
    let b0 = small 0 in
    let b1 = small 1 in
    let b2 = small 2 in
    let b3 = small 3 in
    let b4 = small 4 in
    let b5 = small 5 in
    let b6 = small 6 in
    let b7 = small 7 in
    omega (arith, b0, b1, b2, b3, b4, b5, b6, b7)

-- contexts come back out of their words
pub contexts_again : (contexts : List ℕ) → AreContexts contexts → unpacked (packed contexts) ≡ contexts
contexts_again contexts are = round_trip contexts are.count are.small

pub words_fit : (contexts : List ℕ) → AreContexts contexts → AreContextWords (packed contexts)
unfolding packed
words_fit contexts are =
    let word : ℕ → ℕ = λ k. from_le_bytes w64 (eight_from contexts (8 * k)) in
    record {
      count = length-map-range_with_len word 0 20;
      small = All-map (λ (w : ℕ). w < 2 ^ 64) word (range_with_len 0 20)
          (λ k d inside.
          let i : ℕ = slice_index_or (range_with_len 0 20) k d in
          word_small (eight_from contexts (8 * i)) (byte_is contexts (8 * i) are));
      contexts = subst AreContexts (sym (contexts_again contexts are)) are;
    }
