-- The bytes of a word, and eight samples.
use Rattle.std.proofs.Common.{◌≡◌, ◌≤◌, ◌<◌, ◌+◌, ◌-◌, ◌&&◌, ℕ, zero, suc, List, length, slice_index, nat_le, nat_lt}
use Rattle.std.proofs.Common.{if◌then◌else◌, arith, refl, ap, sym, ◌∙◌, ◌⊎◌, inl, inr}
use Rattle.std.specs.Int.{byte_worth, sum_through, bytes_low_first}
use Rattle.std.proofs.lemmas.Bool.{cases_lt}
use Rattle.std.proofs.lemmas.Bool.Decides.{nat_tests}
use Rattle.std.proofs.lemmas.Simd.{get_or-put_chunk_below, get_or-put_chunk_at, get_or-put_chunk_above}
use lib.Lanes.{put_chunk}
use Rattle.sample_words.specs.Packing.{lane, lanes}

-- eight bytes, the low one first, are fields of 8 bits
pub bytes_joined : (b f : ℕ → ℕ) → ((i : ℕ) → i < 8 → b i ≡ f i)
    → sum_through (λ i. byte_worth i (b i)) 7 ≡ lanes 8 8 f
unfolding lanes
bytes_joined b f same =
    let e0 = same 0 (omega arith) in
    let e1 = same 1 (omega arith) in
    let e2 = same 2 (omega arith) in
    let e3 = same 3 (omega arith) in
    let e4 = same 4 (omega arith) in
    let e5 = same 5 (omega arith) in
    let e6 = same 6 (omega arith) in
    let e7 = same 7 (omega arith) in
    omega (arith, e0, e1, e2, e3, e4, e5, e6, e7)

-- each byte of a word is a field of it
pub byte_is_lane : (word j : ℕ) → j < 8 → slice_index (bytes_low_first 0 8 word) j ≡ lane 8 word j
unfolding lane
byte_is_lane word zero lt = omega arith
byte_is_lane word (suc zero) lt = refl
byte_is_lane word (suc (suc zero)) lt = refl
byte_is_lane word (suc (suc (suc zero))) lt = refl
byte_is_lane word (suc (suc (suc (suc zero)))) lt = refl
byte_is_lane word (suc (suc (suc (suc (suc zero))))) lt = refl
byte_is_lane word (suc (suc (suc (suc (suc (suc zero)))))) lt = refl
byte_is_lane word (suc (suc (suc (suc (suc (suc (suc zero))))))) lt = refl
byte_is_lane word (suc (suc (suc (suc (suc (suc (suc (suc j)))))))) lt = absurd (omega arith)

-- eight fields laid into a list, from a place on
laid_there : (first word : ℕ) (xs v : List ℕ) (i : ℕ) → first + 8 ≤ length xs → length v ≡ 8
    → ((j : ℕ) → j < 8 → slice_index v j ≡ lane 8 word j)
    → (i < first) ⊎ (first ≤ i) → (i < first + 8) ⊎ (first + 8 ≤ i)
    → slice_index (put_chunk first xs v) i
    ≡ (if nat_le first i && nat_lt i (first + 8) then lane 8 word (i - first) else slice_index xs i)
laid_there first word xs v i room long is (inl low) _ =
    let e = get_or-put_chunk_below first xs v i 0 low in
    grind (arith, nat_tests, e, low)
laid_there first word xs v i room long is (inr high) (inl low) =
    let back : first + (i - first) ≡ i = omega arith in
    let e = ap (λ (n : ℕ). slice_index (put_chunk first xs v) n) (sym back)
    ∙ get_or-put_chunk_at first xs v (i - first) 0 (omega (arith, long)) (omega (arith, long))
    ∙ is (i - first) (omega arith) in
    grind (arith, nat_tests, e, high, low)
laid_there first word xs v i room long is (inr high) (inr past) =
    let e = get_or-put_chunk_above first xs v i 0 (omega (arith, long)) in
    grind (arith, nat_tests, e, past)

pub octets_laid : (first word : ℕ) (xs v : List ℕ) → first + 8 ≤ length xs → length v ≡ 8
    → ((j : ℕ) → j < 8 → slice_index v j ≡ lane 8 word j) → (i : ℕ)
    → slice_index (put_chunk first xs v) i
    ≡ (if nat_le first i && nat_lt i (first + 8) then lane 8 word (i - first) else slice_index xs i)
octets_laid first word xs v room long is i =
    laid_there first word xs v i room long is (cases_lt i first) (cases_lt i (first + 8))
