-- Planes by their samples.
use Rattle.std.proofs.Common.{◌≡◌, ℕ, ◌+◌, ◌*◌, ◌/◌, ◌%◌, ◌<◌, get_or, length, ap}
use Rattle.std.proofs.Common.{◌∙◌, arith}
use Rattle.std.proofs.lemmas.List.FromFn.{get_or-map-range_with_len, length-map-range_with_len}
use Rattle.spec_made.specs.Planes.{plane_of}

by_place : (sample : ℕ → ℕ → ℕ) (a b x y : ℕ) → a ≡ x → b ≡ y → sample a b ≡ sample x y
by_place sample a b x y e f = ap (λ k. sample k b) e ∙ ap (sample x) f

-- of luma, and of chroma
pub plane_at_16 : (sample : ℕ → ℕ → ℕ) (x y : ℕ) → x < 128 → y < 96
    → get_or (plane_of 16 sample) (128 * y + x) 0 ≡ sample x y
unfolding plane_of
plane_at_16 sample x y few low =
    get_or-map-range_with_len (λ k. sample (k % 128) (k / 128)) 0 12288 (128 * y + x) (128 * y + x) 0 (omega arith)
    (omega arith)
    ∙ by_place sample _ _ x y (omega arith) (omega arith)

pub plane_at_8 : (sample : ℕ → ℕ → ℕ) (x y : ℕ) → x < 64 → y < 48
    → get_or (plane_of 8 sample) (64 * y + x) 0 ≡ sample x y
unfolding plane_of
plane_at_8 sample x y few low =
    get_or-map-range_with_len (λ k. sample (k % 64) (k / 64)) 0 3072 (64 * y + x) (64 * y + x) 0 (omega arith)
    (omega arith)
    ∙ by_place sample _ _ x y (omega arith) (omega arith)

pub length_16 : (sample : ℕ → ℕ → ℕ) → length (plane_of 16 sample) ≡ 12288
unfolding plane_of
length_16 sample = length-map-range_with_len (λ k. sample (k % 128) (k / 128)) 0 12288

pub length_8 : (sample : ℕ → ℕ → ℕ) → length (plane_of 8 sample) ≡ 3072
unfolding plane_of
length_8 sample = length-map-range_with_len (λ k. sample (k % 64) (k / 64)) 0 3072
