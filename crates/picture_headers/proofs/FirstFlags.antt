-- The first bit of a payload.
use Rattle.std.proofs.Common.{◌≡◌, ℕ, ◌/◌, ◌%◌, ◌<◌, ◌==◌, List, [], ◌∷◌, length, drop, Some, None, ap, arith, refl}
use Rattle.std.specs.Prelude.{nat_le, slice_index}
use Rattle.std.proofs.lemmas.Bool.Decides.{nat_tests}
use Rattle.spec_bits.specs.Bits.{bit_of, bits}
use Rattle.spec_bits.proofs.Bytes.{bits-nil}
use Rattle.spec_bits.proofs.Places.{drop-bits_at}
use Rattle.spec_picture_plan.specs.Steps.{first_flag}

high_bit : (byte : ℕ) → byte < 256 → nat_le 128 byte ≡ (byte / 128 % 2 == 1)
high_bit byte small = grind (arith, nat_tests)

top_bit : (byte : ℕ) → byte < 256 → nat_le 128 byte ≡ bit_of byte 7
unfolding bit_of
top_bit byte small = high_bit byte small

pub first_of_none : (payload : List ℕ) → length payload < 1 → None ≡ first_flag (bits payload)
first_of_none [] short = rw bits-nil refl
first_of_none (byte ∷ payload) short = absurd (omega arith)

pub first_of_some : (payload : List ℕ) → 0 < length payload → slice_index payload 0 < 256
    → Some (nat_le 128 (slice_index payload 0)) ≡ first_flag (bits payload)
first_of_some payload long small =
    let front : bits payload ≡ bit_of (slice_index payload 0) 7 ∷ drop 1 (bits payload) =
    drop-bits_at payload 0 (omega arith) in
    let found : first_flag (bits payload) ≡ Some (bit_of (slice_index payload 0) 7) = ap first_flag front in
    let top = top_bit (slice_index payload 0) small in
    cc
