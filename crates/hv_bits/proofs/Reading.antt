-- What a reader's place says of the bits from there on.
use Rattle.std.proofs.Common.{◌≡◌, ℕ, suc, ◌+◌, ◌-◌, ◌*◌, ◌/◌, ◌^◌, ◌<◌, Bool, List, ◌∷◌, length, take, drop, sym, ap}
use Rattle.std.proofs.Common.{◌∙◌, arith, length-drop}
use Rattle.std.specs.Prelude.{slice_index, bit_and, ◌==◌}
use Rattle.std.proofs.lemmas.List.{drop-drop}
use Rattle.spec_bits.specs.Bits.{bits, digit, number_after}
use Rattle.spec_bits.proofs.Numbers.{shr_and_one-bit_of, doubled_below}
use Rattle.spec_bits.proofs.Places.{length-bits, drop-bits}

-- how many bits a place leaves
pub length-drop-bits : (bytes : List ℕ) (place : ℕ) (left : List Bool) → drop place (bits bytes) ≡ left
    → length left ≡ 8 * length bytes - place
length-drop-bits bytes place left is =
    ap length (sym is) ∙ length-drop place (bits bytes) ∙ ap (λ n. n - place) (length-bits bytes)

-- where a bit is left, its byte is there
pub byte_inside : (bytes : List ℕ) (byte bit : ℕ) (left : List Bool) → drop (8 * byte + bit) (bits bytes) ≡ left
    → 0 < length left → byte < length bytes
byte_inside bytes byte bit left is some = omega (arith, length-drop-bits bytes (8 * byte + bit) left is)

-- the bit at a place, as the code tests it, and the bits from the next place on
pub bit_at_place : (bytes : List ℕ) (byte bit next : ℕ) (left : List Bool) → drop (8 * byte + bit) (bits bytes) ≡ left
    → 0 < length left → bit < 8 → 8 * byte + bit + 1 ≡ next
    → left ≡ (bit_and (slice_index bytes byte / 2 ^ (7 - bit)) 1 == 1) ∷ drop next (bits bytes)
bit_at_place bytes byte bit next left is some low e =
    sym is ∙ drop-bits bytes byte bit low (byte_inside bytes byte bit left is some)
    ∙ ap (λ b. b ∷ drop (8 * byte + bit + 1) (bits bytes)) (sym (shr_and_one-bit_of (slice_index bytes byte) (7 - bit)))
    ∙ ap (λ k. (bit_and (slice_index bytes byte / 2 ^ (7 - bit)) 1 == 1) ∷ drop k (bits bytes)) e

-- one bit more of a number, and of what spells the whole
pub record ReadsOn (value n i total : ℕ) (now whole : List Bool) : Type 0 where
  pub told : number_after value (take (n - i) now) ≡ total
  pub rest : now ≡ drop i whole
  pub small : value < 2 ^ i

pub ReadsOn-bit : (value n i total : ℕ) (now whole : List Bool) (b : Bool) (next : List Bool) (d : ℕ) → d ≡ digit b
    → i < n → now ≡ b ∷ next → ReadsOn value n i total now whole → ReadsOn (2 * value + d) n (i + 1) total next whole
ReadsOn-bit value n i total now whole b next d is lt e r =
    let m : n - i ≡ suc (n - (i + 1)) = omega arith in
    record {
      told =
          rw is (sym (ap (λ k. number_after value (take k now)) m
          ∙ ap (λ bs. number_after value (take (suc (n - (i + 1))) bs)) e)
          ∙ r.told);
      rest = sym (ap (drop 1) (sym r.rest ∙ e)) ∙ drop-drop 1 i whole;
      small = rw is (doubled_below value i b r.small);
    }
