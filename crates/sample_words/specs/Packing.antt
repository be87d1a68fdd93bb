-- Values in a word: fields one behind the other, the first in the lowest bits.
use Rattle.std.specs.Prelude.{ℕ, zero, suc, ◌+◌, ◌*◌, ◌/◌, ◌%◌, ◌^◌, ◌<◌, List, [], ◌∷◌}

-- n fields of so many bits each, and field k of a word of such fields
unfoldable pub lanes : ℕ → ℕ → (ℕ → ℕ) → ℕ
lanes bits zero f = 0
lanes bits (suc n) f = f 0 + 2 ^ bits * lanes bits n (λ k. f (k + 1))

unfoldable pub lane : ℕ → ℕ → ℕ → ℕ
lane bits word k = word / 2 ^ (bits * k) % 2 ^ bits

-- a field: how many bits it has, and its value
pub record Field : Type 0 where
  pub bits : ℕ
  pub value : ℕ

-- a field that has room for its value
abbrev pub Fits : Field → Type 0
Fits f = f.value < 2 ^ f.bits

-- fields of any bits, one behind the other
abbrev pub joined : List Field → ℕ
joined [] = 0
joined (f ∷ fs) = f.value + 2 ^ f.bits * joined fs

abbrev pub field : ℕ → ℕ → Field
field bits value = record { bits = bits; value = value }

-- so many bits of a word from one on
abbrev pub bits_at : ℕ → ℕ → ℕ → ℕ
bits_at first bits word = word / 2 ^ first % 2 ^ bits
