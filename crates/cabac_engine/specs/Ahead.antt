-- What a register of the offset and of bits that are read ahead stands for.
use Rattle.std.specs.Prelude.{◌≡◌, ℕ, ◌+◌, ◌-◌, ◌*◌, ◌/◌, ◌%◌, ◌^◌, ◌<◌, ◌≤◌, Bool, List, length, take, drop, nat_le}
use Rattle.std.specs.Prelude.{if◌then◌else◌}
use Rattle.spec_bits.specs.Bits.{bits, number_of}
use Rattle.spec_cabac.specs.Engine.{Engine}

-- ivlOffset, how many bits are read ahead, the bits of the substream, and the place of the one that is read next
pub record Ahead : Type 0 where
  pub offset : ℕ
  pub held : ℕ
  pub bits : List Bool
  pub at : ℕ

-- the last held digits of a value are the bits in front of byte next
pub record IsKept (value held next : ℕ) (bytes : List ℕ) : Type 0 where
  pub size : length bytes < 2 ^ 60
  pub inside : next ≤ length bytes
  pub few : held ≤ 55
  pub behind : held ≤ 8 * next
  pub small : value < 512 * 2 ^ held
  pub told : value % 2 ^ held ≡ number_of (take held (drop (8 * next - held) (bits bytes)))

-- the offset with one more bit behind it
abbrev pub lengthened : Ahead → ℕ
lengthened a = 2 * a.offset + number_of (take 1 (drop a.at a.bits))

-- a number less a range that it reaches
abbrev pub reduced : ℕ → ℕ → ℕ
reduced range number = if nat_le range number then number - range else number

-- the register of these fields
abbrev pub ahead : ℕ → ℕ → ℕ → List ℕ → Ahead
ahead value held next bytes =
    record { offset = value / 2 ^ held; held = held; bits = bits bytes; at = 8 * next - held }

-- the engine of a range and a register
abbrev pub engine : ℕ → Ahead → Engine
engine range a = record { range = range; offset = a.offset; bits = a.bits; at = a.at }
