-- The arithmetic decoding engine, one bit at a time (9.3.2.5, 9.3.4.3).
use Rattle.std.specs.Prelude.{ℕ, ◌+◌, ◌-◌, ◌*◌, ◌/◌, ◌%◌, ◌^◌, ◌<◌, ◌≤◌, ◌==◌, Bool, true, false, not, ◌&&◌, List, []}
use Rattle.std.specs.Prelude.{◌∷◌, length, drop, Option, Some, None, nat_lt, nat_le, min, count_by, if◌then◌else◌}
use Rattle.std.specs.List.{list_all}
use Rattle.spec_bits.specs.Bits.{u_at, ◌>>=◌}
use Rattle.spec_cabac.specs.Contexts.{lps_range_of, context_after_lps, context_after_mps}

-- ivlCurrRange, ivlOffset, the bits of the substream, and the place of the one that is read next
pub record Engine : Type 0 where
  pub range : ℕ
  pub offset : ℕ
  pub bits : List Bool
  pub at : ℕ

-- the bits that are not read yet
abbrev pub left : Engine → List Bool
left e = drop e.at e.bits

-- what holds between bins, until a terminate bin is 1
pub record IsLive (e : Engine) : Type 0 where
  pub low : 256 ≤ e.range
  pub high : e.range ≤ 510
  pub below : e.offset < e.range

-- the number that the next n bits spell, and the engine behind them
unfoldable pub number_at : ℕ → Engine → Option (ℕ × Engine)
number_at n e = do
  found ← u_at n (left e)
  Some (found.0, record { range = e.range; offset = e.offset; bits = e.bits; at = e.at + n })

-- initialization at the place of an engine (9.3.2.5): the offsets 510 and 511, which no valid stream has, are taken as
-- 509
unfoldable pub started_at : Engine → Option Engine
started_at e = do
  first ← number_at 9 e
  Some (record { range = 510; offset = min first.0 509; bits = first.1.bits; at = first.1.at })

-- initialization at the first bit
abbrev pub start_at : List Bool → Option Engine
start_at bits = started_at (record { range = 510; offset = 0; bits = bits; at = 0 })

-- how often a range is doubled until it is at least 256: once for each of these that is above it
unfoldable pub doublings : ℕ → ℕ
doublings range = count_by (λ t. nat_lt range t) (256 ∷ 128 ∷ 64 ∷ 32 ∷ 16 ∷ 8 ∷ 4 ∷ 2 ∷ [])

-- renormalization of a range and an offset: a bit is read for each doubling (9.3.4.3.3)
unfoldable pub renormalized_at : ℕ → ℕ → Engine → Option Engine
renormalized_at range offset e = do
  more ← number_at (doublings range) e
  Some (record {
    range = range * 2 ^ doublings range;
    offset = offset * 2 ^ doublings range + more.0;
    bits = more.1.bits;
    at = more.1.at;
  })

-- a decision: the bin, the engine and the context after it (9.3.4.3.2)
unfoldable pub decision_at : Engine × ℕ → Option (Bool × (Engine × ℕ))
decision_at before =
    let e = before.0 in
    let context = before.1 in
    let lps = lps_range_of (context / 2) e.range in
    let mps = context % 2 == 1 in
    if nat_le (e.range - lps) e.offset
    then (do
      after ← renormalized_at lps (e.offset - (e.range - lps)) e
      Some (not mps, (after, context_after_lps context)))
    else (do
      after ← renormalized_at (e.range - lps) e.offset e
      Some (mps, (after, context_after_mps context)))

-- a bypass bin, whose bit leaves the range (9.3.4.3.4)
unfoldable pub bypass_at : Engine → Option (Bool × Engine)
bypass_at e = do
  bit ← number_at 1 e
  let after = bit.1
  let offset = 2 * e.offset + bit.0
  if nat_le after.range offset
      then Some (true, record { range = after.range; offset = offset - after.range; bits = after.bits; at = after.at })
      else Some (false, record { range = after.range; offset = offset; bits = after.bits; at = after.at })

-- a bin before termination: after a 1 nothing is renormalized (9.3.4.3.5)
unfoldable pub terminate_at : Engine → Option (Bool × Engine)
terminate_at e =
    if nat_le (e.range - 2) e.offset
    then Some (true, record { range = e.range - 2; offset = e.offset; bits = e.bits; at = e.at })
    else (do
      after ← renormalized_at (e.range - 2) e.offset e
      Some (false, after))

-- behind a terminate bin of 1 the last bit that was read is a stop bit, and samples of pulse code modulation begin at
-- the next byte: its place, and the engine there; none where there is no such byte (7.3.8.7, 9.3.2.5)
unfoldable pub pcm_start_at : Engine → Option (ℕ × Engine)
pcm_start_at e =
    let byte = (e.at + 7) / 8 in
    if nat_lt (8 * byte) (length e.bits)
    then Some (byte, record { range = e.range; offset = e.offset; bits = e.bits; at = 8 * byte })
    else None

-- a sample of n bits there
abbrev pub sample_at : ℕ → Engine → Option (ℕ × Engine)
sample_at n e = number_at n e

-- behind the samples the engine starts anew
abbrev pub pcm_end_at : Engine → Option Engine
pcm_end_at e = started_at e

-- a 1 and zero bits
abbrev pub is_stop : List Bool → Bool
is_stop [] = false
is_stop (bit ∷ bits) = bit && list_all not bits

-- whether what stands from the last bit that was read on is rbsp_slice_segment_trailing_bits: that bit is the stop bit,
-- and zero bits follow it (7.3.2.10, 9.3.2.5)
unfoldable pub is_trailing : Engine → Bool
is_trailing e = is_stop (drop (e.at - 1) e.bits)
