-- What a known unit leaves to the next one.
use Rattle.std.specs.Prelude.{◌≡◌, ℕ, ◌+◌, ◌<◌, ◌≤◌, false, [], length, slice_index, slice_index_or}
use Rattle.spec_bits.specs.Bits.{bits}
use Rattle.spec_cabac.specs.Engine.{IsLive}
use Rattle.spec_slice_data.specs.Segment.{begins_row, is_last}
use Rattle.spec_picture_trees.specs.Picture.{SegmentAt}
use Rattle.spec_known_units.specs.Known.{KnownUnit}

-- contexts that may be, and an engine at a place of its bits; without entropy coding sync these are the bits of the
-- segment's one substream; and where the next unit goes on in the substream, bins may be asked
pub record LeavesEngine (at : SegmentAt) (address : ℕ) (known : KnownUnit) : Type 0 where
  pub contexts : (i : ℕ) → slice_index known.contexts i < 126
  pub inside : known.engine.at ≤ length known.engine.bits
  pub whole : at.picture.sync ≡ false → known.engine.bits ≡ bits (slice_index_or at.shape.substreams 0 [])
  pub live : is_last at.shape address ≡ false → begins_row at.picture (address + 1) ≡ false → IsLive known.engine
