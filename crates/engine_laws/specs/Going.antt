-- The engine and the contexts inside a substream.
use Rattle.std.specs.Prelude.{◌≡◌, ℕ, ◌<◌, ◌≤◌, Bool, List, length, slice_index}
use Rattle.spec_cabac.specs.Bins.{State}
use Rattle.spec_cabac.specs.Engine.{IsLive}

-- the engine has the bits of the substream and is at a place of them, and each context may be
pub record IsWithin (substream : List Bool) (s : State) : Type 0 where
  pub bits : s.0.bits ≡ substream
  pub at : s.0.at ≤ length substream
  pub contexts : (i : ℕ) → slice_index s.1 i < 126

-- and bins may be asked
pub record IsGoing (substream : List Bool) (s : State) : Type 0 where
  pub within : IsWithin substream s
  pub live : IsLive s.0
