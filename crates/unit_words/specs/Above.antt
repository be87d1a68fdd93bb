-- What the units of the next row ask of the words of a unit, and what those words are.
use Rattle.std.specs.Prelude.{◌≡◌, ℕ, ◌-◌, ◌*◌, ◌<◌, ◌≤◌, Option, is_none, List, length, slice_index}
use Rattle.std.specs.Option.{unwrap_or}
use Rattle.std.specs.List.{All}
use Rattle.ctu_records.specs.Tree.{Ctu, no_side}
use Rattle.unit_trees.specs.SpecSliceData.{side_of}
use Rattle.spec_motion.specs.declared.vectors.Motion.{Motion}
use Rattle.spec_bits.specs.Bits.{bits}
use Rattle.unit_trees.specs.SpecCabac.{IsLive}
use Rattle.unit_trees.specs.CabacContexts.{unpacked}
use Rattle.unit_trees.specs.declared.units.UnitReader.{UnitReader}
use Rattle.sample_words.specs.Carried.{carried_word}
use Rattle.sample_words.specs.declared.carry.Carry.{Carry}
use Rattle.sample_words.specs.declared.modes.PlaceModes.{PlaceModes}
use Rattle.sample_words.specs.Offsets.{IsSao, first_word, second_word}
use Rattle.sample_words.specs.Values.{IsModes, IsMotion, modes_word, vectors_word}
use Rattle.unit_words.specs.Units.{no_motion}

-- words are those of the modes of the lowest places of a unit whose side has n places, as far as the picture has them,
-- and those of its offsets; behind them nothing was read
pub record AreBottom (n : ℕ) (ctu : Ctu) (modes offsets : List ℕ) : Type 0 where
  pub place : ℕ → PlaceModes
  pub motion : ℕ → Motion
  pub words : (k : ℕ) → k < length modes → slice_index modes k ≡ modes_word (place k) (motion k)
  pub modes_fit : (k : ℕ) → k < length modes → IsModes (place k)
  pub motion_fits : (k : ℕ) → k < length modes → IsMotion (motion k)
  pub sides : (k : ℕ) → k < length modes → (place k).side ≡ side_of ctu k (n - 1)
  pub behind : (k : ℕ) → length modes ≤ k → side_of ctu k (n - 1) ≡ no_side
  pub offsets_fit : IsSao ctu.sao
  pub first : slice_index offsets 0 ≡ first_word ctu.sao
  pub second : slice_index offsets 1 ≡ second_word ctu.sao

-- both words of a place that has vectors exactly where it isn't predicted in intra mode
pub record ArePlace (motion : Option Motion) (place : PlaceModes) (first second : ℕ) : Type 0 where
  pub intra : place.side.intra ≡ is_none motion
  pub modes_fit : IsModes place
  pub motion_fits : IsMotion (unwrap_or motion no_motion)
  pub vectors : first ≡ vectors_word (unwrap_or motion no_motion)
  pub modes : second ≡ modes_word place (unwrap_or motion no_motion)

-- words are those of what is carried on
pub record AreOfCarry (words : List ℕ) (carry : Carry) : Type 0 where
  pub state : length carry.state ≡ 3
  pub contexts : length carry.contexts ≡ 20
  pub each : (k : ℕ) → k < 24 → slice_index words k ≡ carried_word carry k

-- contexts that may be
pub record AreContexts (contexts : List ℕ) : Type 0 where
  pub count : length contexts ≡ 154
  pub small : All (λ value. value < 126) contexts

-- a reader of these bytes, of which a bin may be asked
pub record ReadsOn (bytes : List ℕ) (reader : UnitReader) : Type 0 where
  pub bits : reader.bins.interval.bits ≡ bits bytes
  pub inside : reader.bins.interval.at ≤ length reader.bins.interval.bits
  pub live : IsLive reader.bins.interval
  pub contexts : AreContexts reader.bins.contexts

-- what may be gone on with, over these bytes
pub record MayResume (bytes : List ℕ) (carry : Carry) : Type 0 where
  pub low : 256 ≤ slice_index carry.state 0
  pub high : slice_index carry.state 0 ≤ 510
  pub below : slice_index carry.state 1 < slice_index carry.state 0
  pub left : slice_index carry.state 2 ≤ 8 * length bytes
  pub contexts : All (λ value. value < 126) (unpacked carry.contexts)
