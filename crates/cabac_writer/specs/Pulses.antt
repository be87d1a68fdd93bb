-- Substreams: bins, and between them samples of pulse code modulation (7.3.8.7, 9.3.2.5).
use Rattle.std.specs.Prelude.{◌≡◌, ℕ, ◌-◌, ◌%◌, ◌^◌, ◌<◌, Bool, true, false, List, [], ◌∷◌, ◌++◌, length, drop}
use Rattle.std.specs.Prelude.{replicate, Some}
use Rattle.spec_bits.specs.Spelling.{u_bits}
use Rattle.spec_formats.specs.Format.{Word, Has}
use Rattle.spec_cabac.specs.Bins.{Bin, BinValue, Terminate, PcmStart, Sample, PcmEnd, bin_at}
use Rattle.spec_cabac.specs.Engine.{Engine, started_at}
use Rattle.cabac_writer.specs.Coding.{no_bins, with_words, with_terminate, flushed_bits, AreInner}

-- a sample of so many bits
pub record Pulse : Type 0 where
  pub size : ℕ
  pub value : ℕ

abbrev pub AreSamples : List Pulse → Type 0
AreSamples [] = Unit {0}
AreSamples (s ∷ samples) = (s.value < 2 ^ s.size) × AreSamples samples

abbrev pub sample_words : List Pulse → List (Word Bin BinValue)
sample_words [] = []
sample_words (s ∷ samples) = (Sample s.size, s.value) ∷ sample_words samples

abbrev pub sample_bits : List Pulse → List Bool
sample_bits [] = []
sample_bits (s ∷ samples) = u_bits s.size s.value ++ sample_bits samples

-- samples, and the bins behind them
pub record Pulses : Type 0 where
  pub samples : List Pulse
  pub bins : List (Word Bin BinValue)

abbrev pub ending : List (Word Bin BinValue)
ending = (Terminate, true) ∷ []

-- the words of a substream
abbrev pub substream_words : List (Word Bin BinValue) → List Pulses → List (Word Bin BinValue)
substream_words bins [] = bins ++ ending
substream_words bins (p ∷ later) =
    (bins ++ ending)
    ++ (PcmStart, tt) ∷ (sample_words p.samples ++ (PcmEnd, tt) ∷ substream_words p.bins later)

abbrev pub contexts_behind : List (Word Bin BinValue) → List ℕ → List ℕ
contexts_behind bins contexts = (with_words (no_bins, contexts) bins).1

-- bins and the end of their last byte
unfoldable pub section_bits : List (Word Bin BinValue) → List ℕ → List Bool
section_bits bins contexts = flushed_bits (with_terminate (with_words (no_bins, contexts) bins).0 true)

-- its bits
abbrev pub substream_bits : List (Word Bin BinValue) → List Pulses → List ℕ → List Bool
substream_bits bins [] contexts = section_bits bins contexts
substream_bits bins (p ∷ later) contexts =
    section_bits bins contexts
    ++ (sample_bits p.samples ++ substream_bits p.bins later (contexts_behind bins contexts))

abbrev pub last_contexts : List (Word Bin BinValue) → List Pulses → List ℕ → List ℕ
last_contexts bins [] contexts = contexts_behind bins contexts
last_contexts bins (p ∷ later) contexts = last_contexts p.bins later (contexts_behind bins contexts)

-- what may be written: bins that others may follow, and samples that fit their bits and fill bytes
abbrev pub MayBeWritten : List (Word Bin BinValue) → List Pulses → Type 0
MayBeWritten bins [] = AreInner bins
MayBeWritten bins (p ∷ later) =
    AreInner bins × AreSamples p.samples × (length (sample_bits p.samples) % 8 ≡ 0) × MayBeWritten p.bins later

-- wherever it stands at the beginning of a byte, the engine that starts there has its words; the last bit that it reads
-- is the stop bit, and zeros alone stand behind it in the substream
pub record IsSubstream (bins : List (Word Bin BinValue)) (pulses : List Pulses) (contexts : List ℕ)
    (before after : List Bool) : Type 0 where
  pub first : Engine
  pub behind : Engine
  pub zeros : ℕ
  pub started : (range offset : ℕ)
      → started_at (record {
        range = range;
        offset = offset;
        bits = before ++ (substream_bits bins pulses contexts ++ after);
        at = length before;
      })
      ≡ Some first
  pub has : Has bin_at (first, contexts) (substream_words bins pulses) (behind, last_contexts bins pulses contexts)
  pub bits : behind.bits ≡ before ++ (substream_bits bins pulses contexts ++ after)
  pub stop : drop (behind.at - 1) behind.bits ≡ true ∷ (replicate zeros false ++ after)
  pub few : zeros < 8
