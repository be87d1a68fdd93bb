-- How the bits that an encoder flushes are read, where they are a substream by themselves.
use Rattle.std.specs.Prelude.{◌≡◌, ℕ, Bool, true, List, [], ◌∷◌, ◌++◌, Some}
use Rattle.spec_formats.specs.Format.{Word, Has}
use Rattle.spec_cabac.specs.Bins.{Bin, BinValue, Terminate, bin_at}
use Rattle.spec_cabac.specs.Engine.{Engine, start_at, is_trailing}
use Rattle.cabac_writer.specs.Coding.{no_bins, with_words}

-- the engine that starts at the first of these bits has these bins, whatever comes behind them
pub record HaveBins (flushed : List Bool) (words : List (Word Bin BinValue)) (contexts : List ℕ) : Type 0 where
  pub first : Engine
  pub behind : Engine
  pub started : start_at flushed ≡ Some first
  pub has : Has bin_at (first, contexts) words (behind, (with_words (no_bins, contexts) words).1)

-- it has these bins and a terminate bin of 1, and behind them trailing bits alone
pub record HaveAllBins (flushed : List Bool) (words : List (Word Bin BinValue)) (contexts : List ℕ) : Type 0 where
  pub first : Engine
  pub behind : Engine
  pub started : start_at flushed ≡ Some first
  pub has : Has bin_at (first, contexts) (words ++ (Terminate, true) ∷ [])
      (behind, (with_words (no_bins, contexts) words).1)
  pub trailing : is_trailing behind ≡ true
