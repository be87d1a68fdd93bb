-- What bins leave to a writer: an interval of numbers, of which the data's first bits spell one (9.3.4.3, turned
-- round).
use Rattle.std.specs.Prelude.{◌≡◌, ℕ, ◌+◌, ◌-◌, ◌*◌, ◌/◌, ◌%◌, ◌^◌, ◌<◌, ◌==◌, Bool, true, false, List, [], ◌∷◌, ◌++◌}
use Rattle.std.specs.Prelude.{length, drop, replicate, Some, slice_index, slice_set, if◌then◌else◌}
use Rattle.std.specs.Bool.{beq}
use Rattle.spec_bits.specs.Spelling.{u_bits}
use Rattle.spec_formats.specs.Format.{Word, Has}
use Rattle.spec_cabac.specs.Bins.{Bin, BinValue, Decision, Bypass, Terminate, PcmStart, Sample, PcmEnd, bin_at}
use Rattle.spec_cabac.specs.Contexts.{lps_range_of, context_after_lps, context_after_mps}
use Rattle.spec_cabac.specs.Engine.{Engine, doublings, started_at}

-- the first `size` bits spell a number from `low` on, below `low + range`
pub record Coding : Type 0 where
  pub range : ℕ
  pub low : ℕ
  pub size : ℕ

-- before the first bin
abbrev pub no_bins : Coding
no_bins = record { range = 510; low = 0; size = 9 }

-- renormalization: as many bits more as the range is doubled
abbrev pub scaled : ℕ → ℕ → ℕ → Coding
scaled range low size =
    record { range = range * 2 ^ doublings range; low = low * 2 ^ doublings range; size = size + doublings range }

-- whether a bin is the more probable symbol of a context
abbrev pub is_mps : ℕ → Bool → Bool
is_mps context bin = beq bin (context % 2 == 1)

-- a decision by a context
unfoldable pub with_decision : Coding → ℕ → Bool → Coding
with_decision c context bin =
    let lps = lps_range_of (context / 2) c.range in
    if is_mps context bin then scaled (c.range - lps) c.low c.size else scaled lps (c.low + (c.range - lps)) c.size

unfoldable pub context_after : ℕ → Bool → ℕ
context_after context bin = if is_mps context bin then context_after_mps context else context_after_lps context

unfoldable pub with_bypass : Coding → Bool → Coding
with_bypass c bin = record { range = c.range; low = 2 * c.low + (if bin then c.range else 0); size = c.size + 1 }

-- a bin before termination: behind a 1 nothing is renormalized, and the last bit is the stop bit
unfoldable pub with_terminate : Coding → Bool → Coding
with_terminate c true = record { range = 2; low = c.low + (c.range - 2); size = c.size }
with_terminate c false = scaled (c.range - 2) c.low c.size

-- the bits that are written behind a terminate bin of 1: of the two numbers that are left the odd one
unfoldable pub coded_bits : Coding → List Bool
coded_bits c = u_bits c.size (2 * (c.low / 2) + 1)

-- how many zeros fill the last byte of so many bits
abbrev pub filling : ℕ → ℕ
filling n = (8 - n % 8) % 8

-- these bits, and zeros up to the end of their last byte
abbrev pub flushed_bits : Coding → List Bool
flushed_bits c = coded_bits c ++ replicate (filling (length (coded_bits c))) false

-- an interval and the contexts, behind a bin
abbrev pub Writing : Type 0
Writing = Coding × List ℕ

unfoldable pub with_word : Writing → Word Bin BinValue → Writing
with_word s (Decision i, bin) =
    (with_decision s.0 (slice_index s.1 i) bin, slice_set s.1 i (context_after (slice_index s.1 i) bin))
with_word s (Bypass, bin) = (with_bypass s.0 bin, s.1)
with_word s (Terminate, bin) = (with_terminate s.0 bin, s.1)
with_word s (PcmStart, x) = s
with_word s (Sample size, x) = s
with_word s (PcmEnd, x) = s

abbrev pub with_words : Writing → List (Word Bin BinValue) → Writing
with_words s [] = s
with_words s (w ∷ words) = with_words (with_word s w) words

-- bins behind which others may be written
abbrev pub IsInner : Word Bin BinValue → Type 0
IsInner (Decision i, bin) = Unit {0}
IsInner (Bypass, bin) = Unit {0}
IsInner (Terminate, bin) = bin ≡ false
IsInner (PcmStart, x) = ⊥
IsInner (Sample size, x) = ⊥
IsInner (PcmEnd, x) = ⊥

abbrev pub AreInner : List (Word Bin BinValue) → Type 0
AreInner [] = Unit {0}
AreInner (w ∷ words) = IsInner w × AreInner words

-- each context is one of the 126
abbrev pub AreContexts : List ℕ → Type 0
AreContexts contexts = (i : ℕ) → slice_index contexts i < 126

-- the bits that these bins are written as, by the contexts before them, with a terminate bin of 1 behind them
abbrev pub bits_of : List (Word Bin BinValue) → List ℕ → List Bool
bits_of words contexts = coded_bits (with_terminate (with_words (no_bins, contexts) words).0 true)

-- wherever they stand, the engine that starts there has these bins, and then a terminate bin of 1; the last bit that it
-- reads is the stop bit
pub record IsReadBack (words : List (Word Bin BinValue)) (contexts : List ℕ) (before after : List Bool) : Type 0 where
  pub first : Engine
  pub behind : Engine
  pub started : (range offset : ℕ)
      → started_at (record {
        range = range;
        offset = offset;
        bits = before ++ (bits_of words contexts ++ after);
        at = length before;
      })
      ≡ Some first
  pub has : Has bin_at (first, contexts) (words ++ (Terminate, true) ∷ [])
      (behind, (with_words (no_bins, contexts) words).1)
  pub bits : behind.bits ≡ before ++ (bits_of words contexts ++ after)
  pub at : behind.at ≡ length before + (with_words (no_bins, contexts) words).0.size
  pub stop : drop (behind.at - 1) behind.bits ≡ true ∷ after

-- the same of bins whose last one isn't a terminate bin of 1
pub record IsReadOpen (words : List (Word Bin BinValue)) (contexts : List ℕ) (before after : List Bool) : Type 0 where
  pub first : Engine
  pub behind : Engine
  pub started : (range offset : ℕ)
      → started_at (record {
        range = range;
        offset = offset;
        bits = before ++ (coded_bits (with_words (no_bins, contexts) words).0 ++ after);
        at = length before;
      })
      ≡ Some first
  pub has : Has bin_at (first, contexts) words (behind, (with_words (no_bins, contexts) words).1)
