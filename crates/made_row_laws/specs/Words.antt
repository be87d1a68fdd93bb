-- The bins and samples of the rows of IDR pictures, as they are read (7.3.8.5, 7.3.8.7), and the flags behind units
-- (7.3.8.1).
use Rattle.std.specs.Prelude.{ℕ, zero, suc, ◌+◌, ◌%◌, ◌==◌, true, false, List, [], ◌∷◌, ◌++◌, map, get_or}
use Rattle.std.specs.Prelude.{if◌then◌else◌}
use Rattle.spec_cabac.specs.Bins.{Terminate, PcmStart, PcmEnd}
use Rattle.cabac_writer.specs.Pulses.{Pulse, sample_words, ending}
use Rattle.spec_slice_data.specs.declared.syntax.End.{End}
use Rattle.spec_slice_data.specs.declared.syntax.End.TheVariants as end
use Rattle.spec_made.specs.declared.units.InterUnit.{InterUnit}
use Rattle.spec_made.specs.declared.units.Motion.{Motion}
use Rattle.spec_made.specs.declared.units.PcmUnit.{PcmUnit}
use Rattle.spec_made.specs.Draws.{no_unit}
use Rattle.spec_made.specs.Written.{Bins}
use Rattle.spec_made.specs.InterRows.{above_of, later_motion, left_of, unit_words}
use Rattle.spec_made.specs.PcmRows.{Part, no_samples, parts_of}

-- samples of 8 bits
abbrev pub pulses_of : List ℕ → List Pulse
pulses_of samples = map (λ value. record { size = 8; value = value }) samples

-- coding units by pulse code modulation, and what follows them: behind the bins of each pcm_flag, which is 1, and its
-- samples
abbrev pub words_of_parts : List Part → Bins → Bins
words_of_parts [] rest = rest
words_of_parts (p ∷ parts) rest =
    (p.bins ++ ending)
    ++ (PcmStart, tt) ∷ (sample_words (pulses_of p.samples) ++ (PcmEnd, tt) ∷ words_of_parts parts rest)

-- the unit of a number, without what follows it
unfoldable pub inter_words : Motion → List InterUnit → ℕ → Bins
inter_words m units i =
    unit_words (if i == 0 then m else later_motion m) (later_motion m) (left_of units i) (above_of units i)
    (get_or units i no_unit)

unfoldable pub pcm_words : List PcmUnit → ℕ → Bins
pcm_words units i = words_of_parts (parts_of units i (get_or units i no_samples) []) []

-- what follows the unit of a number: the end of the segment, the end of its row, or the next unit
unfoldable pub end_behind : ℕ → End
end_behind i = if i == 47 then end.Segment else (if i % 8 == 7 then end.Subset else end.More)

-- end_of_slice_segment_flag and end_of_subset_one_bit
unfoldable pub flags_behind : ℕ → Bins
flags_behind i =
    if i == 47 then (Terminate, true) ∷ []
    else (if i % 8 == 7 then (Terminate, false) ∷ (Terminate, true) ∷ [] else (Terminate, false) ∷ [])

-- so many units from one on, by the words of each
unfoldable pub row_words : (ℕ → Bins) → ℕ → ℕ → Bins
row_words words i zero = []
row_words words i (suc n) = words i ++ (flags_behind i ++ row_words words (i + 1) n)
