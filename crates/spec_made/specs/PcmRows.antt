-- The substreams of IDR pictures: bins, and samples of pulse code modulation (7.3.8.4, 7.3.8.5, 7.3.8.7), row by row.
use Rattle.std.specs.Prelude.{ℕ, zero, suc, ◌+◌, ◌-◌, ◌*◌, ◌%◌, ◌==◌, nat_lt, Bool, true, false, List, [], ◌∷◌}
use Rattle.std.specs.Prelude.{◌++◌, take, drop, get_or, pos, if◌then◌else◌}
use Rattle.spec_cabac.specs.Bins.{Decision}
use Rattle.spec_cabac.specs.Contexts.{first_contexts}
use Rattle.spec_cabac.specs.declared.init_values.TheConstants.{SPLIT_CU_FLAG, PART_MODE}
use Rattle.cabac_writer.specs.Pulses.{contexts_behind}
use Rattle.spec_made.specs.declared.units.PcmUnit.{PcmUnit}
use Rattle.spec_made.specs.Written.{Bins, section_bytes}
use Rattle.spec_made.specs.InterRows.{beside, end_words}

abbrev pub no_samples : PcmUnit
no_samples = record { split = false; samples = [] }

-- whether the units on the left and above are split
abbrev pub split_left : List PcmUnit → ℕ → Bool
split_left units i = if i % 8 == 0 then false else (get_or units (i - 1) no_samples).split

abbrev pub split_above : List PcmUnit → ℕ → Bool
split_above units i = if nat_lt i 8 then false else (get_or units (i - 8) no_samples).split

-- a coding unit: the bins before its pcm_flag, which is 1, and its samples
pub record Part : Type 0 where
  pub bins : Bins
  pub samples : List ℕ

abbrev pub split_word : List PcmUnit → ℕ → Bool → Bins
split_word units i split = (Decision (SPLIT_CU_FLAG + beside (split_left units i) (split_above units i)), split) ∷ []

-- part_mode of the least coding units
abbrev pub whole_word : Bins
whole_word = (Decision PART_MODE, true) ∷ []

abbrev pub quarter_of : List ℕ → ℕ → List ℕ
quarter_of samples q = take 96 (drop (96 * q) samples)

abbrev pub later_part : List ℕ → ℕ → Part
later_part samples q = record { bins = whole_word; samples = quarter_of samples q }

abbrev pub later_parts : List ℕ → List Part
later_parts samples = later_part samples 1 ∷ later_part samples 2 ∷ later_part samples 3 ∷ []

-- the four coding units of a unit that is split, behind bins of what stood before it
abbrev pub split_parts : List PcmUnit → ℕ → PcmUnit → Bins → List Part
split_parts units i u before =
    record { bins = before ++ (split_word units i true ++ whole_word); samples = quarter_of u.samples 0 }
    ∷ later_parts u.samples

-- the one of another unit
abbrev pub whole_part : List PcmUnit → ℕ → PcmUnit → Bins → Part
whole_part units i u before = record { bins = before ++ split_word units i false; samples = u.samples }

-- the coding units of a unit
abbrev pub parts_of : List PcmUnit → ℕ → PcmUnit → Bins → List Part
parts_of units i u before =
    if u.split then split_parts units i u before else whole_part units i u before ∷ []

-- those of so many units from one on
unfoldable pub parts_from : List PcmUnit → ℕ → ℕ → Bins → List Part
parts_from units i zero before = []
parts_from units i (suc n) before =
    parts_of units i (get_or units i no_samples) before ++ parts_from units (i + 1) n (end_words i)

-- the bytes of one: its bins with a terminate bin of 1, and its samples
abbrev pub bytes_of_part : Part → List ℕ → List ℕ
bytes_of_part p contexts = section_bytes p.bins contexts ++ p.samples

-- the bytes of all, and the contexts behind them
abbrev pub part_bytes : List Part → List ℕ → List ℕ
part_bytes [] contexts = []
part_bytes (p ∷ parts) contexts =
    bytes_of_part p contexts ++ part_bytes parts (contexts_behind p.bins contexts)

abbrev pub contexts_behind_parts : List Part → List ℕ → List ℕ
contexts_behind_parts [] contexts = contexts
contexts_behind_parts (p ∷ parts) contexts = contexts_behind_parts parts (contexts_behind p.bins contexts)

-- the bytes of a row, by the contexts before it: its coding units, and its last bins
unfoldable pub row_bytes : List PcmUnit → ℕ → List ℕ → List ℕ
row_bytes units r contexts =
    let parts = parts_from units (8 * r) 8 [] in
    part_bytes parts contexts ++ section_bytes (end_words (8 * r + 7)) (contexts_behind_parts parts contexts)

-- the contexts before each row: the first ones, or those behind the second unit of the row above (9.3.1)
unfoldable pub pcm_contexts_at : List PcmUnit → ℕ → List ℕ
pcm_contexts_at units zero = first_contexts (pos 26) 0
pcm_contexts_at units (suc r) =
    contexts_behind_parts (parts_from units (8 * r) 2 []) (pcm_contexts_at units r)

unfoldable pub pcm_row : List PcmUnit → ℕ → List ℕ
pcm_row units r = row_bytes units r (pcm_contexts_at units r)
