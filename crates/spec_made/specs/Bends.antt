-- Rows of made pictures that are spoiled at their last coding tree unit, so that a rule is broken there.
use Rattle.std.specs.Prelude.{ℕ, ◌+◌, ◌*◌, ◌==◌, ◌&&◌, true, false, List, [], ◌∷◌, ◌++◌, Option, Some, None}
use Rattle.std.specs.Prelude.{slice_index_or, if◌then◌else◌}
use Rattle.spec_cabac.specs.Bins.{Terminate}
use Rattle.cabac_writer.specs.Coding.{Writing, no_bins, with_words, with_terminate, flushed_bits}
use Rattle.spec_made.specs.declared.bends.Bend.{Bend}
use Rattle.spec_made.specs.declared.bends.BendKind.{BendKind}
use Rattle.spec_made.specs.declared.bends.BendKind.TheVariants.{Byte, Subset, Slice}
use Rattle.spec_made.specs.declared.units.PcmUnit.{PcmUnit}
use Rattle.spec_made.specs.declared.units.InterUnit.{InterUnit}
use Rattle.spec_made.specs.declared.units.Motion.{Motion}
use Rattle.spec_made.specs.Draws.{no_unit}
use Rattle.spec_made.specs.Written.{Bins, bytes_of}
use Rattle.spec_made.specs.InterRows.{unit_words, later_motion, left_of, above_of, end_words, words_from, contexts_at}
use Rattle.spec_made.specs.InterRows.{contexts_of_motion, inter_row}
use Rattle.spec_made.specs.PcmRows.{parts_from, part_bytes, contexts_behind_parts, pcm_contexts_at, pcm_row}

-- the bytes of bins: behind a terminate bin of 1, and without one
abbrev pub closed_bytes : Writing → List ℕ
closed_bytes s = bytes_of (flushed_bits (with_terminate s.0 true))

abbrev pub open_bytes : Writing → List ℕ
open_bytes s = bytes_of (flushed_bits s.0)

-- the bytes of the last bins of a row, behind all that stand before the end_of_slice_segment_flag of its last unit
abbrev pub bent_end : BendKind → ℕ → Writing → List ℕ
bent_end Byte i s = closed_bytes (with_words s (end_words i)) ++ 255 ∷ []
bent_end Subset i s = open_bytes (with_words (with_words s (end_words i)) ((Terminate, false) ∷ []))
bent_end Slice i s = closed_bytes s

-- a coding tree unit of a P or B picture without what follows it
unfoldable pub bare_words : Motion → List InterUnit → ℕ → Bins
bare_words m units i =
    unit_words (if i == 0 then m else later_motion m) (later_motion m) (left_of units i) (above_of units i)
    (slice_index_or units i no_unit)

-- the bytes of a spoiled row of a P or B picture, by the contexts before it
abbrev pub bent_inter_bytes : BendKind → Motion → List InterUnit → ℕ → List ℕ → List ℕ
bent_inter_bytes kind m units r contexts =
    bent_end kind (8 * r + 7)
    (with_words (with_words (no_bins, contexts) (words_from m units (8 * r) 7)) (bare_words m units (8 * r + 7)))

-- those of an IDR picture
abbrev pub bent_pcm_bytes : BendKind → List PcmUnit → ℕ → List ℕ → List ℕ
bent_pcm_bytes kind units r contexts =
    let parts = parts_from units (8 * r) 8 [] in
    part_bytes parts contexts ++ bent_end kind (8 * r + 7) (no_bins, contexts_behind_parts parts contexts)

-- a row, spoiled or not
abbrev pub inter_row_by : Option BendKind → Motion → List InterUnit → ℕ → List ℕ
inter_row_by None m units r = inter_row m units r
inter_row_by (Some kind) m units r =
    bent_inter_bytes kind m units r (contexts_at (contexts_of_motion m) m units r)

abbrev pub pcm_row_by : Option BendKind → List PcmUnit → ℕ → List ℕ
pcm_row_by None units r = pcm_row units r
pcm_row_by (Some kind) units r = bent_pcm_bytes kind units r (pcm_contexts_at units r)

-- how a row of a picture is spoiled: by the first bend that names it
abbrev pub bend_at : List Bend → ℕ → ℕ → Option BendKind
bend_at [] picture row = None
bend_at (b ∷ bends) picture row =
    if b.picture == picture && b.row == row then Some b.kind else bend_at bends picture row
