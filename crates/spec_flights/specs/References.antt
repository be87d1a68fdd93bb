-- Which pictures stand in the decoded picture buffer before each picture of a flight, and the blocks of its coding tree
-- units that are predicted from them (8.3.2, 8.5.3.3, C.5.2.2).
use Rattle.std.specs.Prelude.{ℕ, zero, suc, ◌+◌, ◌*◌, List, [], ◌∷◌, ◌++◌, map, length, Option, Some, None, slice_get}
use Rattle.std.specs.Prelude.{if◌then◌else◌}
use Rattle.std.specs.List.{flat_map, range_with_len}
use Rattle.std.specs.Option.{option_and_then, option_map}
use Rattle.header_types.specs.declared.reference_pictures.RefEntry.{RefEntry}
use Rattle.spec_known_units.specs.PlanTypes.{SegmentPlan}
use Rattle.spec_known_units.specs.PlanTypes.{PicturePlan}
use Rattle.ctu_records.specs.declared.item.Item.{Item}
use Rattle.ctu_records.specs.declared.item.Item.TheVariants.{Prediction}
use Rattle.ctu_records.specs.declared.prediction.Rectangle.{Rectangle}
use Rattle.ctu_records.specs.Prediction.{part_block}
use Rattle.sample_words.specs.SpecMotion.{Motion}
use Rattle.sample_words.specs.SpecMotion.{Vector}
use Rattle.sample_words.specs.SpecMotion.{SliceMotion}
use Rattle.sample_words.specs.SpecMotion.{Known, reference_in}
use Rattle.spec_known_units.specs.SpecPictureTrees.{SegmentAt, TreeUnit}
use Rattle.spec_known_units.specs.SpecPictureTrees.{first_row}
use Rattle.spec_known_units.specs.SpecPictureTrees.{picture_shape, slice_start}
use Rattle.spec_known_units.specs.Known.{KnownUnit, picture_segments, segment_having, units_known}
use Rattle.spec_decoder.specs.SpecPictureMotion.{known_of_unit}
use Rattle.spec_decoder.specs.SpecPictureMotion.{collocated_entry, slice_motion}
use Rattle.spec_decoder.specs.SpecPictureBuild.{DecodedPicture, motions_of}
use Rattle.spec_decoder.specs.Decoder.{BufferPicture, is_among, kept_as}
use Rattle.flight_plan.specs.declared.row_range.Reference.{Reference}
use Rattle.flight_plan.specs.declared.row_range.Reference.TheVariants.{Base, Flight}
use Rattle.board_core.specs.declared.predicted_blocks.PredictedBlock.{PredictedBlock}
use Rattle.spec_flights.specs.Pictures.{PlannedFlight, known_decoded, known_folded, pictures_before}

-- of items the first of which has this place, those whose places stay
unfoldable pub staying : {X : Type 0} → List ℕ → ℕ → List X → List X
staying places place [] = []
staying places place (x ∷ later) =
    if is_among places place then x ∷ staying places (suc place) later else staying places (suc place) later

-- the pictures of the buffer behind a picture of this place in the flight, by name
unfoldable pub names_behind : List Reference → ℕ → Option PicturePlan → List Reference
names_behind names k None = names
names_behind names k (Some p) = staying p.outputs.kept 0 (names ++ Flight k ∷ [])

-- the pictures of the buffer before the picture at a place of the flight, by name: those that were decoded before the
-- flight by their places in the buffer then, those of the flight by their places there
unfoldable pub names_before : PlannedFlight → ℕ → List Reference
names_before f zero = map Base (range_with_len 0 (length f.buffer))
names_before f (suc k) = names_behind (names_before f k) k (slice_get f.pictures k)

-- the picture that a name stands for: of the buffer before the flight, or what the known units of one of the flight
-- make
abbrev pub picture_named : PlannedFlight → Reference → Option BufferPicture
picture_named f (Base place) = slice_get f.buffer place
picture_named f (Flight k) =
    option_map (λ p. kept_as p (known_decoded (pictures_before f k) p)) (slice_get f.pictures k)

-- the slice segment that has the unit at an address
unfoldable pub segment_of : PicturePlan → ℕ → Option SegmentPlan
segment_of p address =
    option_and_then (λ (at : SegmentAt). slice_get p.segments at.number) (segment_having (picture_segments p) address)

-- the picture that an entry of a reference picture list names
abbrev pub named : List Reference → RefEntry → Option Reference
named names entry = slice_get names entry.place

-- the collocated picture of a segment's slice (8.5.3.2.8)
abbrev pub collocated_by : List Reference → PicturePlan → SegmentPlan → Option Reference
collocated_by names p s = option_and_then (named names) (collocated_entry s.header.slice (slice_start p s).lists)

-- that of the slice of the unit at an address
unfoldable pub collocated_at : List Reference → PicturePlan → ℕ → Option Reference
collocated_at names p address = option_and_then (collocated_by names p) (segment_of p address)

-- a block of places of a unit that is predicted by a vector from a picture, in luma lines of the picture; the unit's
-- first row of places is this
abbrev pub block_from : ℕ → Rectangle → Vector → Option Reference → List PredictedBlock
block_from row block v None = []
block_from row block v (Some reference) =
    record { reference = reference; first = 4 * (row + block.y); lines = 4 * block.height; down = v.mv.y } ∷ []

-- the same by the vector of a list of a slice, where it has one
abbrev pub block_by : List Reference → SliceMotion → ℕ → Rectangle → ℕ → Option Vector → List PredictedBlock
block_by names slice row block list None = []
block_by names slice row block list (Some v) =
    block_from row block v (slice_get names (reference_in slice list v.ref_idx).picture)

-- by motion: one block for each vector
abbrev pub blocks_by : List Reference → SliceMotion → ℕ → Rectangle → Option Motion → List PredictedBlock
blocks_by names slice row block None = []
blocks_by names slice row block (Some m) =
    block_by names slice row block 0 m.list_0 ++ block_by names slice row block 1 m.list_1

-- those of a prediction unit, by what is known of its coding tree unit's motion
abbrev pub item_blocks : List Reference → SliceMotion → ℕ → Known → Item → List PredictedBlock
item_blocks names slice row motion (Prediction unit) =
    blocks_by names slice row (part_block unit.unit unit.part_mode unit.part)
    (motion ((part_block unit.unit unit.part_mode unit.part).x + 1)
    ((part_block unit.unit unit.part_mode unit.part).y + 1))
item_blocks names slice row motion other = []

-- a known unit as it is handed over
abbrev pub given_at : ℕ → KnownUnit → TreeUnit
given_at address known = record { segment = known.segment; ctu = address; read = known.read }

-- what is known of its motion, in the whole picture
abbrev pub known_motion : List DecodedPicture → PicturePlan → SegmentPlan → ℕ → KnownUnit → Known
known_motion buffer p s address known =
    known_of_unit (motions_of buffer) p s (given_at address known) (known_folded buffer p).motions

-- the blocks of a known unit of a segment
abbrev pub segment_blocks : List Reference → List DecodedPicture → PicturePlan → ℕ → KnownUnit → Option SegmentPlan
    → List PredictedBlock
segment_blocks names buffer p address known None = []
segment_blocks names buffer p address known (Some s) =
    flat_map
    (item_blocks names (slice_motion p s address) (first_row (picture_shape p.sps p.pps) address)
    (known_motion buffer p s address known))
    known.read.items

abbrev pub known_blocks : List Reference → List DecodedPicture → PicturePlan → ℕ → Option KnownUnit
    → List PredictedBlock
known_blocks names buffer p address None = []
known_blocks names buffer p address (Some known) =
    segment_blocks names buffer p address known (slice_get p.segments known.segment)

-- the blocks of the unit at an address that are predicted from other pictures, one for each vector; none where the unit
-- isn't known
abbrev pub blocks_in : List Reference → List DecodedPicture → ℕ → Option PicturePlan → List PredictedBlock
blocks_in names buffer address None = []
blocks_in names buffer address (Some p) = known_blocks names buffer p address (units_known p address)

unfoldable pub blocks_at : PlannedFlight → ℕ → ℕ → List PredictedBlock
blocks_at f k address = blocks_in (names_before f k) (pictures_before f k) address (slice_get f.pictures k)
