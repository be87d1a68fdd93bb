-- A flight as its rows see it: sizes, references, the units at which a rule is broken, and those that are sound.
use Rattle.std.specs.Prelude.{ℕ, ◌+◌, ◌-◌, ◌*◌, List, [], ◌∷◌, map, min, take, length, slice_get, Bool, false}
use Rattle.std.specs.Prelude.{Option, Some, None, is_some, Result, Ok, Err}
use Rattle.std.specs.List.{filter, flat_map, list_all, range_with_len}
use Rattle.hv_base.specs.declared.breach.Breach.{Breach}
use Rattle.hv_base.specs.declared.line.Line.{Line}
use Rattle.hv_base.specs.declared.line.Phase.{Phase}
use Rattle.hv_base.specs.declared.line.Phase.TheVariants.{B, V, H, S}
use Rattle.header_types.specs.SequenceParameterSets.{ctb_log2, height_in_ctbs, size_in_ctbs, width_in_ctbs}
use Rattle.spec_known_units.specs.PlanTypes.{PicturePlan}
use Rattle.spec_known_units.specs.Known.{KnownUnit, unit_read, units_known}
use Rattle.flight_plan.specs.Flight.{FlightRows, PictureRows, no_picture, units_of}
use Rattle.board_core.specs.declared.predicted_blocks.LumaLines.{LumaLines}
use Rattle.board_core.specs.Reach.{FlightMotion, reach_of}
use Rattle.spec_flights.specs.Pictures.{PlannedFlight}
use Rattle.spec_flights.specs.References.{blocks_at, collocated_at, names_before}

-- the luma lines of a picture
abbrev pub luma_lines : PicturePlan → LumaLines
luma_lines p = record { height = p.sps.format.pic_height_in_luma_samples; ctb_log2 = ctb_log2 p.sps.blocks }

-- the rows of the picture at a place of a flight, with the collocated picture of the slice of each of its coding tree
-- units, in raster order, and the rows of other pictures that the vectors of each reach
unfoldable pub rows_in : PlannedFlight → ℕ → PicturePlan → PictureRows
rows_in f k p = record {
  width = width_in_ctbs p.sps;
  rows = height_in_ctbs p.sps;
  sync = p.pps.prediction.entropy_coding_sync_enabled_flag;
  collocated = map (collocated_at (names_before f k) p) (range_with_len 0 (size_in_ctbs p.sps));
  reach = map (λ address. reach_of (luma_lines p) (blocks_at f k address)) (range_with_len 0 (size_in_ctbs p.sps));
}

abbrev pub rows_of : PlannedFlight → ℕ → Option PicturePlan → PictureRows
rows_of f k None = no_picture
rows_of f k (Some p) = rows_in f k p

-- those of all its pictures
unfoldable pub picture_rows : PlannedFlight → List PictureRows
picture_rows f = map (λ k. rows_of f k (slice_get f.pictures k)) (range_with_len 0 (length f.pictures))

-- the rule that a unit breaks by what reading it gives, if it breaks one
abbrev pub broken_by : Option (Result KnownUnit Breach) → Option Breach
broken_by None = None
broken_by (Some (Ok known)) = None
broken_by (Some (Err breach)) = Some breach

-- the rule that the unit at an address of a picture breaks where it is read by those before it that are known; none
-- where it breaks none, and where one that its reading uses isn't known
unfoldable pub broken_at : PicturePlan → ℕ → Option Breach
broken_at p address = broken_by (unit_read p (units_known p) address)

-- the addresses of the units of a picture at which a rule is broken
abbrev pub broken_units : Option PicturePlan → List ℕ
broken_units None = []
broken_units (Some p) = filter (λ address. is_some (broken_at p address)) (range_with_len 0 (size_in_ctbs p.sps))

-- the number in the flight of a coding tree unit of the picture at a place
abbrev pub unit_number : PlannedFlight → ℕ → ℕ → ℕ
unit_number f k address = units_of (take k (picture_rows f)) + address

-- the bad units of a flight: those at which a rule is broken
unfoldable pub bad_units : PlannedFlight → List ℕ
bad_units f =
    flat_map (λ k. map (unit_number f k) (broken_units (slice_get f.pictures k)))
    (range_with_len 0 (length f.pictures))

-- a flight as its rows see it
abbrev pub flight_rows : PlannedFlight → FlightRows
flight_rows f = record { pictures = picture_rows f; bad = bad_units f }

-- the luma lines of the pictures of a flight, which are of one sequence parameter set
abbrev pub lines_in : List PicturePlan → LumaLines
lines_in [] = record { height = 2; ctb_log2 = 4 }
lines_in (p ∷ later) = luma_lines p

-- the motion of a flight
abbrev pub flight_motion : PlannedFlight → FlightMotion
flight_motion f = record { lines = lines_in f.pictures; blocks = blocks_at f }

-- whether all coding tree units of a row of a picture are known
unfoldable pub is_row_known : PicturePlan → ℕ → Bool
is_row_known p row =
    list_all (λ x. is_some (units_known p (row * width_in_ctbs p.sps + x))) (range_with_len 0 (width_in_ctbs p.sps))

-- whether those of the rows from so many above a row to so many below it are, as far as the picture has these
unfoldable pub are_rows_known : PicturePlan → ℕ → ℕ → Bool
are_rows_known p row beside =
    list_all (is_row_known p)
    (range_with_len (row - beside) (min (row + beside + 1) (height_in_ctbs p.sps) - (row - beside)))

-- whether a unit of a line of a phase is sound in its picture: a coding tree unit where it is known, a row of a loop
-- filter where the rows are that it is made from: its own behind vertical edges, with one on each side behind
-- horizontal ones, and with two behind sample adaptive offset
abbrev pub is_sound_in : PicturePlan → Phase → ℕ → ℕ → Bool
is_sound_in p B row x = is_some (units_known p (row * width_in_ctbs p.sps + x))
is_sound_in p V row x = are_rows_known p row 0
is_sound_in p H row x = are_rows_known p row 1
is_sound_in p S row x = are_rows_known p row 2

abbrev pub is_sound_of : Option PicturePlan → Line → ℕ → Bool
is_sound_of None l x = false
is_sound_of (Some p) l x = is_sound_in p l.phase l.row x

-- whether the unit x of a line of a flight is sound
unfoldable pub is_sound : PlannedFlight → Line → ℕ → Bool
is_sound f l x = is_sound_of (slice_get f.pictures l.picture) l x
