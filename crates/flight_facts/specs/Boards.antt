-- A flight of pictures as it lies on a board: what its units need, what its words are to hold, and which of its units
-- are sound or bad.
use Rattle.std.specs.Prelude.{ℕ, ◌+◌, ◌*◌, pos, false, List, [], ◌∷◌, map, length, Option, Some, None, slice_get}
use Rattle.std.specs.Option.{option_map}
use Rattle.hv_base.specs.declared.line.Line.{Line}
use Rattle.hv_base.specs.declared.line.Phase.{Phase}
use Rattle.hv_base.specs.declared.line.Phase.TheVariants.{B, V, H, S}
use Rattle.header_types.specs.SequenceParameterSets.{width_in_ctbs}
use Rattle.plan_types.specs.declared.picture_plan.PicturePlan.{PicturePlan}
use Rattle.picture_build.specs.SpecPictureBuild.{DecodedPicture}
use Rattle.flight_unit_laws.specs.SpecDecoder.{BufferPicture}
use Rattle.sample_words.specs.declared.sizes.FlightSizes.{FlightSizes}
use Rattle.flight_unit_laws.specs.SpecFlights.{PlannedFlight}
use Rattle.flight_unit_laws.specs.SpecFlights.{broken_at, flight_rows, is_sound}
use Rattle.flight_unit_laws.specs.SpecFlights.{expected, flight_sizes}
use Rattle.progress_words.specs.Meanings.{Meaning}
use Rattle.line_words.specs.FlightLines.{BoardFlight, meaning_of}
use Rattle.rule_numbers.specs.Rules.{rule_number}

-- the number of the rule that a unit of a line of a phase breaks: of a coding tree unit, where it breaks one
abbrev pub rule_in : PicturePlan → Phase → ℕ → ℕ → Option ℕ
rule_in p B row x = option_map rule_number (broken_at p (row * width_in_ctbs p.sps + x))
rule_in p V row x = None
rule_in p H row x = None
rule_in p S row x = None

abbrev pub rule_of : Option PicturePlan → Line → ℕ → Option ℕ
rule_of None l x = None
rule_of (Some p) l x = rule_in p l.phase l.row x

-- that of the unit x of a line of a flight
unfoldable pub rule_at : PlannedFlight → Line → ℕ → Option ℕ
rule_at f l x = rule_of (slice_get f.pictures l.picture) l x

-- the sizes of a flight of no picture
abbrev pub no_sizes : FlightSizes
no_sizes = record { width = 0; height = 0; ctb_log2 = 0; deep = false; pictures = 0 }

-- those of a flight, whose pictures are of one format and one set of block sizes
abbrev pub sizes_in : List PicturePlan → FlightSizes
sizes_in [] = no_sizes
sizes_in (p ∷ later) = flight_sizes p.sps (length (p ∷ later))

-- a flight as it lies on a board
abbrev pub board_flight : PlannedFlight → BoardFlight
board_flight f = record {
  plan = flight_rows f;
  sizes = sizes_in f.pictures;
  expected = expected f;
  sound = is_sound f;
  rule = rule_at f;
}

-- what it means to the board
abbrev pub flight_meaning : PlannedFlight → Meaning
flight_meaning f = meaning_of (board_flight f)

-- a decoded picture as one of the buffer. Its order count and its type matter to none of this
abbrev pub as_base : DecodedPicture → BufferPicture
as_base picture = record { poc = pos 0; nal_type = 0; picture = picture }

-- the flight of these pictures behind these decoded ones
abbrev pub flight_of : List PicturePlan → List DecodedPicture → PlannedFlight
flight_of pictures bases = record { pictures = pictures; buffer = map as_base bases }
