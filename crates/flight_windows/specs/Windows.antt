-- Reference pictures of a picture of a flight, and the pass by which they are seen.
use Rattle.std.specs.Prelude.{ℕ, ◌≡◌, ℤ, List, [], Some}
use Rattle.atomic_table.specs.Seated.{TableId}
use Rattle.header_types.specs.declared.sps.PictureFormat.{PictureFormat}
use Rattle.header_types.specs.declared.sps.SpsFields.{SpsFields}
use Rattle.flight_plan.specs.declared.row_range.Reference.{Reference}
use Rattle.progress_words.specs.declared.pass.Pass.{Pass}
use Rattle.progress_words.specs.declared.view.View.{View}
use Rattle.progress_words.specs.Passes.{view}
use Rattle.spec_picture_build.specs.References.{pictures_of, reference_sample}
use Rattle.spec_reconstruction.specs.Inter.{Pictures}
use Rattle.sample_lines.specs.SpecDecoder.{pictures_in}
use Rattle.sample_lines.specs.FactsOfFlights.{FlightFacts}
use Rattle.sample_lines.specs.FactsOfFlights.{flight_in}
use Rattle.flight_windows.specs.Pictures.{pictures_named, seen_picture}
use Rattle.flight_windows.specs.Seen.{SeenFlags}

-- a flight, its final rows that are seen, the names of pictures, and the sequence parameter set of the picture that
-- refers to them
pub record FlightView : Type 0 where
  pub facts : FlightFacts
  pub seen : SeenFlags
  pub names : List Reference
  pub sps : SpsFields

-- their samples, as far as they are seen, by place among the names
abbrev pub references_in : FlightView → Pictures
references_in v = pictures_of v.sps.format (pictures_named (flight_in v.facts) v.seen v.names)

-- the samples of the pictures of the buffer before the flight, by place, for a picture of a format
abbrev pub bases_in : PictureFormat → FlightFacts → Pictures
bases_in format facts = pictures_of format (pictures_in (flight_in facts).buffer)

-- the pass is of this table and knows this
abbrev pub IsKnown : {F : Type 0} → TableId → View F → Pass F → Type 0
IsKnown table knows pass = (pass.seat.table_id ≡ table) × (view pass ≡ knows)

-- no table of a board
abbrev pub no_table : TableId
no_table = record { words = 0; slots = 0; views_name = 0; atom = 0; block = 0; offset = 0; slot_names = [] }

-- the sample of the picture that has a name at a column and a line, or the nearest one inside
abbrev pub sample_named : FlightView → Reference → ℕ → ℤ → ℤ → ℕ
sample_named v name c x y = reference_sample v.sps.format (Some (seen_picture (flight_in v.facts) v.seen name)) c x y
