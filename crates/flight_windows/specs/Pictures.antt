-- The pictures of the buffer before a picture of a flight, of those of the flight the rows that are seen (8.3.2,
-- 8.5.3.3.3).
use Rattle.std.specs.Prelude.{ℕ, ◌/◌, ◌^◌, List, map, Option, Some, None, slice_get, if◌then◌else◌}
use Rattle.header_types.specs.declared.sps.PictureFormat.{PictureFormat}
use Rattle.header_types.specs.SequenceParameterSets.{ctb_log2}
use Rattle.plan_types.specs.declared.picture_plan.PicturePlan.{PicturePlan}
use Rattle.spec_picture_build.specs.SpecPictureMotion.{no_motions}
use Rattle.spec_picture_build.specs.Border.{Samples, no_samples}
use Rattle.spec_picture_build.specs.References.{DecodedPicture}
use Rattle.sample_lines.specs.SpecDecoder.{BufferPicture}
use Rattle.sample_lines.specs.LocalityLaws.{luma_line}
use Rattle.flight_plan.specs.declared.row_range.Reference.{Reference}
use Rattle.flight_plan.specs.declared.row_range.Reference.TheVariants.{Base, Flight}
use Rattle.sample_lines.specs.SpecFlights.{PlannedFlight, known_decoded, pictures_before}
use Rattle.sample_lines.specs.SpecFlights.{names_before}
use Rattle.flight_windows.specs.Seen.{SeenFlags, is_seen}

-- a picture without samples and without motion, where there is none
abbrev pub no_format : PictureFormat
no_format = record {
  chroma_format_idc = 0;
  pic_width_in_luma_samples = 0;
  pic_height_in_luma_samples = 0;
  conformance_window = None;
  bit_depth_luma_minus8 = 0;
  bit_depth_chroma_minus8 = 0;
}

abbrev pub no_picture : DecodedPicture
no_picture = record { format = no_format; samples = no_samples; motions = no_motions }

-- samples of the picture at a place of a flight in rows that are seen, of coding tree blocks of this size; 0 elsewhere
unfoldable pub seen_samples : SeenFlags → ℕ → ℕ → Samples → Samples
seen_samples seen log2 j samples c x y = if is_seen seen j (luma_line c y / 2 ^ log2) then samples c x y else 0

-- a picture of a flight with the samples that are seen
abbrev pub with_seen : SeenFlags → ℕ → PicturePlan → DecodedPicture → DecodedPicture
with_seen seen j p picture = record {
  format = picture.format;
  samples = seen_samples seen (ctb_log2 p.sps.blocks) j picture.samples;
  motions = picture.motions;
}

abbrev pub base_picture : Option BufferPicture → DecodedPicture
base_picture None = no_picture
base_picture (Some b) = b.picture

abbrev pub flight_picture : PlannedFlight → SeenFlags → ℕ → Option PicturePlan → DecodedPicture
flight_picture f seen j None = no_picture
flight_picture f seen j (Some p) = with_seen seen j p (known_decoded (pictures_before f j) p)

-- the picture that a name stands for: of the buffer before the flight as a whole, or what the known units of one of the
-- flight make, as far as its rows are seen
unfoldable pub seen_picture : PlannedFlight → SeenFlags → Reference → DecodedPicture
seen_picture f seen (Base place) = base_picture (slice_get f.buffer place)
seen_picture f seen (Flight j) = flight_picture f seen j (slice_get f.pictures j)

-- the pictures that names stand for, and those of the buffer before the picture at a place of the flight
abbrev pub pictures_named : PlannedFlight → SeenFlags → List Reference → List DecodedPicture
pictures_named f seen names = map (seen_picture f seen) names

abbrev pub seen_pictures : PlannedFlight → ℕ → SeenFlags → List DecodedPicture
seen_pictures f k seen = pictures_named f seen (names_before f k)
