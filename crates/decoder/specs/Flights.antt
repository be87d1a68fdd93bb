-- What is left of a flight that was decoded.
use Rattle.std.specs.Prelude.{Bool, List, Result, Ok, Err}
use Rattle.hv_base.specs.declared.outcome.Outcome.{Outcome}
use Rattle.plan_types.specs.declared.picture_plan.PicturePlan.{PicturePlan}
use Rattle.picture_buffer.specs.Pictures.{HeldPicture}
use Rattle.row_jobs.specs.PictureBuild.{decoded_of}
use Rattle.spec_picture_build.specs.References.{DecodedPicture}
use Rattle.spec_decoded_pictures.specs.Decoded.{picture_decoded}
use Rattle.spec_decoder.specs.Decoder.{decoded_data, pictures_in}
use Rattle.row_jobs.specs.SpecFlights.{staying}
use Rattle.row_jobs.specs.declared.result.FlightResult.{FlightResult}
use Rattle.row_jobs.specs.FlightResults.{Decodes, buffer_with}
use Rattle.decoder.specs.Buffers.{HeldBuffer, buffer_of}
use Rattle.decoder.specs.Pictures.{DecodesAs}

-- by a result: the next picture of a flight by its plan, and what is left for later plans by the buffer behind it
abbrev pub TakesNext : Bool → List DecodedPicture → PicturePlan → List PicturePlan → FlightResult
    → Result HeldPicture Outcome → Type 0
TakesNext hash buffer p later flight (Ok picture) =
    DecodesAs p (Ok picture) (decoded_data hash p (picture_decoded buffer p))
    × Decodes (buffer_with p buffer (decoded_of picture)) later flight.pictures flight.fault
TakesNext hash buffer p later flight (Err o) =
    DecodesAs p (Err o) (decoded_data hash p (picture_decoded buffer p))

-- once a picture stands in the buffer, this is left of its flight for later plans, by those of the buffer that stay
abbrev pub IsLeft : PicturePlan → List PicturePlan → HeldBuffer → FlightResult → Type 0
IsLeft p later b flight =
    Decodes (staying p.outputs.kept 0 (pictures_in (buffer_of b))) later flight.pictures flight.fault
