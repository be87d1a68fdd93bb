-- A line of a flight, and what a worker has for its picture.
use Rattle.std.proofs.Common.{◌≡◌, ◌<◌, List, length, ap, sym, ◌∙◌, arith}
use Rattle.std.proofs.lemmas.Option.{slice_get_within}
use Rattle.hv_base.specs.declared.line.Line.{Line}
use Rattle.header_types.specs.declared.sps.PictureFormat.{PictureFormat}
use Rattle.picture_buffer.specs.Pictures.{HeldPicture}
use Rattle.filtered_rows.specs.PictureBuild.{buffer_of}
use Rattle.spec_picture_build.specs.References.{DecodedPicture, pictures_of}
use Rattle.sample_words.specs.declared.sizes.FlightSizes.{FlightSizes}
use Rattle.sample_words.specs.Words.{IsLine}
use Rattle.filtered_rows.specs.FlightFacts.{FlightFacts}
use Rattle.filtered_rows.specs.FlightFacts.{flight_in}
use Rattle.filtered_rows.specs.FlightFacts.{IsOfFlight}
use Rattle.filtered_rows.proofs.FlightFactsLemmas.{bases_again}
use Rattle.filtered_rows.proofs.FlightFactsLemmas.{each_there}
use Rattle.built_rows.specs.FlightWindows.{bases_in}
use Rattle.flight_views.specs.declared.flight_views.FlightViews.{FlightViews}
use Rattle.flight_views.specs.Views.{IsViewOf}

-- its picture is one of the flight
pub inside_views : (facts : FlightFacts) (views : FlightViews) (s : FlightSizes) (l : Line) → IsViewOf facts views
    → IsOfFlight facts s → IsLine s l → l.picture < length views.plans.now
inside_views facts views s l view flight line =
    let there = each_there facts s l.picture flight line.picture in
    let less = slice_get_within (flight_in facts).pictures l.picture there.0 there.1 in
    let many = ap length view.plans in
    omega (arith, less, many)

-- a flight has some picture
pub some_views : (facts : FlightFacts) (views : FlightViews) → IsViewOf facts views → 0 < length views.plans.now
some_views facts views view =
    let some = view.flight.planned.some in
    let many = ap length view.plans in
    omega (arith, some, many)

-- the pictures from before the flight, as a picture of a format refers to them
pub bases_are : (facts : FlightFacts) (format : PictureFormat) (bases : List HeldPicture)
    → buffer_of bases ≡ buffer_of facts.bases.value → pictures_of format (buffer_of bases) ≡ bases_in format facts
bases_are facts format bases same =
    ap (λ (l : List DecodedPicture). pictures_of format l) (same ∙ sym (bases_again (buffer_of facts.bases.value)))
