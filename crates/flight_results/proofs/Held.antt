-- Pictures that are held, and the fault word of a closed board.
use Rattle.std.proofs.Common.{◌≡◌, ℕ, List, Option, Ok, length, sym, ap, ◌∙◌}
use Rattle.std.proofs.lemmas.Option.{slice_get_within}
use Rattle.hv_base.specs.declared.refusal.Stop.{Stop}
use Rattle.picture_buffer.specs.Pictures.{HeldPicture}
use Rattle.spec_picture_build.specs.References.{DecodedPicture}
use Rattle.progress_words.specs.Core.{fault_in}
use Rattle.row_trees.specs.SpecFlights.{PlannedFlight}
use Rattle.flight_facts.specs.Boards.{flight_meaning}
use Rattle.flight_facts.specs.Held.{HoldsPictures}
use Rattle.flight_results.specs.Flights.{DecodesFlight}
use Rattle.flight_results.specs.Stopped.{AreHeld, StopsFlight, TellsStop}

pub held_decoded : (f : PlannedFlight) (pictures : List HeldPicture) (fault : Option Stop)
    → StopsFlight f (length pictures) fault → AreHeld f pictures → DecodesFlight f pictures fault
held_decoded f pictures fault s held = record {
  few = s.few;
  decoded = λ k p picture has got.
      s.before k p (slice_get_within pictures k picture got) has
      ∙ ap (λ (d : DecodedPicture). Ok d) (sym (held k p picture has got));
  stops = s.stops;
}

pub closed_tells : (f : PlannedFlight) (words : List ℕ) → HoldsPictures f words
    → TellsStop f (fault_in (flight_meaning f) words)
closed_tells f words h = record { all = h.all; some = h.some }
