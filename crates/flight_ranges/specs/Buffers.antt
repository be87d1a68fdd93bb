-- A picture before a flight whose motion is in range (8.5.3.2).
use Rattle.picture_buffer.specs.Motion.{motions_of}
use Rattle.picture_buffer.specs.Pictures.{HeldPicture}
use Rattle.flight_facts.specs.FlightValueLaws.{AreMotionsHeld}

-- each place that has motion has a vector, and each vector a reference index below 16
abbrev pub IsBaseHeld : HeldPicture → Type 0
IsBaseHeld b = AreMotionsHeld (motions_of b.motion)
