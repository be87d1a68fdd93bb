-- Motion in range, as fields and as flights have it.
use Rattle.std.proofs.Common.{Option, IfSome, Some, None}
use Rattle.picture_buffer.specs.declared.place_motion.PlaceMotion.{PlaceMotion}
use Rattle.picture_buffer.specs.declared.place_motion.PlaceVector.{PlaceVector}
use Rattle.picture_buffer.specs.Held.{HasVector, IsMotionHeld, IsVectorHeld}
use Rattle.picture_buffer.specs.Motion.{FieldPlaces, motions_of}
use Rattle.sample_words.specs.Values.{IsVector}
use Rattle.spec_picture_motion.specs.Field.{motion_of, vector_of}
use Rattle.flight_facts.specs.FlightValueLaws.{AreMotionsHeld, HasOne, IsHeld}
use Rattle.picture_buffer.specs.Held as held

vector_for_flight : (v : Option PlaceVector) → IfSome v IsVectorHeld → IfSome (vector_of v) IsVector
vector_for_flight None h = tt
vector_for_flight (Some v) h = record { x = h.x; y = h.y; ref_idx = h.ref_idx }

vector_of_flight : (v : Option PlaceVector) → IfSome (vector_of v) IsVector → IfSome v IsVectorHeld
vector_of_flight None h = tt
vector_of_flight (Some v) h = record { x = h.x; y = h.y; ref_idx = h.ref_idx }

one_for_flight : (a b : Option PlaceVector) → HasVector a b → HasOne (vector_of a) (vector_of b)
one_for_flight None None h = h
one_for_flight None (Some b) h = tt
one_for_flight (Some a) None h = tt
one_for_flight (Some a) (Some b) h = tt

one_of_flight : (a b : Option PlaceVector) → HasOne (vector_of a) (vector_of b) → HasVector a b
one_of_flight None None h = h
one_of_flight None (Some b) h = tt
one_of_flight (Some a) None h = tt
one_of_flight (Some a) (Some b) h = tt

place_for_flight : (m : Option PlaceMotion) → IfSome m IsMotionHeld → IfSome (motion_of m) IsHeld
place_for_flight None h = tt
place_for_flight (Some m) h = record {
  fits = record {
    list_0 = vector_for_flight m.list_0 h.list_0;
    list_1 = vector_for_flight m.list_1 h.list_1;
  };
  some = one_for_flight m.list_0 m.list_1 h.some;
}

place_of_flight : (m : Option PlaceMotion) → IfSome (motion_of m) IsHeld → IfSome m IsMotionHeld
place_of_flight None h = tt
place_of_flight (Some m) h = record {
  list_0 = vector_of_flight m.list_0 h.fits.list_0;
  list_1 = vector_of_flight m.list_1 h.fits.list_1;
  some = one_of_flight m.list_0 m.list_1 h.some;
}

-- a field in range is so for a flight
pub for_flight : (field : FieldPlaces) → held.AreMotionsHeld field → AreMotionsHeld (motions_of field)
for_flight field h x y = place_for_flight (motions_of field x y) (h x y)

-- and the other way round
pub of_flight : (field : FieldPlaces) → AreMotionsHeld (motions_of field) → held.AreMotionsHeld field
of_flight field h x y = place_of_flight (motions_of field x y) (h x y)
