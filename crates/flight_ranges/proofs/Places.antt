-- The motion of the pictures of a buffer.
use Rattle.std.proofs.Common.{List, [], ◌∷◌, All, map}
use Rattle.std.proofs.lemmas.List.Elements.{All-cons, All-head, All-map, All-nil, All-tail}
use Rattle.picture_buffer.specs.Pictures.{HeldPicture}
use Rattle.flight_facts.specs.PictureBuildPictures.{buffer_of, decoded_of}
use Rattle.flight_facts.specs.FlightValueLaws.{HasMotionHeld}
use Rattle.flight_facts.specs.Boards.{as_base}
use Rattle.flight_facts.specs.SpecPictureBuild.{DecodedPicture}
use Rattle.flight_ranges.specs.Buffers.{IsBaseHeld}

-- what holds of all images of a list holds of it through the map
All-from_map : {X Y : Type 0} (P : X → Type 0) (f : Y → X) (ys : List Y) → All P (map f ys)
    → All (λ (y : Y). P (f y)) ys
All-from_map {X} {Y} P f [] all = All-nil (λ (y : Y). P (f y))
All-from_map {X} {Y} P f (y ∷ later) all =
    All-cons (λ (z : Y). P (f z)) y later (All-head P (f y) (map f later) all)
    (All-from_map P f later (All-tail P (f y) (map f later) all))

-- the motion of the buffer of a flight is held where that of each base is, and the other way round
pub buffer_held : (bases : List HeldPicture) → All IsBaseHeld bases → All HasMotionHeld (map as_base (buffer_of bases))
buffer_held bases all =
    All-map HasMotionHeld as_base (buffer_of bases)
    (All-map (λ (d : DecodedPicture). HasMotionHeld (as_base d)) decoded_of bases all)

pub held_in : (bases : List HeldPicture) → All HasMotionHeld (map as_base (buffer_of bases)) → All IsBaseHeld bases
held_in bases all =
    All-from_map (λ (d : DecodedPicture). HasMotionHeld (as_base d)) decoded_of bases
    (All-from_map HasMotionHeld as_base (buffer_of bases) all)
