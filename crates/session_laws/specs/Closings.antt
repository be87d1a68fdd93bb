-- Where the pictures of a stream are closed among all that is judged of it and all that goes out.
use Rattle.std.specs.Prelude.{◌≡◌, Bool, List, [], ◌∷◌, ◌++◌, None}
use Rattle.plan_types.specs.declared.picture_plan.PicturePlan.{PicturePlan}
use Rattle.spec_decoder.specs.Decoder.{BufferPicture, decoded_from, ended}
use Rattle.spec_decoder.specs.Trail.{Data, Event, Judge, Keep, Output, first_of, picture_events}

-- the pictures whose data are decoded among these events, in their order
abbrev pub closed_in : List Event → List PicturePlan
closed_in [] = []
closed_in (Judge s ∷ later) = closed_in later
closed_in (Output places ∷ later) = closed_in later
closed_in (Data p ∷ later) = p ∷ closed_in later
closed_in (Keep places ∷ later) = closed_in later

-- a picture is closed behind this front of these events, and before it exactly the first ones are
pub record ClosesBehind (events front : List Event) (first : List PicturePlan) (p : PicturePlan) : Type 0 where
  pub back : List Event
  pub events_are : events ≡ front ++ (picture_events p ++ back)
  pub closed : closed_in front ≡ first

-- the events before the closing of a picture: what goes out along them, and what stops there, is what is decoded of the
-- first pictures, whatever the buffer before them
pub record IsBeforeClosing (hash : Bool) (events : List Event) (first : List PicturePlan)
    (p : PicturePlan) : Type 0 where
  pub front : List Event
  pub behind : ClosesBehind events front first p
  pub decodes : (buffer : List BufferPicture)
      → first_of hash front buffer ≡ decoded_from hash (λ b. ended None) first buffer
