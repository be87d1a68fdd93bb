-- What is laid above a row of coding tree units, place by place.
use Rattle.std.specs.Prelude.{ℕ, ◌+◌, ◌<◌, List, slice_index}
use Rattle.plan_types.specs.declared.picture_plan.PicturePlan.{PicturePlan}
use Rattle.spec_flights.specs.SpecDecodedPictures.{DecodedUnits}
use Rattle.border_words.specs.Kept.{AreOfPlace}

-- words are those of so many places of a row, from a column on, as units make the picture
abbrev pub AreOfPlaces : PicturePlan → ℕ → DecodedUnits → ℕ → ℕ → ℕ → List ℕ → List ℕ → Type 0
AreOfPlaces p address units x y count vectors modes =
    (i : ℕ) → i < count
    → AreOfPlace p address (units.motions (x + i) y) (units.filters.coded (x + i) y) (slice_index vectors i)
    (slice_index modes i)
