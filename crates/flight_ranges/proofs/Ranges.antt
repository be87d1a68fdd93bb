-- A flight by its pictures and by those before it.
use Rattle.std.proofs.Common.{List, All}
use Rattle.plan_types.specs.declared.picture_plan.PicturePlan.{PicturePlan}
use Rattle.plan_laws.specs.Plans.{IsPlan}
use Rattle.picture_buffer.specs.Pictures.{HeldPicture}
use Rattle.flight_facts.specs.PictureBuildPictures.{buffer_of}
use Rattle.flight_facts.specs.FlightValueLaws.{IsInRange}
use Rattle.flight_facts.specs.Boards.{flight_of}
use Rattle.flight_ranges.specs.Buffers.{IsBaseHeld}
use Rattle.flight_ranges.proofs.InRange.{all_of, each_of}
use Rattle.flight_ranges.proofs.Places.{buffer_held, held_in}

module _ (plans : List PicturePlan) (bases : List HeldPicture) where
  pub range_is : All IsPlan plans → All IsBaseHeld bases → IsInRange (flight_of plans (buffer_of bases))
  range_is planned held = record {
    plans = each_of IsPlan plans planned;
    buffer = buffer_held bases held;
  }

  pub all_planned : IsInRange (flight_of plans (buffer_of bases)) → All IsPlan plans
  all_planned range = all_of IsPlan plans range.plans

  pub all_held : IsInRange (flight_of plans (buffer_of bases)) → All IsBaseHeld bases
  all_held range = held_in bases range.buffer
