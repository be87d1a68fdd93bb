-- A flight that may lie on a board is as it is planned.
use Rattle.std.proofs.Common.{◌≡◌, ◌≢◌, refl, ℕ, suc, ◌≤◌, List, [], ◌∷◌, length, map, All, Some, slice_get}
use Rattle.std.proofs.Common.{ap, sym, subst, ◌∙◌, arith}
use Rattle.std.proofs.lemmas.List.Elements.{All-cons, All-nil}
use Rattle.header_types.specs.SequenceParameterSets.{IsSps}
use Rattle.plan_types.specs.declared.picture_plan.PicturePlan.{PicturePlan}
use Rattle.plan_types.specs.declared.segment_plan.SegmentPlan.{SegmentPlan}
use Rattle.picture_buffer.specs.Pictures.{HeldPicture}
use Rattle.row_waits.specs.PictureBuild.{buffer_of, decoded_of}
use Rattle.row_waits.specs.LocalityLaws.{IsHalved}
use Rattle.sample_words.specs.declared.sizes.FlightSizes.{FlightSizes}
use Rattle.flight_names.specs.SpecFlights.{PlannedFlight}
use Rattle.flight_names.specs.SpecFlights.{flight_sizes}
use Rattle.row_waits.specs.FlightUnitLaws.{HasHalves, IsPlanned}
use Rattle.row_waits.specs.FlightValueLaws.{IsInRange}
use Rattle.row_waits.specs.FlightFacts.{FlightFacts}
use Rattle.row_waits.specs.FlightFacts.{as_base, flight_of, sizes_in}
use Rattle.row_waits.specs.FlightFacts.{flight_in}
use Rattle.row_waits.specs.FlightFacts.{IsOfFlight}
use Rattle.row_waits.proofs.FlightFactsLemmas.{sizes_are}
use Rattle.flight_views.specs.Layouts.{AreHalved, HasSetsOf, IsLaidFor, StandsFor}

-- bases have halves as pictures of the buffer exactly where they are halved
halves : (bases : List HeldPicture) → AreHalved bases → All HasHalves (map as_base (buffer_of bases))
halves [] h = All-nil HasHalves
halves (b ∷ later) h =
    All-cons HasHalves (as_base (decoded_of b)) (map as_base (buffer_of later)) (h 0 b (omega arith))
    (halves later (λ k d less. h (suc k) d (omega (arith, less))))

pub halved : (bases : List HeldPicture) → All HasHalves (map as_base (buffer_of bases)) → AreHalved bases
halved [] h = All-nil (λ (p : HeldPicture). IsHalved p.format)
halved (b ∷ later) h =
    All-cons (λ (p : HeldPicture). IsHalved p.format) b later (h 0 (as_base (decoded_of b)) (omega arith))
    (halved later (λ k d less. h (suc k) d (omega (arith, less))))

some_segments : (xs : List SegmentPlan) → 1 ≤ length xs → xs ≢ []
some_segments xs some none = let n : length xs ≡ 0 = ap length none in absurd (omega (arith, some, n))

segments_some : (xs : List SegmentPlan) → xs ≢ [] → 1 ≤ length xs
segments_some [] some = absurd (some refl)
segments_some (x ∷ xs) some = omega arith

module _ (plans : List PicturePlan) (bases : List HeldPicture) (first : PicturePlan)
    (there : slice_get plans 0 ≡ Some first) where
  pub planned_by : 1 ≤ length plans → length plans ≤ 65536
      → ((k : ℕ) (p : PicturePlan) → slice_get plans k ≡ Some p → HasSetsOf first p)
      → ((k : ℕ) (p : PicturePlan) → slice_get plans k ≡ Some p → IsSps p.sps)
      → AreHalved bases → IsPlanned (flight_of plans (buffer_of bases))
  planned_by some few alike range halved = record {
    few = few;
    some = some;
    sps = range;
    formats = λ j k p q one other. (alike j p one).format ∙ sym (alike k q other).format;
    blocks = λ j k p q one other. (alike j p one).blocks ∙ sym (alike k q other).blocks;
    segments = λ k p has. some_segments p.segments (alike k p has).some;
    halves = halves bases halved;
  }

  pub laid_by : 1 ≤ length plans → length plans ≤ 65536 → length bases ≤ 65536
      → ((k : ℕ) (p : PicturePlan) → slice_get plans k ≡ Some p → HasSetsOf first p)
      → ((k : ℕ) (p : PicturePlan) → slice_get plans k ≡ Some p → IsSps p.sps)
      → AreHalved bases → (s : FlightSizes) → s ≡ flight_sizes first.sps (length plans) → IsLaidFor plans bases s
  laid_by some few bounded alike range halved s is =
      let planned = planned_by some few alike range halved in
      record {
        planned = planned;
        sizes = is ∙ sym (sizes_are (flight_of plans (buffer_of bases)) planned 0 first there);
        few_bases = bounded;
      }

  pub sets_by : IsPlanned (flight_of plans (buffer_of bases)) → (k : ℕ) (p : PicturePlan)
      → slice_get plans k ≡ Some p → HasSetsOf first p
  sets_by planned k p has = record {
    format = planned.formats k 0 p first has there;
    blocks = planned.blocks k 0 p first has there;
    some = segments_some p.segments (planned.segments k p has);
  }

-- the flight that a value for contracts stands for lies so, where it is in range
pub lies_so : (plans : List PicturePlan) (bases : List HeldPicture) (s : FlightSizes) → IsLaidFor plans bases s
    → (facts : FlightFacts) → StandsFor facts plans bases → IsInRange (flight_in facts) → IsOfFlight facts s
lies_so plans bases s laid facts stands range = record {
  planned = subst IsPlanned (sym stands) laid.planned;
  range = range;
  sizes = laid.sizes ∙ ap (λ (f : PlannedFlight). sizes_in f.pictures) (sym stands);
}
