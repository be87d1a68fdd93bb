-- The pictures of the buffer before each picture of a flight have sides of which chroma has half.
use Rattle.std.proofs.Common.{◌≡◌, ℕ, zero, suc, Bool, true, false, List, [], ◌∷◌, ◌++◌, All, Option, Some, None}
use Rattle.std.proofs.Common.{slice_get, if◌then◌else◌, refl, arith}
use Rattle.std.proofs.lemmas.List.Elements.{All-append, All-cons, All-map, All-nil}
use Rattle.plan_types.specs.declared.picture_plan.PicturePlan.{PicturePlan}
use Rattle.known_picture_laws.specs.SpecPictureBuild.{DecodedPicture}
use Rattle.known_picture_laws.specs.SpecDecodedPictures.{decoded_by}
use Rattle.known_picture_laws.specs.SpecFlights.{BufferPicture, is_among, kept_as, kept_from, pictures_in}
use Rattle.known_picture_laws.specs.LocalityLaws.{IsHalved}
use Rattle.known_picture_laws.proofs.LocalityLaws.{halved}
use Rattle.known_picture_laws.specs.SpecFlights.{PlannedFlight, buffer_before, buffer_behind, known_decoded}
use Rattle.known_picture_laws.specs.SpecFlights.{pictures_before}
use Rattle.flight_unit_laws.specs.Planned.{IsPlanned, HasHalves}

kept_all : (places : List ℕ) (n : ℕ) (buffer : List BufferPicture) → All HasHalves buffer
    → All HasHalves (kept_from places n buffer)
unfolding kept_from
kept_all places n [] all = All-nil HasHalves
kept_all places n (b ∷ later) all =
    by_place (is_among places n)
    (kept_all places (suc n) later (λ k d inside. all (suc k) d (omega (arith, inside))))
  where
    by_place : (t : Bool) → All HasHalves (kept_from places (suc n) later)
        → All HasHalves (if t then b ∷ kept_from places (suc n) later else kept_from places (suc n) later)
    by_place true rest = All-cons HasHalves b (kept_from places (suc n) later) (all 0 b (omega arith)) rest
    by_place false rest = rest

module _ (f : PlannedFlight) (planned : IsPlanned f) where
  behind : (buffer : List BufferPicture) (k : ℕ) (o : Option PicturePlan) → slice_get f.pictures k ≡ o
      → All HasHalves buffer → All HasHalves (buffer_behind buffer o)
  unfolding buffer_behind decoded_by
  behind buffer k None has all = all
  behind buffer k (Some p) has all =
      let last : BufferPicture = kept_as p (known_decoded (pictures_in buffer) p) in
      kept_all p.outputs.kept 0 (buffer ++ last ∷ [])
      (All-append HasHalves buffer (last ∷ []) all
      (All-cons HasHalves last [] (halved p.sps (planned.sps k p has)) (All-nil HasHalves)))

  all_before : (k : ℕ) → All HasHalves (buffer_before f k)
  unfolding buffer_before
  all_before zero = planned.halves
  all_before (suc k) = behind (buffer_before f k) k (slice_get f.pictures k) refl (all_before k)

  pub halves_before : (k : ℕ) → All (λ (d : DecodedPicture). IsHalved d.format) (pictures_before f k)
  halves_before k =
      All-map (λ (d : DecodedPicture). IsHalved d.format) (λ (b : BufferPicture). b.picture) (buffer_before f k)
      (all_before k)
