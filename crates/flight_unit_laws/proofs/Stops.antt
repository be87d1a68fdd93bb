-- The least bad unit of a flight is where sequential decoding stops.
use Rattle.std.proofs.Common.{◌≡◌, ℕ, ◌*◌, ◌<◌, ◌≤◌, true, Option, Some, None, Result}
use Rattle.std.proofs.Common.{Ok, Err, is_some, length, slice_get, refl, sym, ap, ◌∙◌, arith}
use Rattle.std.proofs.Common.{inl, inr}
use Rattle.std.proofs.lemmas.Bool.{cases_lt}
use Rattle.std.proofs.lemmas.Option.{slice_get_within}
use Rattle.hv_base.specs.declared.breach.Breach.{Breach}
use Rattle.header_types.specs.SequenceParameterSets.{height_in_ctbs, size_in_ctbs, width_in_ctbs}
use Rattle.plan_types.specs.declared.picture_plan.PicturePlan.{PicturePlan}
use Rattle.known_picture_laws.specs.SpecPictureTrees.{PictureBroken}
use Rattle.known_picture_laws.specs.SpecKnownUnits.{KnownUnit, known_of, unit_read, units_known}
use Rattle.known_picture_laws.proofs.KnownUnitLawsEntries.{known_step}
use Rattle.known_picture_laws.specs.SpecPictureBuild.{DecodedPicture}
use Rattle.known_picture_laws.specs.SpecDecodedPictures.{picture_decoded}
use Rattle.flight_plan.specs.Flight.{picture_at, picture_units}
use Rattle.board_core.specs.Runs.{IsLeastBad}
use Rattle.board_core.specs.States.{IsBad}
use Rattle.board_core.proofs.Order.{before_more}
use Rattle.known_picture_laws.specs.SpecFlights.{PlannedFlight, known_decoded, pictures_before}
use Rattle.known_picture_laws.specs.SpecFlights.{broken_at, broken_by, flight_rows, picture_rows, unit_number}
use Rattle.known_picture_laws.specs.Decoded.{IsDecodedAsKnown, IsFirstBad}
use Rattle.known_picture_laws.proofs.Reading.{as_known}
use Rattle.flight_unit_laws.specs.Stops.{HaveSegments, IsBadUnit, IsDecodedAt, StopsDecoding}
use Rattle.flight_unit_laws.proofs.Bad.{bad_has, bad_is}
use Rattle.flight_unit_laws.proofs.Pictures.{as_many, height_is, width_is}

-- a unit at which a rule is broken isn't known
none_known : (r : Option (Result KnownUnit Breach)) (breach : Breach) → broken_by r ≡ Some breach
    → is_some (known_of r) ≡ true → ⊥
none_known None breach e t = absurd cc
none_known (Some (Ok known)) breach e t = absurd cc
none_known (Some (Err other)) breach e t = absurd cc

not_both : (p : PicturePlan) (address : ℕ) (breach : Breach) → address < size_in_ctbs p.sps
    → broken_at p address ≡ Some breach → is_some (units_known p address) ≡ true → ⊥
unfolding broken_at
not_both p address breach inside rule known =
    none_known (unit_read p (units_known p) address) breach rule
    (ap is_some (sym (known_step p address inside)) ∙ known)

module _ (f : PlannedFlight) where
  -- the units of a picture are numbered before those of later ones
  earlier_number : (j k a b : ℕ) (p : PicturePlan) → slice_get f.pictures j ≡ Some p → j < k → a < size_in_ctbs p.sps
      → unit_number f j a < unit_number f k b
  earlier_number j k a b p has less inside =
      let there : j < length (picture_rows f) = omega (arith, slice_get_within f.pictures j p has, as_many f) in
      let more = before_more picture_units (picture_rows f) j k there less in
      let w = width_is f j p has in
      let h = height_is f j p has in
      let tree : (picture_at (flight_rows f) j).rows * (picture_at (flight_rows f) j).width
      ≡ height_in_ctbs p.sps * width_in_ctbs p.sps =
      ap (λ n. n * (picture_at (flight_rows f) j).width) h ∙ ap (λ n. height_in_ctbs p.sps * n) w in
      let turned : height_in_ctbs p.sps * width_in_ctbs p.sps ≡ width_in_ctbs p.sps * height_in_ctbs p.sps =
      grind arith in
      omega (arith, more, tree, turned, inside)

  bad_at : (k : ℕ) (p : PicturePlan) (broken : PictureBroken) → slice_get f.pictures k ≡ Some p → IsFirstBad p broken
      → IsBad (flight_rows f) (unit_number f k broken.ctu)
  bad_at k p broken has h = bad_has f k p has broken.ctu h.inside broken.breach h.rule

  -- where no unit is bad, all pictures are decoded
  decoded_if : (k : ℕ) (p : PicturePlan) (r : Result DecodedPicture PictureBroken)
      → IsDecodedAsKnown (pictures_before f k) p r
      → ((broken : PictureBroken) → IsFirstBad p broken → ⊥)
      → r ≡ Ok (known_decoded (pictures_before f k) p)
  decoded_if k p (Ok picture) h never = ap (λ (d : DecodedPicture). Ok d) h.picture_is
  decoded_if k p (Err broken) h never = absurd (never broken h)

  pub none_stops : IsLeastBad (flight_rows f) None → (k : ℕ) (p : PicturePlan) → slice_get f.pictures k ≡ Some p
      → IsDecodedAt f k p
  none_stops none k p has =
      decoded_if k p (picture_decoded (pictures_before f k) p) (as_known (pictures_before f k) p)
      (λ broken h. none (unit_number f k broken.ctu) (bad_at k p broken has h))

  module _ (some : HaveSegments f) (u : ℕ) (bad : IsBad (flight_rows f) u)
      (least : (v : ℕ) → IsBad (flight_rows f) v → u ≤ v) where
    abbrev here : IsBadUnit f u
    here = bad_is f u bad

    earlier_decoded : (k : ℕ) (p : PicturePlan) → k < here.picture → slice_get f.pictures k ≡ Some p
        → IsDecodedAt f k p
    earlier_decoded k p less has =
        decoded_if k p (picture_decoded (pictures_before f k) p) (as_known (pictures_before f k) p)
        (λ broken h.
        let le = least (unit_number f k broken.ctu) (bad_at k p broken has h) in
        let lt = earlier_number k here.picture broken.ctu here.address p has less h.inside in
        omega (arith, here.number, le, lt))

    stopped : (r : Result DecodedPicture PictureBroken)
        → picture_decoded (pictures_before f here.picture) here.plan ≡ r
        → IsDecodedAsKnown (pictures_before f here.picture) here.plan r → StopsDecoding f u
    stopped (Ok picture) is h =
        absurd (not_both here.plan here.address here.breach here.inside here.rule
        (h.all (some here.picture here.plan here.has) here.address here.inside))
    stopped (Err broken) is h =
        let le = least (unit_number f here.picture broken.ctu) (bad_at here.picture here.plan broken here.has h) in
        elim (cases_lt here.address broken.ctu) [
          | inl less ↦
              absurd (not_both here.plan here.address here.breach here.inside here.rule (h.before here.address less))
          | inr most ↦ let same : here.address ≡ broken.ctu = omega (arith, here.number, le, most) in
              record {
                picture = here.picture;
                plan = here.plan;
                broken = broken;
                has = here.has;
                number = here.number ∙ ap (unit_number f here.picture) same;
                rule = h.rule;
                stops = is;
                before = earlier_decoded;
              }
        ]

    pub stops_there : StopsDecoding f u
    stops_there =
        stopped (picture_decoded (pictures_before f here.picture) here.plan) refl
        (as_known (pictures_before f here.picture) here.plan)
