-- What the words of a place of a sound coding tree unit are of.
use Rattle.std.proofs.Common.{◌≡◌, ℕ, ◌<◌, true, refl, ap, sym, ◌∙◌, subst, is_some}
use Rattle.std.proofs.Common.{Option, Some, None, length, slice_get}
use Rattle.hv_base.specs.declared.line.Phase.{Phase}
use Rattle.hv_base.specs.declared.line.Phase.TheVariants.{B}
use Rattle.header_types.specs.SequenceParameterSets.{blocks_across, height_in_ctbs, size_in_ctbs, width_in_ctbs}
use Rattle.plan_types.specs.declared.picture_plan.PicturePlan.{PicturePlan}
use Rattle.plan_types.specs.declared.segment_plan.SegmentPlan.{SegmentPlan}
use Rattle.spec_motion.specs.declared.vectors.Motion.{Motion}
use Rattle.spec_picture_motion.specs.Field.{motion_of}
use Rattle.spec_known_units.specs.Known.{KnownUnit, units_known}
use Rattle.sample_words.specs.declared.modes.PlaceModes.{PlaceModes}
use Rattle.sample_words.specs.declared.sizes.FlightSizes.{FlightSizes}
use Rattle.sample_words.specs.Sizes.{columns, rows}
use Rattle.sample_words.specs.Words.{line_units}
use Rattle.row_above_laws.specs.UnitWords.{ArePlace}
use Rattle.spec_flights.specs.Pictures.{PlannedFlight, folded_at}
use Rattle.spec_flights.specs.Rows.{is_sound, is_sound_in, is_sound_of}
use Rattle.spec_flights.specs.Words.{flight_sizes, modes_at, values_in}
use Rattle.row_above_laws.specs.FlightValueLaws.{kept_in, kept_motion, motion_where}
use Rattle.row_above_laws.proofs.FlightValueLawsLemmas.{in_picture}
use Rattle.sample_lines.specs.FactsOfFlights.{FlightFacts}
use Rattle.sample_lines.specs.FactsOfFlights.{flight_in}
use Rattle.line_words.specs.Places.{UnitAt}
use Rattle.border_words.specs.Kept.{AreOfPlace, motion_in_segment, pointing_in}
use Rattle.border_words.specs.Units.{IsTreeUnit, address_at, column_at, row_at}

-- what a sound coding tree unit is known as
there_is : {X : Type 0} (o : Option X) → is_some o ≡ true → (x : X) × (o ≡ Some x)
there_is None e = absurd cc
there_is (Some x) e = (x, refl)

-- a picture keeps motion as it stands in the words of a place
pointing_is : (p : PicturePlan) (address : ℕ) (m : Motion) (o : Option SegmentPlan)
    → kept_in p address m o ≡ pointing_in (motion_in_segment p address o) (motion_where m)
pointing_is p address m None = refl
pointing_is p address m (Some s) = refl

module _ (facts : FlightFacts) (u : UnitAt) (p : PicturePlan) (is : IsTreeUnit facts u p)
    (sized : u.sizes ≡ flight_sizes p.sps (length (flight_in facts).pictures)) where
  abbrev f : PlannedFlight
  f = flight_in facts

  abbrev k : ℕ
  k = u.line.picture

  pub known_there : (known : KnownUnit) × (units_known p (address_at p u) ≡ Some known)
  unfolding is_sound
  known_there =
      let here : is_sound_in p u.line.phase u.line.row u.unit ≡ true =
      sym (ap (λ o. is_sound_of o u.line u.unit) is.picture) ∙ is.sound in
      there_is (units_known p (address_at p u))
      (subst (λ (phase : Phase). is_sound_in p phase u.line.row u.unit ≡ true) is.phase here)

  pub column_inside : u.unit < width_in_ctbs p.sps
  unfolding blocks_across columns
  column_inside =
      let here : u.unit < line_units u.sizes B = subst (λ (phase : Phase). u.unit < line_units u.sizes phase) is.phase
      is.unit.unit in
      subst (λ (s : FlightSizes). u.unit < columns s) sized here

  pub row_inside : u.line.row < height_in_ctbs p.sps
  unfolding blocks_across rows
  row_inside = subst (λ (s : FlightSizes). u.line.row < rows s) sized is.unit.line.row

  pub address_inside : address_at p u < size_in_ctbs p.sps
  address_inside = in_picture p u.line.row u.unit row_inside column_inside

  -- what its places keep, where their words are of them
  module _ (i j first second : ℕ)
      (kept : (folded_at (flight_in facts) u.line.picture).motions (column_at p u i) (row_at p u j)
      ≡ kept_motion p (address_at p u)
      ((values_in p (folded_at (flight_in facts) u.line.picture)).modes (column_at p u i) (row_at p u j))
      ((values_in p (folded_at (flight_in facts) u.line.picture)).motion (column_at p u i) (row_at p u j)))
      (beside : motion_of ((folded_at (flight_in facts) u.line.picture).motions (column_at p u i) (row_at p u j))
      ≡ motion_where
      ((values_in p (folded_at (flight_in facts) u.line.picture)).motion (column_at p u i) (row_at p u j)))
      (words : ArePlace
      (motion_of ((folded_at (flight_in facts) u.line.picture).motions (column_at p u i) (row_at p u j)))
      ((values_in p (folded_at (flight_in facts) u.line.picture)).modes (column_at p u i) (row_at p u j)) first second)
    where
      abbrev modes : PlaceModes
      modes = (values_in p (folded_at f k)).modes (column_at p u i) (row_at p u j)

      abbrev motion : Motion
      motion = (values_in p (folded_at f k)).motion (column_at p u i) (row_at p u j)

      kept_is : (folded_at f k).motions (column_at p u i) (row_at p u j)
          ≡ pointing_in (motion_in_segment p (address_at p u) (slice_get p.segments modes.segment))
          (motion_of ((folded_at f k).motions (column_at p u i) (row_at p u j)))
      unfolding kept_motion
      kept_is =
          kept
          ∙ (pointing_is p (address_at p u) motion (slice_get p.segments modes.segment)
          ∙ ap (pointing_in (motion_in_segment p (address_at p u) (slice_get p.segments modes.segment))) (sym beside))

      coded_is : modes.coded ≡ (folded_at f k).filters.coded (column_at p u i) (row_at p u j)
      unfolding values_in modes_at
      coded_is = refl

      pub place_is : AreOfPlace p (address_at p u)
          ((folded_at (flight_in facts) u.line.picture).motions (column_at p u i) (row_at p u j))
          ((folded_at (flight_in facts) u.line.picture).filters.coded (column_at p u i) (row_at p u j)) first second
      place_is = record { modes = modes; words = words; kept = kept_is; flag = coded_is }
