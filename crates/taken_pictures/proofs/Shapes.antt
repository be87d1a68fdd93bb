-- The shape of a picture of a flight, by the sizes of the flight.
use Rattle.std.proofs.Common.{◌≡◌, ℕ, ◌+◌, ◌-◌, ◌*◌, ◌^◌, ◌<◌, true, refl, sym, ap, ◌∙◌, subst, arith, is_some}
use Rattle.std.proofs.Common.{Option, Some, None, length}
use Rattle.std.proofs.lemmas.Nat.{pow-add}
use Rattle.hv_base.specs.declared.line.Phase.{Phase}
use Rattle.hv_base.specs.declared.line.Phase.TheVariants.{B}
use Rattle.header_types.specs.SequenceParameterSets.{IsSps, blocks_across, ctb_log2, height_in_ctbs, size_in_ctbs}
use Rattle.header_types.specs.SequenceParameterSets.{width_in_ctbs}
use Rattle.plan_types.specs.declared.picture_plan.PicturePlan.{PicturePlan}
use Rattle.spec_picture_trees.specs.Places.{unit_places}
use Rattle.spec_picture_trees.specs.Shapes.{picture_shape}
use Rattle.spec_known_units.specs.Known.{KnownUnit, units_known}
use Rattle.sample_words.specs.declared.sizes.FlightSizes.{FlightSizes}
use Rattle.sample_words.specs.Sizes.{columns, ctb_size, rows}
use Rattle.sample_words.specs.Words.{line_units}
use Rattle.spec_flights.specs.Rows.{is_sound, is_sound_in, is_sound_of}
use Rattle.spec_flights.specs.Words.{flight_sizes}
use Rattle.row_above_laws.proofs.FlightValueLawsLemmas.{in_picture}
use Rattle.sample_lines.specs.FactsOfFlights.{FlightFacts}
use Rattle.sample_lines.specs.FactsOfFlights.{flight_in}
use Rattle.line_words.specs.Places.{UnitAt}
use Rattle.taken_pictures.specs.Places.{IsTreeUnit, address_at}
use Rattle.taken_pictures.specs.Rows.{side_places}

-- a unit's side in places
pub side_is : (p : PicturePlan) (pictures : ℕ) → IsSps p.sps
    → side_places (flight_sizes p.sps pictures) ≡ unit_places (picture_shape p.sps p.pps)
unfolding picture_shape
side_is p pictures sps =
    let e : ctb_log2 p.sps.blocks ≡ 2 + (ctb_log2 p.sps.blocks - 2) = omega (arith, sps.blocks.least_ctb) in
    let side : ctb_size (flight_sizes p.sps pictures) ≡ 4 * 2 ^ (ctb_log2 p.sps.blocks - 2) =
    ap (λ k. 2 ^ k) e ∙ pow-add 2 2 (ctb_log2 p.sps.blocks - 2) in
    omega (arith, side)

pub width_is : (p : PicturePlan) (pictures : ℕ) → width_in_ctbs p.sps ≡ columns (flight_sizes p.sps pictures)
unfolding blocks_across columns
width_is p pictures = refl

pub shape_width : (p : PicturePlan) → (picture_shape p.sps p.pps).width ≡ width_in_ctbs p.sps
unfolding picture_shape
shape_width p = refl

-- what a sound coding tree unit is known as
there_is : {X : Type 0} (o : Option X) → is_some o ≡ true → (x : X) × (o ≡ Some x)
there_is None e = absurd cc
there_is (Some x) e = (x, refl)

module _ (facts : FlightFacts) (u : UnitAt) (p : PicturePlan) (is : IsTreeUnit facts u p)
    (sized : u.sizes ≡ flight_sizes p.sps (length (flight_in facts).pictures)) where
  pub known_there : (known : KnownUnit) × (units_known p (address_at p u) ≡ Some known)
  unfolding is_sound
  known_there =
      let here : is_sound_in p u.line.phase u.line.row u.unit ≡ true =
      sym (ap (λ o. is_sound_of o u.line u.unit) is.picture) ∙ is.sound in
      there_is (units_known p (address_at p u))
      (subst (λ (phase : Phase). is_sound_in p phase u.line.row u.unit ≡ true) is.phase here)

  pub column_inside : u.unit < width_in_ctbs p.sps
  unfolding blocks_across columns
  column_inside =
      let here : u.unit < line_units u.sizes B = subst (λ (phase : Phase). u.unit < line_units u.sizes phase) is.phase
      is.unit.unit in
      subst (λ (s : FlightSizes). u.unit < columns s) sized here

  pub row_inside : u.line.row < height_in_ctbs p.sps
  unfolding blocks_across rows
  row_inside = subst (λ (s : FlightSizes). u.line.row < rows s) sized is.unit.line.row

  pub address_inside : address_at p u < size_in_ctbs p.sps
  address_inside = in_picture p u.line.row u.unit row_inside column_inside
