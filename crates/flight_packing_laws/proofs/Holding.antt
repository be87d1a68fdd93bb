-- The work of a unit that is done holds the values of its picture.
use Rattle.std.proofs.Common.{◌≡◌, ℕ, ◌+◌, ◌-◌, ◌*◌, ◌/◌, ◌<◌, true, Bool, Some, length, refl, sym, ap, subst}
use Rattle.std.proofs.Common.{◌∙◌, arith}
use Rattle.std.specs.Option.{unwrap_or}
use Rattle.hv_base.specs.declared.line.Phase.TheVariants.{B}
use Rattle.header_types.specs.SequenceParameterSets.{IsSps, width_in_ctbs}
use Rattle.plan_types.specs.declared.picture_plan.PicturePlan.{PicturePlan}
use Rattle.cabac_contexts.specs.Packing.{packed}
use Rattle.cabac_engine.specs.Steps.{state_of}
use Rattle.ctu_records.specs.Tree.{Ctu}
use Rattle.ctu_motion.specs.Held.{held as motion_held}
use Rattle.spec_slice_data.specs.Segment.{PictureShape, side_of}
use Rattle.spec_picture_trees.specs.Places.{first_column, first_row, is_of_unit as has_place_of}
use Rattle.spec_picture_trees.specs.Shapes.{picture_shape}
use Rattle.spec_picture_build.specs.Border.{unit_line}
use Rattle.spec_known_units.specs.Known.{KnownUnit, contexts_behind, ctu_of, units_known}
use Rattle.spec_picture_motion.specs.Field.{motion_of}
use Rattle.row_borders.specs.SpecPictureFilters.{place_of}
use Rattle.spec_deblocking.specs.declared.place.Place.{Place}
use Rattle.flight_value_laws.specs.SpecDecodedPictures.{DecodedUnits}
use Rattle.row_borders.proofs.LocalityLawsLemmas.{place_is}
use Rattle.sample_words.specs.declared.modes.PlaceModes.{PlaceModes}
use Rattle.sample_words.specs.declared.sizes.FlightSizes.{FlightSizes}
use Rattle.sample_words.specs.Contents.{PictureValues, component_side}
use Rattle.sample_words.specs.Sizes.{columns, ctb_size, height_of, width_of}
use Rattle.unit_words.specs.declared.done_unit.DoneUnit.{DoneUnit}
use Rattle.unit_words.specs.Units.{no_motion, unit_modes, unit_motion, unit_sample}
use Rattle.unit_words.specs.Work.{HoldsValues, carry_behind}
use Rattle.row_borders.specs.Building.{built_coded, built_motion, built_place, built_sample}
use Rattle.row_borders.specs.SpecFlights.{phase_samples}
use Rattle.row_borders.specs.SpecFlights.{PlannedFlight, folded_at}
use Rattle.row_borders.specs.SpecFlights.{carried_behind, flight_sizes, modes_at, modes_of, values_in}
use Rattle.flight_value_laws.specs.Ranges.{IsInRange}
use Rattle.flight_value_laws.proofs.Pictures.{motion_again}
use Rattle.flight_packing_laws.specs.Done.{IsDone, unit_address}
use Rattle.flight_packing_laws.proofs.Placed as placed

-- what is known of a place that was read, by what deblocking asks of it
abbrev modes_by : ℕ → Ctu → ℕ → ℕ → Place → Bool → PlaceModes
modes_by segment ctu x y place coded = record {
  segment = segment;
  side = side_of ctu x y;
  left_strength = place.left_strength;
  top_strength = place.top_strength;
  kept = place.kept;
  coded = coded;
}

module _ (f : PlannedFlight) (range : IsInRange f) (k : ℕ) (p : PicturePlan) (known : KnownUnit) (d : DoneUnit)
    (done : IsDone f k p known d) where
  abbrev sps : IsSps p.sps
  sps = (range.plans k p done.picture).sps

  abbrev shape : PictureShape
  shape = picture_shape p.sps p.pps

  abbrev sizes : FlightSizes
  sizes = flight_sizes p.sps (length f.pictures)

  abbrev units : DecodedUnits
  units = folded_at f k

  abbrev values : PictureValues
  values = values_in p (folded_at f k)

  abbrev address : ℕ
  address = unit_address p d

  abbrev side : ℕ
  side = placed.side p.sps p.pps sps (length f.pictures) d.row d.column done.column

  abbrev across : ℕ → ℕ
  across c = placed.across p.sps p.pps sps (length f.pictures) d.row d.column done.column c

  -- samples
  abbrev Samples : FlightSizes → Type 0
  Samples s =
      (c x y : ℕ) → c < 3 → x < component_side c (width_of s d.column) → y < component_side c (height_of s d.row)
      → values.samples B c (component_side c (d.column * ctb_size s) + x) (component_side c (d.row * ctb_size s) + y)
      ≡ unit_sample d.built.now.samples c x y

  samples_are : Samples sizes
  unfolding values_in phase_samples
  samples_are c x y few less lower =
      ap (λ i. units.samples c i (component_side c (d.row * ctb_size sizes) + y))
      (placed.sample_column_at p.sps p.pps sps (length f.pictures) d.row d.column done.column c x less)
      ∙ ap (λ j. units.samples c (across c * d.column + x) j)
      (placed.sample_line_at p.sps p.pps sps (length f.pictures) d.row d.column done.column c y lower)
      ∙ sym (done.built.samples c (across c * d.column + x) (across c * d.row + y)
      (placed.sample_there p.sps p.pps sps (length f.pictures) d.row d.column done.column c x y few less lower))
      ∙ ap (λ i. built_sample d.built.now c i (across c * d.row + y - unit_line shape c address))
      (placed.from_unit_column p.sps p.pps sps (length f.pictures) d.row d.column done.column c x)
      ∙ ap (λ j. built_sample d.built.now c x j)
      (placed.from_unit_line p.sps p.pps sps (length f.pictures) d.row d.column done.column c y)

  -- places
  abbrev Motions : FlightSizes → Type 0
  Motions s =
      (x y : ℕ) → x < width_of s d.column / 4 → y < height_of s d.row / 4
      → values.motion (d.column * ctb_size s / 4 + x) (d.row * ctb_size s / 4 + y)
      ≡ unit_motion d.built.now.motion x y

  abbrev Modes : FlightSizes → Type 0
  Modes s =
      (x y : ℕ) → x < width_of s d.column / 4 → y < height_of s d.row / 4
      → values.modes (d.column * ctb_size s / 4 + x) (d.row * ctb_size s / 4 + y)
      ≡ unit_modes d.records.now d.built.now.filters d.segment x y

  module _ (x y : ℕ) (less : x < width_of sizes d.column / 4) (lower : y < height_of sizes d.row / 4) where
    abbrev column : ℕ
    column = side * d.column + x

    abbrev row : ℕ
    row = side * d.row + y

    column_at : d.column * ctb_size sizes / 4 + x ≡ column
    column_at = placed.column_at p.sps p.pps sps (length f.pictures) d.row d.column done.column x

    row_at : d.row * ctb_size sizes / 4 + y ≡ row
    row_at = placed.row_at p.sps p.pps sps (length f.pictures) d.row d.column done.column y

    mine : has_place_of shape address column row ≡ true
    mine = placed.place_there p.sps p.pps sps (length f.pictures) d.row d.column done.column x y less lower

    from_column : column - first_column shape address ≡ x
    from_column = placed.from_column p.sps p.pps sps (length f.pictures) d.row d.column done.column x

    from_row : row - first_row shape address ≡ y
    from_row = placed.from_row p.sps p.pps sps (length f.pictures) d.row d.column done.column y

    -- what the unit says of the place by what units make of the picture there
    at_place : {X : Type 0} (g : ℕ → ℕ → X) (v : X)
        → g (column - first_column shape address) (row - first_row shape address) ≡ v → g x y ≡ v
    at_place g v e =
        sym (ap (λ i. g i (row - first_row shape address)) from_column ∙ ap (λ j. g x j) from_row) ∙ e

    motion_is : values.motion (d.column * ctb_size sizes / 4 + x) (d.row * ctb_size sizes / 4 + y)
        ≡ unit_motion d.built.now.motion x y
    unfolding values_in
    motion_is =
        ap (λ i. values.motion i (d.row * ctb_size sizes / 4 + y)) column_at
        ∙ ap (λ j. values.motion column j) row_at
        ∙ ap (λ o. unwrap_or (motion_of o) no_motion)
        (sym (at_place (built_motion d.built.now) (units.motions column row) (done.built.motions column row mine)))
        ∙ ap (λ o. unwrap_or o no_motion)
        (motion_again d.built.now.slice (motion_held d.built.now.motion (x + 1) (y + 1)))

    place_at : units.filters.places column row ≡ built_place d.built.now x y
    place_at =
        sym (at_place (built_place d.built.now) (units.filters.places column row)
        (done.built.places column row mine))

    coded_at : units.filters.coded column row ≡ built_coded d.built.now x y
    coded_at =
        sym (at_place (built_coded d.built.now) (units.filters.coded column row) (done.built.coded column row mine))

    read_is : values.modes column row
        ≡ modes_by known.segment known.read (column - first_column shape address) (row - first_row shape address)
        (units.filters.places column row) (units.filters.coded column row)
    unfolding values_in modes_at
    read_is =
        ap (λ a. modes_of shape (units_known p a) a column row (units.filters.places column row)
        (units.filters.coded column row)) (place_is shape address column row mine)
        ∙ ap (λ o. modes_of shape o address column row (units.filters.places column row)
        (units.filters.coded column row)) done.unit

    same_modes : modes_by known.segment known.read (column - first_column shape address)
        (row - first_row shape address) (units.filters.places column row) (units.filters.coded column row)
        ≡ modes_by d.segment d.records.now x y (built_place d.built.now x y) (built_coded d.built.now x y)
    same_modes = λ t.
        modes_by (sym done.segment t) (sym done.records t) (from_column t) (from_row t) (place_at t) (coded_at t)

    built_modes : modes_by d.segment d.records.now x y (built_place d.built.now x y) (built_coded d.built.now x y)
        ≡ unit_modes d.records.now d.built.now.filters d.segment x y
    unfolding place_of
    built_modes = refl

    modes_are : values.modes (d.column * ctb_size sizes / 4 + x) (d.row * ctb_size sizes / 4 + y)
        ≡ unit_modes d.records.now d.built.now.filters d.segment x y
    modes_are =
        ap (λ i. values.modes i (d.row * ctb_size sizes / 4 + y)) column_at
        ∙ ap (λ j. values.modes column j) row_at ∙ read_is ∙ same_modes ∙ built_modes

  -- what stands behind it
  offsets_are : values.offsets d.column d.row ≡ d.records.now.sao
  unfolding values_in
  offsets_are =
      ap (λ o. (ctu_of shape o).sao) done.unit ∙ ap (λ (ctu : Ctu). ctu.sao) (sym done.records)

  contexts_are : d.column ≡ 1 → values.contexts d.row ≡ packed d.reader.now.bins.contexts
  unfolding values_in
  contexts_are second =
      ap (λ c. packed (contexts_behind (units_known p (d.row * width_in_ctbs p.sps + c)))) (sym second)
      ∙ ap (λ o. packed (contexts_behind o)) done.unit ∙ ap packed (sym done.contexts)

  known_carry : carried_behind (Some known) ≡ carry_behind d.reader.now
  known_carry = λ t. record {
    state = state_of (sym done.engine t);
    contexts = packed (sym done.contexts t);
    last = sym done.last t;
  }

  carried_is : d.column + 1 ≡ columns sizes → values.carried d.row ≡ carry_behind d.reader.now
  unfolding values_in
  carried_is last =
      let columns = placed.columns_are p.sps p.pps sps (length f.pictures) d.row d.column done.column in
      let e : width_in_ctbs p.sps - 1 ≡ d.column = omega (arith, last, columns) in
      ap (λ c. carried_behind (units_known p (d.row * width_in_ctbs p.sps + c))) e
      ∙ ap carried_behind done.unit ∙ known_carry

  pub holds : HoldsValues values d
  holds = record {
    samples = subst Samples (sym done.layout) samples_are;
    motion = subst Motions (sym done.layout) motion_is;
    modes = subst Modes (sym done.layout) modes_are;
    offsets = offsets_are;
    contexts = contexts_are;
    carried = subst (λ (s : FlightSizes). d.column + 1 ≡ columns s → values.carried d.row ≡ carry_behind d.reader.now)
        (sym done.layout) carried_is;
  }
