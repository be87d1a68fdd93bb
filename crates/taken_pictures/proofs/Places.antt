-- The motion of the places of a unit, out of their words.
use Rattle.std.proofs.Common.{refl, ◌≡◌, ℕ, ◌+◌, ◌-◌, ◌/◌, ◌<◌, ◌≤◌, ◌==◌, ◌&&◌, cond, nat_le, nat_lt, ap, sym, ◌∙◌}
use Rattle.std.proofs.Common.{subst, arith, Option, length}
use Rattle.plan_types.specs.declared.picture_plan.PicturePlan.{PicturePlan}
use Rattle.picture_buffer.specs.declared.place_motion.PlaceMotion.{PlaceMotion}
use Rattle.spec_motion.specs.declared.vectors.Motion.{Motion}
use Rattle.sample_words.specs.declared.modes.PlaceModes.{PlaceModes}
use Rattle.sample_words.specs.declared.sizes.FlightSizes.{FlightSizes}
use Rattle.sample_words.specs.declared.unit_content.UnitContent.TheVariants.{Modes, Vectors}
use Rattle.sample_words.specs.Sizes.{IsFlight, columns, height_of, width_of}
use Rattle.sample_words.specs.Values.{modes_in, modes_word, motion_in, vectors_word}
use Rattle.spec_picture_trees.specs.Shapes.{picture_shape}
use Rattle.spec_flights.specs.Pictures.{folded_at}
use Rattle.spec_flights.specs.Words.{flight_sizes}
use Rattle.row_above_laws.specs.FlightValueLaws.{kept_motion}
use Rattle.sample_lines.specs.FactsOfFlights.{FlightFacts}
use Rattle.sample_lines.specs.FactsOfFlights.{flight_in}
use Rattle.sample_lines.specs.FactsOfFlights.{IsOfFlight}
use Rattle.sample_lines.proofs.FactsOfFlights.{board_sizes, picture_sizes}
use Rattle.line_words.specs.Places.{UnitAt}
use Rattle.taken_pictures.specs.declared.place_rows.PlaceRow.{PlaceRow}
use Rattle.taken_pictures.specs.Kept.{kept_at, kept_by}
use Rattle.taken_pictures.specs.Places.{IsPlaceRow, IsTreeUnit, address_at, column_at, row_at, word_in}
use Rattle.taken_pictures.proofs.Laid.{row_more}
use Rattle.taken_pictures.proofs.Shapes.{column_inside, width_is}
use Rattle.taken_pictures.proofs.Sides.{columns_inside, row_inside as place_inside}

-- the sizes of a flight may be
pub sizes_of : (facts : FlightFacts) (s : FlightSizes) → IsOfFlight facts s → IsFlight s
sizes_of facts s is = let has = board_sizes facts s is in subst IsFlight has.0 has.1.sizes

-- what two words of values tell, by what words of these values are unpacked to
pub told_by : (p : PicturePlan) (address first second : ℕ) (m : Motion) (modes : PlaceModes)
    → first ≡ vectors_word m → second ≡ modes_word modes m
    → motion_in (vectors_word m) (modes_word modes m) ≡ m → modes_in (modes_word modes m) ≡ modes
    → kept_by p address first second ≡ kept_motion p address modes m
told_by p address first second m modes vectors is motion_back modes_back =
    (λ t. kept_by p address (vectors t) (is t)) ∙ (λ t. kept_motion p address (modes_back t) (motion_back t))

-- what the words of places tell
abbrev pub Tell : Type 0
Tell = (facts : FlightFacts) (u : UnitAt) (p : PicturePlan) (i j : ℕ) → IsTreeUnit facts u p
    → i < width_of u.sizes u.unit / 4 → j < height_of u.sizes u.line.row / 4
    → kept_by p (address_at p u) (word_in (flight_in facts) u (Vectors i j)) (word_in (flight_in facts) u (Modes i j))
    ≡ (folded_at (flight_in facts) u.line.picture).motions (column_at u + i) (row_at u + j)

module _ (facts : FlightFacts) (u : UnitAt) (p : PicturePlan) (tree : IsTreeUnit facts u p) where
  abbrev sizes : IsFlight u.sizes
  sizes = sizes_of facts u.sizes tree.flight

  sized : u.sizes ≡ flight_sizes p.sps (length (flight_in facts).pictures)
  sized = picture_sizes facts u.sizes u.line.picture p tree.flight tree.picture

  -- its picture's width in units
  pub picture_width : (picture_shape p.sps p.pps).width ≡ columns u.sizes
  unfolding picture_shape
  picture_width = width_is p (length (flight_in facts).pictures) ∙ ap columns (sym sized)

  column_there : u.unit < columns u.sizes
  column_there =
      let inside = column_inside facts u p tree sized in
      let e = picture_width in
      subst (λ (n : ℕ). u.unit < n) (width_is p (length (flight_in facts).pictures) ∙ ap columns (sym sized)) inside

  module _ (row : PlaceRow) (y : ℕ) (is : IsPlaceRow (flight_in facts) u y row)
      (below : y < height_of u.sizes u.line.row / 4) where
    -- where the picture has it
    pub row_columns : (across : ℕ) → across ≡ u.sizes.width / 4 → row.x + row.count ≤ across
    row_columns across e =
        let inside = columns_inside u.sizes u.unit sizes column_there in
        let column = is.column in
        let count = is.count in
        omega (arith, inside, column, count, e)

    pub row_small : row.x ≤ 8192
    row_small =
        let inside = row_columns (u.sizes.width / 4) refl in
        let few = sizes.width in
        omega (arith, inside, few)

    pub row_line : (down : ℕ) → down ≡ u.sizes.height / 4 → row.y < down
    row_line down e =
        let inside = place_inside u.sizes u.line.row y sizes tree.unit.line.row below in
        let line = is.line in
        omega (arith, inside, line, e)

    -- the motion of its places
    kept_row : Tell → (address i : ℕ) → address ≡ address_at p u → i < width_of u.sizes u.unit / 4
        → kept_at p address row i
        ≡ (folded_at (flight_in facts) u.line.picture).motions (column_at u + i) (row_at u + y)
    kept_row tell address i address_is less =
        let inside : i < row.count = let e = is.count in omega (arith, e, less) in
        (λ t. kept_by p (address_is t) (is.vectors i inside t) (is.modes i inside t))
        ∙ tell facts u p i y tree less below

    -- one more row of a unit is laid
    pub unit_more : Tell → (address w : ℕ) → address ≡ address_at p u → w ≡ width_of u.sizes u.unit / 4
        → (old mid new : ℕ → ℕ → Option PlaceMotion)
        → ((i j : ℕ) → mid i j
        ≡ cond ((nat_le (row_at u) j && nat_lt j (row_at u + y))
        && (nat_le (column_at u) i && nat_lt i (column_at u + w)))
        ((folded_at (flight_in facts) u.line.picture).motions i j) (old i j))
        → ((i j : ℕ) → new i j
        ≡ cond (j == row.y && (nat_le row.x i && nat_lt i (row.x + row.count))) (kept_at p address row (i - row.x))
        (mid i j))
        → (i j : ℕ) → new i j
        ≡ cond ((nat_le (row_at u) j && nat_lt j (row_at u + (y + 1)))
        && (nat_le (column_at u) i && nat_lt i (column_at u + w)))
        ((folded_at (flight_in facts) u.line.picture).motions i j) (old i j)
    unit_more tell address w address_is w_is old mid new before laid =
        row_more (column_at u) (row_at u) w y old mid new (folded_at (flight_in facts) u.line.picture).motions
        (kept_at p address row) before
        (λ i j. laid i j
        ∙ (λ t. cond (j == is.line t && (nat_le (is.column t) i && nat_lt i (is.column t + (is.count ∙ sym w_is) t)))
        (kept_at p address row (i - is.column t)) (mid i j)))
        (λ i less. kept_row tell address i address_is (omega (arith, less, w_is)))
