-- Rows of units that are laid one after the other, and what the filters of a row then know.
use Rattle.std.proofs.Common.{◌≡◌, ℕ, zero, suc, ◌+◌, ◌-◌, ◌*◌, ◌/◌, ◌<◌, ◌≤◌}
use Rattle.std.proofs.Common.{◌||◌, min, Bool, true, false}
use Rattle.std.proofs.Common.{inl, inr, refl, sym, ap, subst, ◌∙◌, arith, lt-ltb, if◌then◌else◌}
use Rattle.std.proofs.lemmas.Bool.{and_from, cases_lt}
use Rattle.std.proofs.lemmas.Nat.{le-div}
use Rattle.hv_base.specs.declared.line.Line.{Line}
use Rattle.plan_types.specs.declared.picture_plan.PicturePlan.{PicturePlan}
use Rattle.spec_deblocking.specs.declared.place.Place.{Place}
use Rattle.spec_sample_adaptive_offset.specs.declared.unit.OffsetUnit.{OffsetUnit}
use Rattle.spec_picture_filters.specs.Filtered.{filter_format}
use Rattle.filter_locality_laws.specs.Rows.{IsPlaceOfRow}
use Rattle.row_filters.specs.Around.{Around, place_in, unit_in}
use Rattle.row_filters.specs.Known.{ArePlaces, AreUnits}
use Rattle.sample_words.specs.declared.sizes.FlightSizes.{FlightSizes}
use Rattle.sample_words.specs.Sizes.{IsFlight, columns, ctb_size, height_of, rows, width_of}
use Rattle.sample_words.proofs.Extents.{whole_rows}
use Rattle.flight_facts.specs.SpecFlights.{flight_sizes}
use Rattle.line_words.specs.Places.{UnitAt}
use Rattle.filter_words.specs.Regions.{LaysPlaces, LaysUnits, is_inside}
use Rattle.filter_words.specs.Rows.{is_in_row, is_just_above, is_just_below}
use Rattle.filter_words.specs.Units.{HasRoom, across_of, column_of, is_in_unit, is_unit, row_of, unit_at, unit_side}
use Rattle.filter_words.proofs.Formats.{columns_are, ctb_size_is, height_is, rows_are, width_is}
use Rattle.filter_words.proofs.Regions.{inside, lays_more, lays_more_units, lays_none, lays_no_units, more_columns}
use Rattle.filter_words.proofs.Regions.{more_rows, no_columns, no_rows, one_test}
use Rattle.filter_words.proofs.Sizes.{column_along, columns_cover, row_along, some_places, whole}

-- rows have room for what is laid behind what was
pub still_room : (here : ℕ → ℕ → Bool) (known : ℕ → ℕ → Place) (old new : Around) (p : PicturePlan) (row : ℕ)
    → LaysPlaces here known old new → HasRoom old p row → HasRoom new p row
still_room here known old new p row lays room = record {
  format = lays.format ∙ room.format;
  first = omega (arith, lays.above, room.first);
  last = omega (arith, lays.above, room.last);
}

pub still_room_units : (here : ℕ → ℕ → Bool) (known : ℕ → ℕ → ℕ → OffsetUnit) (old new : Around) (p : PicturePlan)
    (row : ℕ)
    → LaysUnits here known old new → HasRoom old p row → HasRoom new p row
still_room_units here known old new p row lays room = record {
  format = lays.format ∙ room.format;
  first = omega (arith, lays.above, room.first);
  last = omega (arith, lays.above, room.last);
}

-- rows that are begun around one
pub begun : (old new : Around) (p : PicturePlan) (row r : ℕ) → new.format ≡ old.format → old.format ≡ filter_format p
    → new.above ≡ row - 1 → row ≤ r + 1 → r ≤ row + 1 → HasRoom new p r
begun old new p row r same format above low high = record {
  format = same ∙ format;
  first = omega (arith, above, low);
  last = omega (arith, above, high);
}

-- and of which the places stay
pub same_places : (old new : Around) → new.format ≡ old.format → new.above ≡ old.above → new.places ≡ old.places
    → (x y : ℕ) → place_in new x y ≡ place_in old x y
unfolding place_in
same_places old new format above places x y = rw (format, above, places) refl

-- the row above is whole
pub whole_above : (s : FlightSizes) (row : ℕ) → 0 < row → row < rows s → height_of s (row - 1) / 4 ≡ unit_side s
whole_above s row some less = ap (λ n. n / 4) (whole_rows s (row - 1) (omega (arith, some, less)))

-- rows of places of a unit
pub no_unit_rows : (u : UnitAt) (first : ℕ) (known : ℕ → ℕ → Place) (around : Around)
    → LaysPlaces (is_in_unit u first first) known around around
no_unit_rows u first known around =
    lays_none (is_in_unit u first first) known around
    (λ x y. no_rows (column_of u) (column_of u + across_of u) (row_of u + first) x y)

pub more_unit_rows : (u : UnitAt) (first y : ℕ) (known : ℕ → ℕ → Place) (old middle new : Around) → first ≤ y
    → LaysPlaces (is_in_unit u first y) known old middle → LaysPlaces (is_in_unit u y (y + 1)) known middle new
    → LaysPlaces (is_in_unit u first (y + 1)) known old new
more_unit_rows u first y known old middle new low a b =
    lays_more (is_in_unit u first y) (is_in_unit u y (y + 1)) (is_in_unit u first (y + 1)) known old middle new
    (λ i j. more_rows (column_of u) (column_of u + across_of u) (row_of u + first) (row_of u + y) (row_of u + (y + 1)) i
    j (omega (arith, low)) (omega arith)) a b

-- units of a row
module _ (s : FlightSizes) (is : IsFlight s) (l : Line) where
  abbrev n : ℕ
  n = unit_side s

  -- the column of places behind so many units
  abbrev pub column_behind : ℕ → ℕ
  column_behind x = min (unit_side s * x) (s.width / 4)

  module _ (first end : ℕ) where
    abbrev pub before : ℕ → ℕ → ℕ → Bool
    before x = is_inside 0 (column_behind x) (unit_side s * l.row + first) (unit_side s * l.row + end)

    abbrev Lays : (ℕ → ℕ → Place) → Around → Around → ℕ → Type 0
    Lays known old new right =
        LaysPlaces (is_inside 0 right (unit_side s * l.row + first) (unit_side s * l.row + end)) known old new

    pub no_units : (known : ℕ → ℕ → Place) (around : Around) → LaysPlaces (before 0) known around around
    no_units known around =
        let e : column_behind 0 ≡ 0 = grind arith in
        subst (Lays known around around) (sym e)
        (lays_none (is_inside 0 0 (n * l.row + first) (n * l.row + end)) known around
        (λ x y. no_columns 0 (n * l.row + first) (n * l.row + end) x y))

    pub more_units : (x : ℕ) (known : ℕ → ℕ → Place) (old middle new : Around) → x < columns s
        → LaysPlaces (before x) known old middle → LaysPlaces (is_in_unit (unit_at s l x) first end) known middle new
        → LaysPlaces (before (x + 1)) known old new
    more_units x known old middle new less a b =
        let along = column_along s is x less in
        let e : column_behind x ≡ n * x = omega (arith, along.starts) in
        let right : ℕ = n * x + width_of s x / 4 in
        subst (Lays known old new) along.ends
        (lays_more (is_inside 0 (n * x) (n * l.row + first) (n * l.row + end))
        (is_in_unit (unit_at s l x) first end) (is_inside 0 right (n * l.row + first) (n * l.row + end)) known old
        middle
        new
        (λ i j. more_columns 0 (n * x) right (n * l.row + first) (n * l.row + end) i j (omega arith) (omega arith))
        (subst (Lays known old middle) e a) b)

    pub all_units : (x : ℕ) (known : ℕ → ℕ → Place) (old new : Around) → x ≡ columns s
        → LaysPlaces (before x) known old new → LaysPlaces (is_in_row s l.row first end) known old new
    all_units x known old new end_is a =
        let cover = columns_cover s is in
        let times : n * x ≡ n * columns s = ap (λ m. n * m) end_is in
        let e : column_behind x ≡ s.width / 4 = omega (arith, cover, times) in
        subst (Lays known old new) e a

  -- their components
  unit_test : (x i j : ℕ) → is_unit (unit_at s l x) i j ≡ is_inside x (x + 1) l.row (l.row + 1) i j
  unit_test x i j = one_test x l.row i j

  pub no_components : (known : ℕ → ℕ → ℕ → OffsetUnit) (around : Around)
      → LaysUnits (is_inside 0 0 l.row (l.row + 1)) known around around
  no_components known around =
      lays_no_units (is_inside 0 0 l.row (l.row + 1)) known around (λ x y. no_columns 0 l.row (l.row + 1) x y)

  pub more_components : (x : ℕ) (known : ℕ → ℕ → ℕ → OffsetUnit) (old middle new : Around)
      → LaysUnits (is_inside 0 x l.row (l.row + 1)) known old middle
      → LaysUnits (is_unit (unit_at s l x)) known middle new
      → LaysUnits (is_inside 0 (x + 1) l.row (l.row + 1)) known old new
  more_components x known old middle new a b =
      lays_more_units (is_inside 0 x l.row (l.row + 1)) (is_unit (unit_at s l x))
      (is_inside 0 (x + 1) l.row (l.row + 1)) known old middle new
      (λ i j. more_columns 0 x (x + 1) l.row (l.row + 1) i j (omega arith) (omega arith)
      ∙ ap (λ t. is_inside 0 x l.row (l.row + 1) i j || t) (sym (unit_test x i j)))
      a b

-- rows of components
pub no_component_rows : (width first : ℕ) (known : ℕ → ℕ → ℕ → OffsetUnit) (around : Around)
    → LaysUnits (is_inside 0 width first first) known around around
no_component_rows width first known around =
    lays_no_units (is_inside 0 width first first) known around (λ x y. no_rows 0 width first x y)

pub more_component_rows : (width first row : ℕ) (known : ℕ → ℕ → ℕ → OffsetUnit) (old middle new : Around)
    → first ≤ row → LaysUnits (is_inside 0 width first row) known old middle
    → LaysUnits (is_inside 0 width row (row + 1)) known middle new
    → LaysUnits (is_inside 0 width first (row + 1)) known old new
more_component_rows width first row known old middle new low a b =
    lays_more_units (is_inside 0 width first row) (is_inside 0 width row (row + 1))
    (is_inside 0 width first (row + 1)) known old middle new
    (λ i j. more_rows 0 width first row (row + 1) i j low (omega arith)) a b

-- what was known stays known, and what is laid is known
stays : {X : Type 0} (b : Bool) (known old new : X) → new ≡ (if b then known else old) → known ≡ old → known ≡ new
stays true known old new e same = sym e
stays false known old new e same = same ∙ sym e

laid : {X : Type 0} (b : Bool) (known old new : X) → new ≡ (if b then known else old) → b ≡ true → known ≡ new
laid true known old new e here = sym e
laid false known old new e here = absurd cc

-- a row of places before those of a row of units is one of the lowest of the row above
before_row : (n row t beside : ℕ) → beside ≤ n → n * row ≤ t + beside → t < n * row
    → (0 < row) × ((n * (row - 1) + (n - beside) ≤ t) × (t < n * (row - 1) + n))
before_row n zero t beside few low less = let e : n * 0 ≡ 0 = grind arith in absurd (omega (arith, e, less))
before_row n (suc r) t beside few low less =
    let e : n * suc r ≡ n * r + n = grind arith in
    let f : n * (suc r - 1) ≡ n * r = let g : suc r - 1 ≡ r = omega arith in ap (λ m. n * m) g in
    (omega arith, (omega (arith, e, f, few, low), omega (arith, e, f, less)))

module _ (s : FlightSizes) (is : IsFlight s) (p : PicturePlan) (pictures : ℕ)
    (sizes : s ≡ flight_sizes p.sps pictures) (row beside : ℕ) (few : beside ≤ 2)
    (known : ℕ → ℕ → Place) (begun own above below : Around)
    (first : LaysPlaces (is_in_row s row 0 (height_of s row / 4)) known begun own)
    (second : LaysPlaces (is_just_above s row beside) known own above)
    (third : LaysPlaces (is_just_below s row beside) known above below) (there : row < rows s) where
  abbrev side : ℕ
  side = unit_side s

  -- a place of the rows, by its row of places
  record IsNear (x y : ℕ) : Type 0 where
    column : x < s.width / 4
    line : y < s.height / 4
    low : side * row ≤ y + beside
    high : y < side * row + side + beside

  near : (x y : ℕ) → x < (filter_format p).width / 4 → y < (filter_format p).height / 4
      → IsPlaceOfRow (filter_format p) row beside y → IsNear x y
  near x y less lower of =
      let w = width_is s p pictures sizes in
      let h = height_is s p pictures sizes in
      let c : (filter_format p).ctb_size ≡ 4 * side = ctb_size_is s p pictures sizes ∙ whole s is in
      let times : (filter_format p).ctb_size * row ≡ 4 * side * row = ap (λ m. m * row) c in
      let turned : 4 * side * row ≡ 4 * (side * row) = grind arith in
      record {
        column = omega (arith, less, w);
        line = omega (arith, lower, h);
        low = omega (arith, of.0, times, turned);
        high = omega (arith, of.1, times, turned, c);
      }

  own_known : (x y : ℕ) → IsNear x y → side * row ≤ y → y < side * row + side → known x y ≡ place_in own x y
  own_known x y is_near low high =
      let along = row_along s is row there in
      let next : side * (row + 1) ≡ side * row + side = grind arith in
      laid (is_in_row s row 0 (height_of s row / 4) x y) (known x y) (place_in begun x y) (place_in own x y)
      (first.places x y)
      (inside 0 (s.width / 4) (side * row + 0) (side * row + height_of s row / 4) x y (omega arith) is_near.column
      (omega (arith, low)) (omega (arith, high, along.ends, next, is_near.line)))

  above_known : (x y : ℕ) → IsNear x y → y < side * row → known x y ≡ place_in above x y
  above_known x y is_near less =
      let some = some_places s is in
      let asked : 0 < beside = omega (arith, is_near.low, less) in
      let at = before_row side row y beside (omega (arith, some, few)) is_near.low less in
      laid (is_just_above s row beside x y) (known x y) (place_in own x y) (place_in above x y) (second.places x y)
      (and_from _ _ (and_from _ _ (lt-ltb _ _ asked) (lt-ltb _ _ at.0))
      (inside 0 (s.width / 4) (side * (row - 1) + (side - beside)) (side * (row - 1) + side) x y (omega arith)
      is_near.column at.1.0 at.1.1))

  row_there : (y : ℕ) → y < s.height / 4 → side * row + side ≤ y → row + 1 < rows s
  unfolding rows
  row_there y less past =
      let w = whole s is in
      let some = some_places s is in
      let e : (row + 2) * ctb_size s ≡ (row + 2) * (4 * side) = ap (λ m. (row + 2) * m) w in
      let f : (row + 2) * (4 * side) ≡ 4 * (side * row + side) + 4 * side = grind arith in
      let fits : (row + 2) * ctb_size s ≤ s.height + (ctb_size s - 1) = omega (arith, e, f, less, past, w, some) in
      let enough : row + 2 ≤ (s.height + (ctb_size s - 1)) / ctb_size s =
      le-div (row + 2) (s.height + (ctb_size s - 1)) (ctb_size s) (omega (arith, w, some)) fits in
      omega (arith, enough)

  below_known : (x y : ℕ) → IsNear x y → side * row + side ≤ y → known x y ≡ place_in below x y
  below_known x y is_near past =
      let some = some_places s is in
      let asked : 0 < beside = omega (arith, is_near.high, past) in
      let next : side * (row + 1) ≡ side * row + side = grind arith in
      laid (is_just_below s row beside x y) (known x y) (place_in above x y) (place_in below x y) (third.places x y)
      (and_from _ _ (and_from _ _ (lt-ltb _ _ asked) (lt-ltb _ _ (row_there y is_near.line (omega (arith, past)))))
      (inside 0 (s.width / 4) (side * (row + 1) + 0) (side * (row + 1) + beside) x y (omega arith) is_near.column
      (omega (arith, next, past)) (omega (arith, next, is_near.high, few))))

  then_above : (x y : ℕ) → known x y ≡ place_in own x y → known x y ≡ place_in above x y
  then_above x y same =
      stays (is_just_above s row beside x y) (known x y) (place_in own x y) (place_in above x y) (second.places x y)
      same

  then_below : (x y : ℕ) → known x y ≡ place_in above x y → known x y ≡ place_in below x y
  then_below x y same =
      stays (is_just_below s row beside x y) (known x y) (place_in above x y) (place_in below x y) (third.places x y)
      same

  all_known : (x y : ℕ) → IsNear x y → known x y ≡ place_in below x y
  all_known x y is_near = elim (cases_lt y (side * row)) [
    | inl less ↦ then_below x y (above_known x y is_near less)
    | inr low ↦
        elim (cases_lt y (side * row + side)) [
          | inl high ↦ then_below x y (then_above x y (own_known x y is_near low high))
          | inr past ↦ below_known x y is_near past
        ]
  ]

  pub row_places : ArePlaces (filter_format p) row beside known (place_in below)
  row_places x y less lower of = all_known x y (near x y less lower of)

pub three_rows : (s : FlightSizes) (p : PicturePlan) (pictures : ℕ) → IsFlight s → s ≡ flight_sizes p.sps pictures
    → (row : ℕ) (known : ℕ → ℕ → ℕ → OffsetUnit) (old new : Around) → old.above ≡ row - 1
    → LaysUnits (is_inside 0 (columns s) (row - 1) (min (row + 2) (rows s))) known old new
    → (c : ℕ) → c < 3 → AreUnits (filter_format p) c row known (unit_in new)
three_rows s p pictures is sizes row known old new begins lays c few u v less lower low high =
    let columns_same = columns_are s p pictures sizes is in
    let rows_same = rows_are s p pictures sizes is in
    laid (is_inside 0 (columns s) (row - 1) (min (row + 2) (rows s)) u v) (known c u v) (unit_in old c u v)
    (unit_in new c u v)
    (lays.units c u v few (omega (arith, begins, low)) (omega (arith, begins, high)))
    (inside 0 (columns s) (row - 1) (min (row + 2) (rows s)) u v (omega arith) (omega (arith, less, columns_same))
    (omega (arith, low)) (omega (arith, high, lower, rows_same)))
