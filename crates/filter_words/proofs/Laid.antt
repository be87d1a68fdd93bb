-- Places and components that are laid by the words of a unit are what the loop filters of the picture need.
use Rattle.std.proofs.Common.{◌≡◌, ℕ, zero, suc, ◌+◌, ◌-◌, ◌*◌, ◌/◌, ◌<◌, ◌≤◌, ◌==◌}
use Rattle.std.proofs.Common.{◌&&◌, Bool, List, length, get_or}
use Rattle.std.proofs.Common.{Some, slice_get, sym, ap, subst, ◌∙◌, arith, if◌then◌else◌}
use Rattle.std.proofs.lemmas.Bool.{eqb-true, and_parts}
use Rattle.plan_types.specs.declared.picture_plan.PicturePlan.{PicturePlan}
use Rattle.plan_types.specs.declared.segment_plan.SegmentPlan.{SegmentPlan}
use Rattle.slice_types.specs.declared.slice.SliceDeblocking.{SliceDeblocking}
use Rattle.spec_deblocking.specs.declared.place.Place.{Place}
use Rattle.spec_sample_adaptive_offset.specs.declared.unit.OffsetUnit.{OffsetUnit}
use Rattle.spec_loop_filters.specs.declared.format.FilterFormat.{FilterFormat}
use Rattle.spec_picture_filters.specs.Units.{place_of, unit_read}
use Rattle.loop_filters.specs.Formats.{columns_of}
use Rattle.row_filters.specs.Around.{Around, place_in, unit_in}
use Rattle.sample_words.specs.declared.modes.PlaceModes.{PlaceModes}
use Rattle.sample_words.specs.declared.unit_content.UnitContent.TheVariants.{Modes, Offsets}
use Rattle.sample_words.specs.Offsets.{sao_in}
use Rattle.sample_words.specs.Values.{modes_in}
use Rattle.flight_facts.specs.SpecFlights.{expected}
use Rattle.line_words.specs.Places.{UnitAt, word_at}
use Rattle.flight_facts.specs.declared.flight_facts.FlightFacts.{FlightFacts}
use Rattle.flight_facts.specs.Facts.{flight_in}
use Rattle.flight_facts.proofs.Laid.{picture_sizes}
use Rattle.filter_words.specs.Filters.{filter_place, filter_unit, known_place, unit_in as unit_of}
use Rattle.filter_words.specs.Placed.{content_index}
use Rattle.filter_words.specs.Regions.{LaysPlaces, LaysUnits, is_inside}
use Rattle.filter_words.specs.Units.{HasRoom, IsSoundUnit, across_of, column_of, down_of, filters_at, is_in_unit}
use Rattle.filter_words.specs.Units.{is_unit, places_at, row_of, unit_side}
use Rattle.filter_words.proofs.Formats.{columns_are, ctb_size_is, width_is}
use Rattle.filter_words.proofs.Regions.{is_in, lays_as, lays_as_units}
use Rattle.filter_words.proofs.Sizes.{column_along, in_three, row_along}
use Rattle.filter_words.proofs.Words.{IsRead, are_sizes, column_inside, place_is_read, same_segment, segment_inside}
use Rattle.filter_words.proofs.Words.{unit_is_read}

module _ (facts : FlightFacts) (p : PicturePlan) (u : UnitAt) (is : IsSoundUnit facts p u) where
  -- rows around the unit's have room for it
  module _ (around : Around) (room : HasRoom around p u.line.row) where
    width_of_format : around.format.width ≡ u.sizes.width
    width_of_format =
        ap (λ (f : FilterFormat). f.width) room.format
        ∙ width_is u.sizes p _ (picture_sizes facts u.sizes u.line.picture p is.flight is.picture)

    side_of_format : around.format.ctb_size / 4 ≡ unit_side u.sizes
    side_of_format =
        ap (λ (f : FilterFormat). f.ctb_size / 4) room.format
        ∙ ap (λ c. c / 4)
        (ctb_size_is u.sizes p _ (picture_sizes facts u.sizes u.line.picture p is.flight is.picture))

    pub room_columns : column_of u + across_of u ≤ around.format.width / 4
    room_columns =
        let along = column_along u.sizes (are_sizes facts p u is) u.unit (column_inside facts p u is) in
        let e = width_of_format in
        omega (arith, along.ends, e)

    pub room_rows : (y : ℕ) → y < down_of u
        → (around.format.ctb_size / 4 * around.above ≤ row_of u + y)
        × (row_of u + y < around.format.ctb_size / 4 * (around.above + 3))
    room_rows y less =
        let along = row_along u.sizes (are_sizes facts p u is) u.line.row is.unit.line.row in
        subst
        (λ n. (n * around.above ≤ row_of u + y) × (row_of u + y < n * (around.above + 3)))
        (sym side_of_format)
        (in_three (unit_side u.sizes) u.line.row y around.above room.first room.last (omega (arith, less, along.few)))

    pub room_units : u.unit < columns_of around.format
    room_units =
        let e =
        ap (λ (f : FilterFormat). columns_of f) room.format
        ∙ columns_are u.sizes p _ (picture_sizes facts u.sizes u.line.picture p is.flight is.picture)
        (are_sizes facts p u is) in
        let less = column_inside facts p u is in
        omega (arith, e, less)

  -- words that are read of a row of places
  pub row_read : (at : UnitAt) (first y n : ℕ) (words : List ℕ) → at ≡ u
      → first ≡ content_index u (Modes 0 0) + y * across_of u → n ≡ across_of u
      → ((k : ℕ) → k < n → get_or words k 0 ≡ expected (flight_in facts) (word_at at (first + k)))
      → (i : ℕ) → i < across_of u → IsRead facts p u is i y (get_or words i 0)
  row_read at first y n words same first_is many value i less =
      value i (omega (arith, less, many))
      ∙ ap (λ (v : UnitAt). expected (flight_in facts) (word_at v (first + i))) same
      ∙ ap (λ m. expected (flight_in facts) (word_at u (m + i))) first_is

  module _ (y : ℕ) (down : y < down_of u) (words : List ℕ)
      (read : (i : ℕ) → i < across_of u → IsRead facts p u is i y (get_or words i 0)) (some : 0 < across_of u) where
    pub segment_there : (modes_in (get_or words 0 0)).segment < length p.segments
    segment_there = segment_inside facts p u is 0 y (get_or words 0 0) some down (read 0 some)

    module _ (deblocking : SliceDeblocking) (offset : ℕ)
        (segment : (modes : PlaceModes) → modes.segment ≡ (modes_in (get_or words 0 0)).segment
        → place_of deblocking (known_place offset modes) ≡ filter_place p modes) where
      abbrev rule : ℕ → Place
      rule i = place_of deblocking (known_place offset (modes_in (get_or words i 0)))

      rule_is : (i : ℕ) → i < across_of u → rule i ≡ places_at facts u.line (column_of u + i) (row_of u + y)
      rule_is i less =
          segment (modes_in (get_or words i 0))
          (same_segment facts p u is i 0 y (get_or words i 0) (get_or words 0 0) less some down (read i less)
          (read 0 some))
          ∙ place_is_read facts p u is i y (get_or words i 0) less down (read i less)

      pub row_laid : (column row count : ℕ) (old new : Around) → column ≡ column_of u → row ≡ row_of u + y
          → count ≡ across_of u
          → LaysPlaces (is_inside column (column + count) row (row + 1)) (λ i j. rule (i - column)) old new
          → LaysPlaces (is_in_unit u y (y + 1)) (places_at facts u.line) old new
      row_laid column row count old new column_is row_is count_is lays =
          let a : LaysPlaces (is_inside (column_of u) (column_of u + count) row (row + 1))
          (λ i j. rule (i - column_of u)) old new =
          subst (λ c. LaysPlaces (is_inside c (c + count) row (row + 1)) (λ i j. rule (i - c)) old new) column_is
          lays in
          let b : LaysPlaces (is_inside (column_of u) (column_of u + across_of u) row (row + 1))
          (λ i j. rule (i - column_of u)) old new =
          subst (λ n. LaysPlaces (is_inside (column_of u) (column_of u + n) row (row + 1))
          (λ i j. rule (i - column_of u)) old new) count_is a in
          let next : row + 1 ≡ row_of u + (y + 1) = omega (arith, row_is) in
          let d : LaysPlaces (is_inside (column_of u) (column_of u + across_of u) row (row_of u + (y + 1)))
          (λ i j. rule (i - column_of u)) old new =
          subst (λ e. LaysPlaces (is_inside (column_of u) (column_of u + across_of u) row e)
          (λ i j. rule (i - column_of u)) old new) next b in
          let e : LaysPlaces (is_in_unit u y (y + 1)) (λ i j. rule (i - column_of u)) old new =
          subst (λ r. LaysPlaces (is_inside (column_of u) (column_of u + across_of u) r (row_of u + (y + 1)))
          (λ i j. rule (i - column_of u)) old new) row_is d in
          lays_as (is_in_unit u y (y + 1)) (λ i j. rule (i - column_of u)) (places_at facts u.line) old new
          (λ i j here.
          let inside = is_in (column_of u) (column_of u + across_of u) (row_of u + y) (row_of u + (y + 1)) i j here in
          let less : i - column_of u < across_of u = omega (arith, inside.left_of, inside.right_of) in
          let back : column_of u + (i - column_of u) ≡ i = omega (arith, inside.left_of) in
          let line : row_of u + y ≡ j = omega (arith, inside.below, inside.over) in
          rule_is (i - column_of u) less
          ∙ ap (λ n. places_at facts u.line n (row_of u + y)) back
          ∙ ap (λ n. places_at facts u.line i n) line)
          e

  -- its components, by the words of the modes of its first place and of its offsets
  module _ (modes first second : ℕ) (some : 0 < across_of u) (more : 0 < down_of u)
      (read : modes ≡ expected (flight_in facts) (word_at u (content_index u (Modes 0 0))))
      (one : first ≡ expected (flight_in facts) (word_at u (content_index u (Offsets 0))))
      (two : second ≡ expected (flight_in facts) (word_at u (content_index u (Offsets 1)))) where
    modes_read : IsRead facts p u is 0 0 modes
    modes_read =
        let e : content_index u (Modes 0 0) ≡ content_index u (Modes 0 0) + 0 * across_of u + 0 = omega arith in
        read ∙ ap (λ n. expected (flight_in facts) (word_at u n)) e

    pub segment_is_there : (modes_in modes).segment < length p.segments
    segment_is_there = segment_inside facts p u is 0 0 modes some more modes_read

    module _ (s : SegmentPlan) (has : slice_get p.segments (modes_in modes).segment ≡ Some s) where
      component_is : (c : ℕ) → c < 3
          → unit_read p s (sao_in first second) c ≡ (filters_at facts u.line).units c u.unit u.line.row
      unfolding filter_unit
      component_is c few =
          sym (ap (unit_of p (sao_in first second) c) has)
          ∙ unit_is_read facts p u is 0 0 modes some more modes_read first second c one two few

      pub components_laid : (old new : Around)
          → LaysUnits (λ i j. i == u.unit && j == u.line.row) (λ c i j. unit_read p s (sao_in first second) c) old new
          → LaysUnits (is_unit u) (filters_at facts u.line).units old new
      components_laid old new lays =
          lays_as_units (is_unit u) (λ c i j. unit_read p s (sao_in first second) c) (filters_at facts u.line).units old
          new
          (λ c i j few here.
          let tests = and_parts (i == u.unit) (j == u.line.row) here in
          component_is c few
          ∙ ap (λ n. (filters_at facts u.line).units c n u.line.row) (sym (eqb-true _ _ tests.0))
          ∙ ap (λ n. (filters_at facts u.line).units c i n) (sym (eqb-true _ _ tests.1)))
          lays

-- three components of a unit
three : (c : ℕ) (t : Bool) (known new : ℕ → OffsetUnit) (luma cb cr old : OffsetUnit) → c < 3 → luma ≡ known 0
    → cb ≡ known 1 → cr ≡ known 2
    → new c
    ≡ (if c == 2 && t then cr
    else (if c == 1 && t then cb else (if c == 0 && t then luma else old)))
    → new c ≡ (if t then known c else old)
three zero t known new luma cb cr old few zeroth first second e =
    e ∙ ap (λ (o : OffsetUnit). if t then o else old) zeroth
three (suc zero) t known new luma cb cr old few zeroth first second e =
    e ∙ ap (λ (o : OffsetUnit). if t then o else old) first
three (suc (suc zero)) t known new luma cb cr old few zeroth first second e =
    e ∙ ap (λ (o : OffsetUnit). if t then o else old) second
three (suc (suc (suc c))) t known new luma cb cr old few zeroth first second e = absurd (omega (arith, few))

module _ (column row : ℕ) where
  -- what a call that lays a component tells
  pub record LaysOne (c : ℕ) (unit : OffsetUnit) (old new : Around) : Type 0 where
    pub format : new.format ≡ old.format
    pub above : new.above ≡ old.above
    pub units : (d i j : ℕ) → d < 3 → old.above ≤ j → j ≤ old.above + 2
        → unit_in new d i j ≡ (if d == c && (i == column && j == row) then unit else unit_in old d i j)
    pub places : (i j : ℕ) → place_in new i j ≡ place_in old i j

  pub three_laid : (old a b new : Around) (known : ℕ → OffsetUnit) (luma cb cr : OffsetUnit) → luma ≡ known 0
      → cb ≡ known 1 → cr ≡ known 2 → LaysOne 0 luma old a → LaysOne 1 cb a b → LaysOne 2 cr b new
      → LaysUnits (λ i j. i == column && j == row) (λ c i j. known c) old new
  three_laid old a b new known luma cb cr zeroth first second one two last = record {
    format = last.format ∙ two.format ∙ one.format;
    above = last.above ∙ two.above ∙ one.above;
    units = λ c i j few low high.
        let t : Bool = i == column && j == row in
        let low_a : a.above ≤ j = omega (arith, low, one.above) in
        let high_a : j ≤ a.above + 2 = omega (arith, high, one.above) in
        three c t known (λ d. unit_in new d i j) luma cb cr (unit_in old c i j) few zeroth first second
        (last.units c i j few (omega (arith, low_a, two.above)) (omega (arith, high_a, two.above))
        ∙ ap (λ (o : OffsetUnit). if c == 2 && t then cr else o) (two.units c i j few low_a high_a)
        ∙ ap (λ (o : OffsetUnit). if c == 2 && t then cr else (if c == 1 && t then cb else o))
        (one.units c i j few low high));
    places = λ i j. last.places i j ∙ two.places i j ∙ one.places i j;
  }
