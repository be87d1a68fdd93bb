-- A row of a loop filter whose needs are sound is sound, and so all units are that may be.
use Rattle.std.proofs.Common.{◌≡◌, ℕ, ◌+◌, ◌-◌, ◌*◌, ◌<◌, ◌≤◌, true, min, All}
use Rattle.std.proofs.Common.{Some, is_some, slice_get, inl, inr, refl, sym, ap, subst, ◌∙◌, arith}
use Rattle.std.proofs.lemmas.Bool.{cases_lt}
use Rattle.std.proofs.lemmas.List.FromFn.{get_or-map-range_with_len, length-map-range_with_len}
use Rattle.hv_base.specs.declared.line.Line.{Line}
use Rattle.hv_base.specs.declared.line.Phase.{Phase}
use Rattle.hv_base.specs.declared.line.Phase.TheVariants.{B, V, H, S}
use Rattle.header_types.specs.SequenceParameterSets.{height_in_ctbs, width_in_ctbs}
use Rattle.plan_types.specs.declared.picture_plan.PicturePlan.{PicturePlan}
use Rattle.known_picture_laws.specs.SpecKnownUnits.{units_known}
use Rattle.flight_plan.specs.Flight.{FlightRows, picture_at}
use Rattle.board_core.specs.Places.{full_count, IsLine, line_of, unit_of}
use Rattle.board_core.specs.Needs.{rows_needs, unit_needs}
use Rattle.board_core.specs.SoundUnits.{AreNeedsSound, AreSoundTo, IsSoundness}
use Rattle.board_core.specs.States.{IsBad}
use Rattle.board_core.proofs.Counting.{left_part, right_part}
use Rattle.board_core.proofs.Order.{same_fields}
use Rattle.known_picture_laws.specs.SpecFlights.{PlannedFlight}
use Rattle.known_picture_laws.specs.SpecFlights.{are_rows_known, flight_rows, is_row_known, is_sound, is_sound_of}
use Rattle.flight_unit_laws.specs.Stops.{HaveSegments}
use Rattle.flight_unit_laws.proofs.Lists.{all_range, each_range}
use Rattle.flight_unit_laws.proofs.Pictures.{has_plan, height_is, width_is}
use Rattle.flight_unit_laws.proofs.Sound.{unit_sound}

module _ (f : PlannedFlight) where
  abbrev plan : FlightRows
  plan = flight_rows f

  abbrev Sound : Line × ℕ → Type 0
  Sound need = IsLine plan need.0 → AreSoundTo (is_sound f) need.0 need.1

  -- the rows of a phase that are needed are sound
  rows_sound : (phase : Phase) (k first last : ℕ) → All Sound (rows_needs plan phase k first last)
      → (r : ℕ) → first ≤ r → r ≤ last → r < (picture_at plan k).rows
      → AreSoundTo (is_sound f) (line_of phase k r) (full_count plan (line_of phase k r))
  rows_sound phase k first last all r low high inside =
      let n : ℕ = min (last + 1) (picture_at plan k).rows - first in
      let g : ℕ → Line × ℕ = λ r. (line_of phase k r, full_count plan (line_of phase k r)) in
      let i : ℕ = r - first in
      let lt : i < n = omega (arith, low, high, inside) in
      let at : first + i ≡ r = omega (arith, low) in
      let e = get_or-map-range_with_len g first n i r (g 0) lt at in
      let need : Sound (g r) = subst Sound e (all i (g 0) (omega (arith, lt, length-map-range_with_len g first n))) in
      need inside

  module _ (k : ℕ) (p : PicturePlan) (has : slice_get f.pictures k ≡ Some p) where
    sound_of : (l : Line) (y : ℕ) → l.picture ≡ k → is_sound f l y ≡ is_sound_of (Some p) l y
    unfolding is_sound
    sound_of l y e = ap (λ o. is_sound_of o l y) (ap (λ j. slice_get f.pictures j) e ∙ has)

    -- a row whose coding tree units are sound is known
    row_known : (r : ℕ) → AreSoundTo (is_sound f) (line_of B k r) (full_count plan (line_of B k r))
        → is_row_known p r ≡ true
    unfolding is_row_known
    row_known r sound =
        let w = width_is f k p has in
        all_range (λ x. is_some (units_known p (r * width_in_ctbs p.sps + x))) 0 (width_in_ctbs p.sps) (λ y low high.
        sym (sound_of (line_of B k r) y refl) ∙ sound y (omega (arith, w, high)))

    -- the rows beside a row are known, where each is
    beside_known : (row beside : ℕ)
        → ((r : ℕ) → row ≤ r + beside → r ≤ row + beside → r < height_in_ctbs p.sps → is_row_known p r ≡ true)
        → are_rows_known p row beside ≡ true
    unfolding are_rows_known
    beside_known row beside each =
        all_range (is_row_known p) (row - beside) (min (row + beside + 1) (height_in_ctbs p.sps) - (row - beside))
        (λ r low high. each r (omega (arith, low)) (omega (arith, low, high)) (omega (arith, low, high)))

    each_known : (row beside r : ℕ) → are_rows_known p row beside ≡ true → row ≤ r + beside → r ≤ row + beside
        → r < height_in_ctbs p.sps → is_row_known p r ≡ true
    unfolding are_rows_known
    each_known row beside r all low high inside =
        each_range (is_row_known p) (row - beside) (min (row + beside + 1) (height_in_ctbs p.sps) - (row - beside)) r
        all
        (omega (arith, low)) (omega (arith, low, high, inside))

    -- rows as they are built
    built_known : (first last : ℕ) → All Sound (rows_needs plan B k first last) → (r : ℕ) → first ≤ r → r ≤ last
        → r < height_in_ctbs p.sps → is_row_known p r ≡ true
    built_known first last all r low high inside =
        let h = height_is f k p has in
        row_known r (rows_sound B k first last all r low high (omega (arith, h, inside)))

    -- a row behind its horizontal edges, and those beside it as they are built
    horizontal_known : (first last : ℕ) → All Sound (rows_needs plan H k first last) → (r : ℕ) → first ≤ r → r ≤ last
        → r < height_in_ctbs p.sps → are_rows_known p r 1 ≡ true
    horizontal_known first last all r low high inside =
        let h = height_is f k p has in
        sym (sound_of (line_of H k r) 0 refl)
        ∙ rows_sound H k first last all r low high (omega (arith, h, inside)) 0 (omega arith)

    vertical_line : (row x : ℕ) → AreNeedsSound plan (is_sound f) (unit_needs plan (line_of V k row) x)
        → is_sound f (line_of V k row) x ≡ true
    vertical_line row x needs =
        sound_of (line_of V k row) x refl
        ∙ beside_known row 0 (λ r low high inside.
        built_known row row needs r (omega (arith, low)) (omega (arith, high)) inside)

    horizontal_line : (row x : ℕ) → AreNeedsSound plan (is_sound f) (unit_needs plan (line_of H k row) x)
        → is_sound f (line_of H k row) x ≡ true
    horizontal_line row x needs =
        let built = right_part Sound (rows_needs plan V k (row - 1) (row + 1)) (rows_needs plan B k (row - 1) (row + 1))
        needs in
        sound_of (line_of H k row) x refl
        ∙ beside_known row 1 (λ r low high inside.
        built_known (row - 1) (row + 1) built r (omega (arith, low)) (omega (arith, high)) inside)

    -- of a row within two of another, the one between them
    between : (row r : ℕ) → row ≤ r + 2 → r ≤ row + 2 → r < height_in_ctbs p.sps → row < height_in_ctbs p.sps
        → All Sound (rows_needs plan H k (row - 1) (row + 1)) → is_row_known p r ≡ true
    between row r low high inside here all =
        elim (cases_lt r row) [
          | inl above ↦
              each_known (row - 1) 1 r
              (horizontal_known (row - 1) (row + 1) all (row - 1) (omega arith) (omega arith) (omega (arith, here)))
              (omega (arith, low)) (omega (arith, above)) inside
          | inr not_above ↦
              elim (cases_lt row r) [
                | inl below ↦
                    each_known (row + 1) 1 r
                    (horizontal_known (row - 1) (row + 1) all (row + 1) (omega arith) (omega arith)
                    (omega (arith, below, inside)))
                    (omega (arith, below)) (omega (arith, high)) inside
                | inr not_below ↦
                    each_known row 1 r
                    (horizontal_known (row - 1) (row + 1) all row (omega arith) (omega arith) here)
                    (omega (arith, not_above, not_below)) (omega (arith, not_above, not_below)) inside
              ]
        ]

    offset_line : (row x : ℕ) → row < height_in_ctbs p.sps
        → AreNeedsSound plan (is_sound f) (unit_needs plan (line_of S k row) x)
        → is_sound f (line_of S k row) x ≡ true
    offset_line row x here needs =
        let all = left_part Sound (rows_needs plan H k (row - 1) (row + 1)) (rows_needs plan B k row row) needs in
        sound_of (line_of S k row) x refl
        ∙ beside_known row 2 (λ r low high inside. between row r low high inside here all)

  -- the unit of a line of each phase
  line_sound : HaveSegments f → (phase : Phase) (k row x : ℕ) → IsLine plan (line_of phase k row)
      → x < full_count plan (line_of phase k row) → ¬ IsBad plan (unit_of plan (line_of phase k row) x)
      → AreNeedsSound plan (is_sound f) (unit_needs plan (line_of phase k row) x)
      → AreSoundTo (is_sound f) (line_of phase k row) x → is_sound f (line_of phase k row) x ≡ true
  line_sound some B k row x line inside good needs earlier =
      let found = has_plan f (line_of B k row) line in
      let h = height_is f k found.0 found.1 in
      let w = width_is f k found.0 found.1 in
      unit_sound f k row x found.0 found.1 (omega (arith, line, h)) (omega (arith, inside, w)) needs earlier
      (some k found.0 found.1) good
  line_sound some V k row x line inside good needs earlier =
      let found = has_plan f (line_of V k row) line in vertical_line k found.0 found.1 row x needs
  line_sound some H k row x line inside good needs earlier =
      let found = has_plan f (line_of H k row) line in horizontal_line k found.0 found.1 row x needs
  line_sound some S k row x line inside good needs earlier =
      let found = has_plan f (line_of S k row) line in
      let h = height_is f k found.0 found.1 in
      offset_line k found.0 found.1 row x (omega (arith, line, h)) needs

  abbrev Closed : ℕ → Line → Type 0
  Closed x l =
      IsLine plan l → x < full_count plan l → ¬ IsBad plan (unit_of plan l x)
      → AreNeedsSound plan (is_sound f) (unit_needs plan l x) → AreSoundTo (is_sound f) l x → is_sound f l x ≡ true

  pub all_sound : HaveSegments f → IsSoundness plan (is_sound f)
  all_sound some l x line inside good needs earlier =
      let same : line_of l.phase l.picture l.row ≡ l =
      same_fields (line_of l.phase l.picture l.row) l refl refl refl in
      let closed : Closed x l = subst (Closed x) same (line_sound some l.phase l.picture l.row x) in
      closed line inside good needs earlier
