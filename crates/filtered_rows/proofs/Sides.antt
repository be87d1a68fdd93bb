-- The lines of a row of coding tree blocks, by component.
use Rattle.std.proofs.Common.{◌≡◌, ◌≢◌, refl, ℕ, zero, suc, ◌+◌, ◌-◌, ◌*◌, ◌/◌, ◌%◌, ◌^◌, ◌<◌, ◌≤◌, ◌==◌, min}
use Rattle.std.proofs.Common.{Bool, true, false, cond, arith, ap, sym, subst, ◌∙◌}
use Rattle.std.proofs.lemmas.Nat.{le-div}
use Rattle.std.proofs.Math.Nat.{div-mul-le_self, mul-le-mul_right, pow-suc}
use Rattle.hv_base.specs.declared.line.Line.{Line}
use Rattle.hv_base.specs.declared.line.Phase.{Phase}
use Rattle.hv_base.specs.declared.line.Phase.TheVariants.{B, V, H, S}
use Rattle.loop_filters.specs.declared.component.Component.{Component}
use Rattle.sample_words.specs.declared.sizes.FlightSizes.{FlightSizes}
use Rattle.sample_words.specs.Contents.{component_side, first_column, unit_width}
use Rattle.sample_words.specs.Sizes.{IsFlight, ctb_size, height_of, rows}
use Rattle.sample_words.specs.Words.{IsLine, line_units}
use Rattle.sample_words.proofs.Bounds.{greatest_side, least_side}
use Rattle.sample_words.proofs.Extents.{some_side}
use Rattle.sample_words.proofs.Parts.{next_part}
use Rattle.flight_waits.specs.SpecFlights.{PlannedFlight}
use Rattle.board_core.specs.Places.{line_of}
use Rattle.line_words.specs.Places.{IsUnit, UnitAt}
use Rattle.sample_lines.specs.FactsOfFlights.{FlightFacts}
use Rattle.sample_lines.specs.FactsOfFlights.{flight_in}
use Rattle.sample_lines.specs.FactsOfFlights.{IsOfFlight, samples_at}
use Rattle.sample_lines.proofs.FactsOfFlights.{flight_sized}
use Rattle.sample_lines.specs.Lines.{height_at, left_at, sample_of, top_at, width_at}
use Rattle.filtered_rows.specs.Components.{HasSidesOf}

-- the sizes of a flight are in range
pub in_range : (facts : FlightFacts) (s : FlightSizes) → IsOfFlight facts s → IsFlight s
in_range facts s is = subst IsFlight (sym is.sizes) (flight_sized (flight_in facts) is.planned).sizes

-- the unit of a line of a loop filter
abbrev pub row_unit : FlightSizes → Line → UnitAt
row_unit s l = record { sizes = s; line = l; unit = 0 }

-- the last phase is not the one that is built
pub offset_other : (phase : Phase) → phase ≡ S → phase ≢ B
offset_other S e = λ same. absurd cc
offset_other B e = absurd cc
offset_other V e = absurd cc
offset_other H e = absurd cc

one_of : (s : FlightSizes) (phase : Phase) → phase ≢ B → line_units s phase ≡ 1
one_of s B other = absurd (other refl)
one_of s V other = refl
one_of s H other = refl
one_of s S other = refl

-- a unit of such a phase is its whole line
pub at_is : (s : FlightSizes) (u : UnitAt) → u.sizes ≡ s → IsUnit u → u.line.phase ≢ B → u ≡ row_unit s u.line
at_is s u same is other =
    let one = one_of u.sizes u.line.phase other in
    let less = is.unit in
    let none : u.unit ≡ 0 = omega (arith, one, less) in
    λ i. record { sizes = same i; line = u.line; unit = none i }

-- which is one of the flight
pub row_there : (s : FlightSizes) (u : UnitAt) → u.sizes ≡ s → IsUnit u → (phase : Phase)
    → IsLine s (line_of phase u.line.picture u.line.row)
row_there s u same is phase =
    let there : IsLine s u.line = subst (λ (t : FlightSizes). IsLine t u.line) same is.line in
    record { picture = there.picture; row = there.row }

whole_width : (s : FlightSizes) (phase : Phase) → phase ≢ B → unit_width s phase 0 ≡ s.width
whole_width s B other = absurd (other refl)
whole_width s V other = refl
whole_width s H other = refl
whole_width s S other = refl

no_column : (s : FlightSizes) (phase : Phase) → phase ≢ B → first_column s phase 0 ≡ 0
no_column s B other = absurd (other refl)
no_column s V other = refl
no_column s H other = refl
no_column s S other = refl

-- CtbSizeY is even
half_power : (n : ℕ) → 4 ≤ n → 2 ^ n ≡ 2 * 2 ^ (n - 1)
half_power zero some = absurd (omega (arith, some))
half_power (suc n) some =
    let e : suc n - 1 ≡ n = omega arith in
    let p = pow-suc 2 n in
    let q : 2 ^ (suc n - 1) ≡ 2 ^ n = ap (λ (m : ℕ). 2 ^ m) e in
    omega (arith, p, q)

half_side : (s : FlightSizes) → IsFlight s → ctb_size s ≡ 2 * 2 ^ (s.ctb_log2 - 1)
half_side s is = half_power s.ctb_log2 is.least_unit

none_of : (luma : Bool) → cond luma 0 (0 / 2) ≡ 0
none_of true = refl
none_of false = refl

-- a side and a row's first line and last lines, by those of luma
half_top : (luma : Bool) (row side h : ℕ) → side ≡ 2 * h
    → cond luma (row * side) (row * side / 2) ≡ cond luma side (side / 2) * row
half_top true row side h e = omega arith
half_top false row side h e =
    let p : row * side ≡ 2 * (row * h) = ap (λ (n : ℕ). row * n) e ∙ omega arith in
    let q : side / 2 ≡ h = omega (arith, e) in
    let r : side / 2 * row ≡ row * h = ap (λ (n : ℕ). n * row) q ∙ omega arith in
    omega (arith, p, r)

half_lines : (luma : Bool) (row side height h : ℕ) → side ≡ 2 * h
    → cond luma (min side (height - row * side)) (min side (height - row * side) / 2)
    ≡ min (cond luma side (side / 2)) (cond luma height (height / 2) - cond luma side (side / 2) * row)
half_lines true row side height h e = let p : row * side ≡ side * row = omega arith in omega (arith, p)
half_lines false row side height h e =
    let p : row * side ≡ 2 * (row * h) = ap (λ (n : ℕ). row * n) e ∙ omega arith in
    let q : side / 2 ≡ h = omega (arith, e) in
    let r : side / 2 * row ≡ row * h = ap (λ (n : ℕ). n * row) q ∙ omega arith in
    omega (arith, e, p, q, r)

half_range : (luma : Bool) (side : ℕ) → 16 ≤ side → side ≤ 64
    → (8 ≤ cond luma side (side / 2)) × (cond luma side (side / 2) ≤ 64)
half_range true side least most = (omega (arith, least), most)
half_range false side least most = (omega (arith, least), omega (arith, most))

half_most : (luma : Bool) (n : ℕ) → cond luma n (n / 2) ≤ n
half_most true n = omega arith
half_most false n = omega arith

half_some : (luma : Bool) (n : ℕ) → 2 ≤ n → 1 ≤ cond luma n (n / 2)
half_some true n some = omega (arith, some)
half_some false n some = omega (arith, some)

-- a row begins in the component, which has even sides; the row behind it begins there too, if it is one
half_begins : (luma : Bool) (row side height h : ℕ) → side ≡ 2 * h → row * side < height → height % 2 ≡ 0
    → cond luma side (side / 2) * row < cond luma height (height / 2)
half_begins true row side height h e less even = let p : row * side ≡ side * row = omega arith in omega (arith, p, less)
half_begins false row side height h e less even =
    let p : row * side ≡ 2 * (row * h) = ap (λ (n : ℕ). row * n) e ∙ omega arith in
    let q : side / 2 ≡ h = omega (arith, e) in
    let r : side / 2 * row ≡ row * h = ap (λ (n : ℕ). n * row) q ∙ omega arith in
    omega (arith, p, r, less, even)

half_behind : (luma : Bool) (row side height h : ℕ) → side ≡ 2 * h → height % 2 ≡ 0
    → cond luma side (side / 2) * row < cond luma height (height / 2) → row * side < height
half_behind true row side height h e even less = let p : row * side ≡ side * row = omega arith in omega (arith, p, less)
half_behind false row side height h e even less =
    let p : row * side ≡ 2 * (row * h) = ap (λ (n : ℕ). row * n) e ∙ omega arith in
    let q : side / 2 ≡ h = omega (arith, e) in
    let r : side / 2 * row ≡ row * h = ap (λ (n : ℕ). n * row) q ∙ omega arith in
    omega (arith, p, r, less, even)

-- a row of a flight begins in its pictures, and what begins there is one
row_begins : (s : FlightSizes) (row : ℕ) → row < rows s → row * ctb_size s < s.height
unfolding rows
row_begins s row less =
    let side : ℕ = ctb_size s in
    let some = some_side s in
    let all = div-mul-le_self (s.height + (side - 1)) side in
    let le : (row + 1) * side ≤ rows s * side = mul-le-mul_right side (omega (arith, less)) in
    let next = next_part row side in
    omega (arith, some, all, le, next)

row_is_one : (s : FlightSizes) (row : ℕ) → row * ctb_size s < s.height → row < rows s
unfolding rows
row_is_one s row less =
    let side : ℕ = ctb_size s in
    let some = some_side s in
    let next = next_part row side in
    let le : row + 1 ≤ (s.height + (side - 1)) / side =
    le-div (row + 1) (s.height + (side - 1)) side some (omega (arith, some, less, next)) in
    omega (arith, le)

module _ (s : FlightSizes) (k : Component) (is : IsFlight s) (of : HasSidesOf s k) where
  pub size_range : (8 ≤ k.size) × (k.size ≤ 64)
  size_range =
      subst (λ (n : ℕ). (8 ≤ n) × (n ≤ 64)) (sym of.size)
      (half_range (k.c == 0) (ctb_size s) (least_side s is) (greatest_side s is))

  pub width_few : k.width ≤ 8192
  width_few =
      let e = of.width in
      let most = half_most (k.c == 0) s.width in
      let few = is.width in
      omega (arith, e, most, few)

  pub width_some : 1 ≤ k.width
  width_some =
      let e = of.width in
      let some = half_some (k.c == 0) s.width (let n = is.some_width in omega (arith, n)) in
      omega (arith, e, some)

  pub height_few : k.height ≤ 8192
  height_few =
      let e = of.height in
      let most = half_most (k.c == 0) s.height in
      let few = is.height in
      omega (arith, e, most, few)

  -- where a row begins
  pub top_is : (row : ℕ) → component_side k.c (row * ctb_size s) ≡ k.size * row
  top_is row =
      half_top (k.c == 0) row (ctb_size s) (2 ^ (s.ctb_log2 - 1)) (half_side s is)
      ∙ ap (λ (n : ℕ). n * row) (sym of.size)

  -- how many lines it has
  pub lines_are : (row : ℕ) → component_side k.c (height_of s row) ≡ min k.size (k.height - k.size * row)
  unfolding height_of
  lines_are row =
      let size = sym of.size in
      let height = sym of.height in
      half_lines (k.c == 0) row (ctb_size s) s.height (2 ^ (s.ctb_log2 - 1)) (half_side s is)
      ∙ (λ i. min (size i) (height i - size i * row))

  even : s.height % 2 ≡ 0
  even = let eights = is.whole_rows in omega (arith, eights)

  pub begins : (row : ℕ) → row < rows s → k.size * row < k.height
  begins row less =
      let inside =
      half_begins (k.c == 0) row (ctb_size s) s.height (2 ^ (s.ctb_log2 - 1)) (half_side s is)
      (row_begins s row less) even in
      subst (λ (n : ℕ). n * row < k.height) (sym of.size)
      (subst (λ (n : ℕ). component_side k.c (ctb_size s) * row < n) (sym of.height) inside)

  pub begins_row : (row : ℕ) → k.size * row < k.height → row < rows s
  begins_row row less =
      let inside : component_side k.c (ctb_size s) * row < component_side k.c s.height =
      subst (λ (n : ℕ). component_side k.c (ctb_size s) * row < n) of.height
      (subst (λ (n : ℕ). n * row < k.height) of.size less) in
      row_is_one s row
      (half_behind (k.c == 0) row (ctb_size s) s.height (2 ^ (s.ctb_log2 - 1)) (half_side s is) even inside)

  -- the row as a unit
  module _ (l : Line) (other : l.phase ≢ B) where
    pub unit_width_is : width_at (row_unit s l) k.c ≡ k.width
    unit_width_is = ap (component_side k.c) (whole_width s l.phase other) ∙ sym of.width

    pub unit_height_is : height_at (row_unit s l) k.c ≡ min k.size (k.height - k.size * l.row)
    unit_height_is = lines_are l.row

    left_is : left_at (row_unit s l) k.c ≡ 0
    left_is = ap (component_side k.c) (no_column s l.phase other) ∙ none_of (k.c == 0)

    -- a sample of it
    pub unit_sample : (f : PlannedFlight) (x y z : ℕ) → k.size * l.row + y ≡ z
        → sample_of f (row_unit s l) k.c x y ≡ samples_at f l.picture l.phase k.c x z
    unfolding sample_of
    unit_sample f x y z is_line =
        let column : left_at (row_unit s l) k.c + x ≡ x = let e = left_is in omega (arith, e) in
        let line : top_at (row_unit s l) k.c + y ≡ z = let e = top_is l.row in omega (arith, e, is_line) in
        λ i. samples_at f l.picture l.phase k.c (column i) (line i)
