-- Pictures that are taken row by row.
use Rattle.std.proofs.Common.{◌≡◌, ℕ, zero, suc, ◌+◌, ◌*◌, ◌/◌, ◌<◌, ◌&&◌, Bool, true, false, cond, nat_le, nat_lt}
use Rattle.std.proofs.Common.{refl, sym, ap, subst, ◌∙◌, arith, inl, inr, List, Option, length, get_or}
use Rattle.std.proofs.lemmas.Bool.{cases_lt, lt-ltb}
use Rattle.std.proofs.lemmas.Bool.Decides.{nat_tests}
use Rattle.hv_base.specs.declared.line.Line.{Line}
use Rattle.hv_base.specs.declared.line.Phase.{Phase}
use Rattle.hv_base.specs.declared.line.Phase.TheVariants.{B, S}
use Rattle.sample_words.specs.declared.sizes.FlightSizes.{FlightSizes}
use Rattle.sample_words.specs.Contents.{component_side}
use Rattle.sample_words.specs.Sizes.{IsFlight, columns}
use Rattle.sample_words.specs.Words.{line_units}
use Rattle.picture_buffer.specs.Planes.{HasSides, PictureSamples, plane_height, plane_samples, plane_width}
use Rattle.picture_buffer.specs.Planes.{samples_of}
use Rattle.picture_buffer.specs.Planes.{with_component}
use Rattle.picture_buffer.proofs.Lent.{read_at, written_at}
use Rattle.picture_buffer.specs.declared.place_motion.PlaceMotion.{PlaceMotion}
use Rattle.row_above_laws.specs.SpecPictureBuild.{Samples}
use Rattle.spec_flights.specs.Pictures.{PlannedFlight, folded_at}
use Rattle.line_words.specs.Places.{UnitAt}
use Rattle.sample_lines.specs.FactsOfFlights.{FlightFacts}
use Rattle.sample_lines.specs.FactsOfFlights.{flight_in}
use Rattle.sample_lines.specs.FactsOfFlights.{samples_at}
use Rattle.taken_pictures.specs.Rows.{first_line, is_line_of_row, is_place_of_row, side_places}
use Rattle.taken_pictures.proofs.Sides.{column_before_end}
use Rattle.taken_pictures.proofs.Tests.{part_all, part_more}

cond_yes : {X : Type 0} (b : Bool) (x y : X) → b ≡ true → cond b x y ≡ x
cond_yes true x y e = refl
cond_yes false x y e = absurd cc

cond_no : {X : Type 0} (b : Bool) (x y : X) → b ≡ false → cond b x y ≡ y
cond_no false x y e = refl
cond_no true x y e = absurd cc

-- a column of units is one of a line of coding tree units
pub unit_there : (s : FlightSizes) (l : Line) (x : ℕ) → l.phase ≡ B → x < columns s → x < line_units s l.phase
unit_there s l x phase less = subst (λ (p : Phase). x < line_units s p) (sym phase) less

-- the places of a unit that is laid as a whole
pub unit_whole : {M : Type 0} (s : FlightSizes) (row x w h i j : ℕ) (taken old new : M) → IsFlight s
    → (nat_le (side_places s * x) i && nat_lt i (side_places s * x + w))
    ≡ (nat_le (side_places s * x) i && nat_lt i (side_places s * x + side_places s))
    → (nat_le (side_places s * row) j && nat_lt j (side_places s * row + h))
    ≡ (nat_le (side_places s * row) j && nat_lt j (side_places s * row + side_places s))
    → new
    ≡ cond ((nat_le (side_places s * row) j && nat_lt j (side_places s * row + h))
    && (nat_le (side_places s * x) i && nat_lt i (side_places s * x + w))) taken old
    → new ≡ cond (is_place_of_row s row j && is_place_of_row s x i) taken old
unit_whole s row x w h i j taken old new is across down laid =
    laid ∙ (λ t. cond (down t && across t) taken old)

-- the motion of a place behind one more unit
abbrev pub with_unit : FlightFacts → FlightSizes → UnitAt → (ℕ → ℕ → Option PlaceMotion) → ℕ → ℕ → Option PlaceMotion
with_unit facts s u old i j =
    cond (is_place_of_row s u.line.row j && is_place_of_row s u.unit i)
    ((folded_at (flight_in facts) u.line.picture).motions i j)
    (old i j)

-- that behind one more row, and the sample of a component behind one more row
abbrev pub with_line : PlannedFlight → FlightSizes → Line → (ℕ → ℕ → Option PlaceMotion) → ℕ → ℕ → Option PlaceMotion
with_line f s l old i j = cond (is_place_of_row s l.row j) ((folded_at f l.picture).motions i j) (old i j)

abbrev pub with_row : PlannedFlight → FlightSizes → UnitAt → Samples → Samples
with_row f s u old c x y = cond (is_line_of_row s c u.line.row y) (samples_at f u.line.picture S c x y) (old c x y)

-- one more unit
pub units_more : {M : Type 0} (s : FlightSizes) (row x i j : ℕ) (taken old mid new : M)
    → mid ≡ cond (is_place_of_row s row j && nat_lt i (side_places s * x)) taken old
    → new ≡ cond (is_place_of_row s row j && is_place_of_row s x i) taken mid
    → new ≡ cond (is_place_of_row s row j && nat_lt i (side_places s * (x + 1))) taken old
units_more s row x i j taken old mid new before is =
    let next : side_places s * (x + 1) ≡ side_places s * x + side_places s = grind arith in
    part_more (is_place_of_row s row j) (side_places s * x) (side_places s) (side_places s * (x + 1)) i taken old mid
    new next
    before is

-- all units
pub units_all : {M : Type 0} (s : FlightSizes) (row i j n : ℕ) (taken old new : M) → IsFlight s → n ≡ columns s
    → i < s.width / 4 → new ≡ cond (is_place_of_row s row j && nat_lt i (side_places s * n)) taken old
    → new ≡ cond (is_place_of_row s row j) taken old
units_all s row i j n taken old new is all inside laid =
    let end : i < side_places s * n =
    subst (λ (m : ℕ). i < side_places s * m) (sym all) (column_before_end s i is inside) in
    part_all (is_place_of_row s row j) i (side_places s * n) taken old new end laid

-- one more row of a picture: of its places, and of the lines of a component
pub places_more : {M : Type 0} (s : FlightSizes) (row j : ℕ) (taken mid new : M)
    → (j < side_places s * row → mid ≡ taken)
    → new ≡ cond (is_place_of_row s row j) taken mid
    → j < side_places s * (row + 1) → new ≡ taken
places_more s row j taken mid new before is below =
    let next : side_places s * (row + 1) ≡ side_places s * row + side_places s = grind arith in
    elim (cases_lt j (side_places s * row)) [
      | inl low ↦
          let out : is_place_of_row s row j ≡ false = grind (arith, nat_tests) in
          is ∙ (cond_no (is_place_of_row s row j) taken mid out ∙ before low)
      | inr past ↦
          let less : j < side_places s * row + side_places s = omega (arith, next, below) in
          let here : is_place_of_row s row j ≡ true = grind (arith, nat_tests) in
          is ∙ cond_yes (is_place_of_row s row j) taken mid here
    ]

pub lines_more : {M : Type 0} (s : FlightSizes) (c row y : ℕ) (taken mid new : M)
    → (y < first_line s c row → mid ≡ taken)
    → new ≡ cond (is_line_of_row s c row y) taken mid
    → y < first_line s c (row + 1) → new ≡ taken
lines_more s c row y taken mid new before is below =
    elim (cases_lt y (first_line s c row)) [
      | inl low ↦
          let out : is_line_of_row s c row y ≡ false = grind (arith, nat_tests) in
          is ∙ (cond_no (is_line_of_row s c row y) taken mid out ∙ before low)
      | inr past ↦
          let here : is_line_of_row s c row y ≡ true = grind (arith, nat_tests) in
          is ∙ cond_yes (is_line_of_row s c row y) taken mid here
    ]

-- the sides of a component's plane
pub plane_wide : (p : PictureSamples) (s : FlightSizes) (c : ℕ) → c < 3 → HasSides p s.width s.height
    → plane_width p c ≡ component_side c s.width
plane_wide p s zero few sides = sides.luma_width
plane_wide p s (suc zero) few sides = sides.cb_width
plane_wide p s (suc (suc zero)) few sides = sides.cr_width
plane_wide p s (suc (suc (suc c))) few sides = absurd (omega (arith, few))

pub plane_high : (p : PictureSamples) (s : FlightSizes) (c : ℕ) → c < 3 → HasSides p s.width s.height
    → plane_height p c ≡ component_side c s.height
plane_high p s zero few sides = sides.luma_height
plane_high p s (suc zero) few sides = sides.cb_height
plane_high p s (suc (suc zero)) few sides = sides.cr_height
plane_high p s (suc (suc (suc c))) few sides = absurd (omega (arith, few))

-- what stands in a component that was lent, and what it holds once it was written
pub stood_at : (p : PictureSamples) (s : FlightSizes) (c : ℕ) (samples : List ℕ) → c < 3
    → HasSides p s.width s.height → samples ≡ plane_samples p c
    → (x y : ℕ) → x < component_side c s.width → y < component_side c s.height
    → get_or samples (component_side c s.width * y + x) 0 ≡ samples_of p c x y
stood_at p s c samples few sides is x y column line =
    let wide = sym (plane_wide p s c few sides) in
    let high = sym (plane_high p s c few sides) in
    (λ t. get_or (is t) (wide t * y + x) 0)
    ∙ sym (read_at p c x y few (subst (λ w. x < w) wide column) (subst (λ h. y < h) high line))

pub given_at : (p : PictureSamples) (s : FlightSizes) (c : ℕ) (written : List ℕ) → c < 3
    → HasSides p s.width s.height → length written ≡ length (plane_samples p c)
    → (x y : ℕ) → x < component_side c s.width → y < component_side c s.height
    → samples_of (with_component p c written) c x y ≡ get_or written (component_side c s.width * y + x) 0
given_at p s c written few sides same x y column line =
    let wide = sym (plane_wide p s c few sides) in
    let high = sym (plane_high p s c few sides) in
    written_at p c written x y few same (subst (λ w. x < w) wide column) (subst (λ h. y < h) high line)
    ∙ ap (λ w. get_or written (w * y + x) 0) (sym wide)

-- all components
pub components_all : {M : Type 0} (k n : ℕ) (here : Bool) (taken old new : M) → k < n
    → new ≡ cond (nat_lt k n && here) taken old → new ≡ cond here taken old
components_all k n here taken old new less is =
    is ∙ ap (λ b. cond (b && here) taken old) (lt-ltb k n less)
