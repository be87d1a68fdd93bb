-- The lines and the sizes of a picture of a flight.
use Rattle.std.proofs.Common.{◌≡◌, ℕ, ◌-◌, ◌/◌, ◌<◌, sym, ap, subst, ◌∙◌, arith, inl, inr, List, length, Some}
use Rattle.std.proofs.Common.{slice_get}
use Rattle.std.proofs.lemmas.Option.{none-some, slice_get_cases}
use Rattle.hv_base.specs.declared.line.Line.{Line}
use Rattle.hv_base.specs.declared.line.Phase.{Phase}
use Rattle.hv_base.specs.declared.line.Phase.TheVariants.{S}
use Rattle.board_core.specs.Places.{line_of}
use Rattle.plan_types.specs.declared.picture_plan.PicturePlan.{PicturePlan}
use Rattle.picture_buffer.specs.Motion.{FieldPlaces, HasPlaces}
use Rattle.picture_buffer.specs.Planes.{HasSides, PictureSamples}
use Rattle.sample_words.specs.declared.sizes.FlightSizes.{FlightSizes}
use Rattle.sample_words.specs.Sizes.{rows}
use Rattle.sample_words.specs.Words.{IsLine, line_units}
use Rattle.progress_words.specs.declared.view.View.{View}
use Rattle.flight_lines.specs.Numbers.{unit_number}
use Rattle.line_words.specs.Places.{UnitAt}
use Rattle.sample_lines.specs.FactsOfFlights.{FlightFacts}
use Rattle.sample_lines.specs.FactsOfFlights.{flight_in}
use Rattle.sample_lines.specs.FactsOfFlights.{IsOfFlight}
use Rattle.sample_lines.proofs.FactsOfFlights.{picture_sizes}
use Rattle.taken_pictures.specs.Pictures.{IsPictureSeen, IsBuiltAndFinal}

there_inside : {X : Type 0} (xs : List X) (k : ℕ) (x : X) → slice_get xs k ≡ Some x → k < length xs
there_inside xs k x has =
    elim ((slice_get_cases xs k).1) [
      | inl there ↦ there.1
      | inr past ↦ absurd (none-some x (sym past.1 ∙ has))
    ]

-- a unit of a line
abbrev pub unit_at : FlightSizes → Line → ℕ → UnitAt
unit_at s l x = record { sizes = s; line = l; unit = x }

-- the line of a row of a picture, and its first unit where it is one of the row as a whole
pub picture_line : (s : FlightSizes) (l : Line) (phase : Phase) (k row : ℕ) → l ≡ line_of phase k row
    → k < s.pictures → row < rows s → IsLine s l
picture_line s l phase k row is inside less = subst (IsLine s) (sym is) (record { picture = inside; row = less })

pub final_unit : (s : FlightSizes) (l : Line) (k row : ℕ) → l ≡ line_of S k row → 0 < line_units s l.phase
final_unit s l k row is = subst (λ (m : Line). 0 < line_units s m.phase) (sym is) (omega arith)

-- the number of the last unit of a picture
pub last_unit : (s : FlightSizes) (l : Line) (k n number : ℕ) → l ≡ line_of S k (n - 1) → n ≡ rows s
    → number ≡ unit_number s l 0 → number ≡ unit_number s (line_of S k (rows s - 1)) 0
last_unit s l k n number is all number_is =
    number_is
    ∙ (ap (λ (m : Line). unit_number s m 0) is ∙ ap (λ (r : ℕ). unit_number s (line_of S k (r - 1)) 0) all)

module _ (facts : FlightFacts) (s : FlightSizes) (k : ℕ) (p : PicturePlan) (is : IsOfFlight facts s)
    (has : slice_get (flight_in facts).pictures k ≡ Some p) where
  -- the flight has the picture
  pub picture_inside : k < s.pictures
  picture_inside =
      let many : s.pictures ≡ length (flight_in facts).pictures =
      ap (λ (t : FlightSizes). t.pictures) (picture_sizes facts s k p is has) in
      let inside = there_inside (flight_in facts).pictures k p has in
      omega (arith, many, inside)

  wide : p.sps.format.pic_width_in_luma_samples ≡ s.width
  wide = sym (ap (λ (t : FlightSizes). t.width) (picture_sizes facts s k p is has))

  high : p.sps.format.pic_height_in_luma_samples ≡ s.height
  high = sym (ap (λ (t : FlightSizes). t.height) (picture_sizes facts s k p is has))

  -- what has its sizes has those of the flight, and what has these has its own
  pub sides_in : (planes : PictureSamples)
      → HasSides planes p.sps.format.pic_width_in_luma_samples p.sps.format.pic_height_in_luma_samples
      → HasSides planes s.width s.height
  sides_in planes sides =
      subst (λ w. HasSides planes w s.height) wide
      (subst (λ h. HasSides planes p.sps.format.pic_width_in_luma_samples h) high sides)

  pub sides_out : (planes : PictureSamples) → HasSides planes s.width s.height
      → HasSides planes p.sps.format.pic_width_in_luma_samples p.sps.format.pic_height_in_luma_samples
  sides_out planes sides =
      subst (λ w. HasSides planes w p.sps.format.pic_height_in_luma_samples) (sym wide)
      (subst (λ h. HasSides planes s.width h) (sym high) sides)

  pub places_in : (field : FieldPlaces)
      → HasPlaces field (p.sps.format.pic_width_in_luma_samples / 4) (p.sps.format.pic_height_in_luma_samples / 4)
      → HasPlaces field (s.width / 4) (s.height / 4)
  places_in field places =
      subst (λ w. HasPlaces field (w / 4) (s.height / 4)) wide
      (subst (λ h. HasPlaces field (p.sps.format.pic_width_in_luma_samples / 4) (h / 4)) high places)

  pub places_out : (field : FieldPlaces) → HasPlaces field (s.width / 4) (s.height / 4)
      → HasPlaces field (p.sps.format.pic_width_in_luma_samples / 4) (p.sps.format.pic_height_in_luma_samples / 4)
  places_out field places =
      subst (λ w. HasPlaces field (w / 4) (p.sps.format.pic_height_in_luma_samples / 4)) (sym wide)
      (subst (λ h. HasPlaces field (s.width / 4) (h / 4)) (sym high) places)

-- a row of a picture that is seen
pub row_seen : {F : Type 0} (s : FlightSizes) (v w : View F) (k row : ℕ) → w ≡ v → IsPictureSeen s v k → row < rows s
    → IsBuiltAndFinal s w k row
row_seen s v w k row same seen less = subst (λ u. IsBuiltAndFinal s u k row) (sym same) (seen row less)
