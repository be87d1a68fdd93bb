-- The numbers of units, and the places of the shared words.
use Rattle.std.proofs.Common.{◌≡◌, refl, ℕ, zero, suc, ◌+◌, ◌*◌, ◌<◌, ◌≤◌, arith, ap, sym, ◌∙◌, length, take}
use Rattle.std.proofs.lemmas.List.Sums.{sum_by_more}
use Rattle.hv_base.specs.declared.line.Line.{Line}
use Rattle.hv_base.specs.declared.line.Phase.{Phase}
use Rattle.hv_base.specs.declared.line.Phase.TheVariants.{B, V, H, S}
use Rattle.flight_plan.specs.Flight.{FlightRows, PictureRows, no_picture, picture_at, picture_units, units_of}
use Rattle.board_core.specs.Places.{IsLine, phase_start, unit_of}
use Rattle.board_core.proofs.Order.{line_inside}
use Rattle.sample_words.specs.declared.sizes.FlightSizes.{FlightSizes}
use Rattle.sample_words.specs.declared.unit_word.UnitWord.{UnitWord}
use Rattle.sample_words.specs.Sizes.{columns, rows}
use Rattle.sample_words.specs.Words.{IsUnitWord, count_word, fault_word, first_unit_word, line_number, ticket_word}
use Rattle.sample_words.specs.Words.{word_of}
use Rattle.sample_words.proofs.Owners.{unit_word_found}
use Rattle.progress_words.specs.Meanings as board
use Rattle.flight_lines.specs.Flights.{BoardFlight, IsSized, meaning_of}
use Rattle.flight_lines.specs.Numbers.{spot_by, spot_of, unit_number, units_a_picture, units_before}
use Rattle.flight_lines.proofs.Numbered.{units_are}

start_is : (phase : Phase) (p : PictureRows) (s : FlightSizes) → p.rows ≡ rows s → p.width ≡ columns s
    → phase_start phase p ≡ units_before s phase
start_is B p s high wide = refl
start_is V p s high wide = λ i. high i * wide i
start_is H p s high wide = λ i. high i * wide i + high i
start_is S p s high wide = λ i. high i * wide i + 2 * high i

module _ (plan : FlightRows) (s : FlightSizes) (sized : IsSized plan s) where
  one_picture : (k : ℕ) → k < length plan.pictures → picture_units (picture_at plan k) ≡ units_a_picture s
  one_picture k inside =
      let high = sized.heights k inside in
      let wide = sized.widths k inside in
      λ i. high i * wide i + 3 * high i

  pictures_before : (k : ℕ) → k ≤ length plan.pictures
      → units_of (take k plan.pictures) ≡ k * units_a_picture s
  pictures_before zero few = omega arith
  pictures_before (suc k) few =
      let inside : k < length plan.pictures = omega arith in
      let e : k + 1 ≡ suc k = omega arith in
      let more = sum_by_more picture_units plan.pictures k no_picture inside in
      let next : units_of (take (suc k) plan.pictures)
      ≡ units_of (take k plan.pictures) + picture_units (picture_at plan k) =
      ap (λ n. units_of (take n plan.pictures)) (sym e) ∙ more in
      let rest = pictures_before k (omega arith) in
      let one = one_picture k inside in
      omega (arith, next, rest, one)

  pub unit_is_number : (l : Line) (x : ℕ) → IsLine plan l → unit_of plan l x ≡ unit_number s l x
  unit_is_number l x line =
      let inside = line_inside plan l line in
      let before = pictures_before l.picture (omega (arith, inside)) in
      let start =
      start_is l.phase (picture_at plan l.picture) s (sized.heights l.picture inside) (sized.widths l.picture inside) in
      let units = units_are plan s sized l line in
      λ i. before i + (start i + (l.row * units i + x))

pub count_place : (s : FlightSizes) (l : Line) → count_word s l ≡ board.count_word (line_number s l)
unfolding count_word
count_place s l = omega arith

module _ (f : BoardFlight) where
  pub ticket_place : ticket_word f.sizes ≡ board.ticket_word (meaning_of f)
  unfolding ticket_word meaning_of
  ticket_place = omega arith

  pub fault_place : fault_word f.sizes ≡ board.fault_word (meaning_of f)
  unfolding fault_word meaning_of
  fault_place = omega arith

  pub data_place : first_unit_word f.sizes ≡ board.first_data_word (meaning_of f)
  unfolding first_unit_word meaning_of
  data_place = omega arith

  pub unit_place : (u : UnitWord) → IsSized f.plan f.sizes → IsUnitWord f.sizes u
      → (meaning_of f).owner (word_of f.sizes u) ≡ spot_of f.sizes u
  unfolding meaning_of
  unit_place u sized is = ap (spot_by f.sizes) (unit_word_found f.sizes u sized.sizes is)
