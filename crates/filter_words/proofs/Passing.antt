-- What a pass has seen of the units of rows stays seen behind calls that leave what it knows.
use Rattle.std.proofs.Common.{◌≡◌, ℕ, ◌+◌, ◌<◌, ◌≤◌, Some, slice_get, refl, sym, ap, subst, arith}
use Rattle.std.proofs.lemmas.Option.{slice_get_within}
use Rattle.hv_base.specs.declared.line.Line.{Line}
use Rattle.hv_base.specs.declared.line.Phase.TheVariants.{B}
use Rattle.plan_types.specs.declared.picture_plan.PicturePlan.{PicturePlan}
use Rattle.board_core.specs.Places.{line_of}
use Rattle.progress_words.specs.declared.view.View.{View}
use Rattle.progress_words.specs.Views.{seen_of}
use Rattle.sample_words.specs.declared.sizes.FlightSizes.{FlightSizes}
use Rattle.sample_words.specs.Sizes.{columns, rows}
use Rattle.sample_words.specs.Words.{line_number}
use Rattle.flight_facts.specs.declared.flight_facts.FlightFacts.{FlightFacts}
use Rattle.flight_facts.specs.Facts.{flight_in}
use Rattle.flight_facts.specs.Flights.{IsOfFlight}
use Rattle.flight_facts.proofs.Laid.{picture_sizes}
use Rattle.line_words.specs.Places.{number_at}
use Rattle.filter_words.specs.Rows.{AreRowsSeen, IsRowSeen}
use Rattle.filter_words.specs.Units.{IsSoundUnit, unit_at}

-- a unit of a row that is seen
pub unit_of_row : (facts : FlightFacts) (s : FlightSizes) (p : PicturePlan) (v : View FlightFacts) (l : Line) (x : ℕ)
    → IsOfFlight facts s → slice_get (flight_in facts).pictures l.picture ≡ Some p → l.row < rows s
    → IsRowSeen facts s v l → x < columns s → IsSoundUnit facts p (unit_at s l x)
unit_of_row facts s p v l x flight picture row seen less =
    let many = ap (λ (t : FlightSizes). t.pictures) (picture_sizes facts s l.picture p flight picture) in
    let inside = slice_get_within (flight_in facts).pictures l.picture p picture in
    record {
      flight = flight;
      picture = picture;
      phase = refl;
      unit = record {
        line = record { picture = omega (arith, many, inside); row = row };
        unit = less;
      };
      sound = seen.sound x less;
    }

pub unit_seen : (facts : FlightFacts) (s : FlightSizes) (v w : View FlightFacts) (l : Line) (x : ℕ) → w ≡ v
    → IsRowSeen facts s v l → x < columns s → x < seen_of w (number_at (unit_at s l x))
unit_seen facts s v w l x same seen less =
    let all = seen.seen in
    let here : x < seen_of v (line_number s (line_of B l.picture l.row)) = omega (arith, less, all) in
    subst (λ (u : View FlightFacts). x < seen_of u (line_number s (line_of B l.picture l.row))) (sym same) here

-- the row that is next to one, or the row itself
pub row_beside : (facts : FlightFacts) (s : FlightSizes) (v w : View FlightFacts) (l : Line) (beside r : ℕ) → w ≡ v
    → AreRowsSeen facts s v l beside → r < rows s → l.row ≤ r + beside → r ≤ l.row + beside
    → IsRowSeen facts s w (line_of l.phase l.picture r)
row_beside facts s v w l beside r same seen there low high =
    subst (λ (u : View FlightFacts). IsRowSeen facts s u (line_of l.phase l.picture r)) (sym same)
    (seen r there low high)

pub still_seen : (facts : FlightFacts) (s : FlightSizes) (v w : View FlightFacts) (l : Line) (beside : ℕ) → w ≡ v
    → AreRowsSeen facts s v l beside → AreRowsSeen facts s w l beside
still_seen facts s v w l beside same seen =
    subst (λ (u : View FlightFacts). AreRowsSeen facts s u l beside) (sym same) seen
