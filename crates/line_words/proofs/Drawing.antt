-- The lines of a flight by their tickets.
use Rattle.std.proofs.Common.{◌≡◌, ℕ, zero, suc, ◌+◌, ◌*◌, ◌/◌, ◌<◌, ◌≤◌, arith, ap, sym, ◌∙◌, length, subst, take}
use Rattle.std.proofs.Common.{sum_by}
use Rattle.std.proofs.lemmas.List.Sums.{sum_by_more}
use Rattle.std.proofs.lemmas.Nat.{div_below}
use Rattle.hv_base.specs.declared.line.Line.{Line}
use Rattle.flight_plan.specs.Flight.{FlightRows, no_picture, picture_at}
use Rattle.board_core.specs.Places.{delay, IsLine, lines_before, picture_lines, ticket_of, turn_of}
use Rattle.board_core.proofs.Order.{line_inside}
use Rattle.sample_words.specs.declared.sizes.FlightSizes.{FlightSizes}
use Rattle.sample_words.specs.Sizes.{rows}
use Rattle.sample_words.specs.Words.{IsLine as IsWordLine, line_number, lines}
use Rattle.sample_words.proofs.Parts.{next_part}
use Rattle.progress_words.specs.Meanings.{Meaning}
use Rattle.flight_lines.specs.Flights.{BoardFlight, IsSized, meaning_of}
use Rattle.flight_lines.specs.Numbers.{drawn_at}
use Rattle.flight_lines.proofs.Numbered.{flight_line, number_less, number_line}
use Rattle.flight_lines.proofs.Ticketed.{line_by_ticket}
use Rattle.line_words.specs.Places.{HasSizes}

-- the picture of a ticket
pub picture_of_ticket : (s : FlightSizes) (t : ℕ) → 0 < rows s → t < lines s → t / (4 * rows s) < s.pictures
picture_of_ticket s t some less =
    let whole : s.pictures * (4 * rows s) ≡ lines s = omega arith in
    div_below t (4 * rows s) s.pictures (omega (arith, some)) (omega (arith, whole, less))

module _ (plan : FlightRows) (s : FlightSizes) (sized : IsSized plan s) where
  -- the lines of the pictures before one
  lines_above : (k : ℕ) → k ≤ length plan.pictures → sum_by picture_lines (take k plan.pictures) ≡ k * (4 * rows s)
  lines_above zero few = omega arith
  lines_above (suc k) few =
      let inside : k < length plan.pictures = omega (arith, few) in
      let e : k + 1 ≡ suc k = omega arith in
      let more = sum_by_more picture_lines plan.pictures k no_picture inside in
      let next : sum_by picture_lines (take (suc k) plan.pictures)
      ≡ sum_by picture_lines (take k plan.pictures) + picture_lines (picture_at plan k) =
      ap (λ (n : ℕ). sum_by picture_lines (take n plan.pictures)) (sym e) ∙ more in
      let rest = lines_above k (omega (arith, few)) in
      let one : picture_lines (picture_at plan k) ≡ 4 * rows s = ap (λ (n : ℕ). 4 * n) (sized.heights k inside) in
      let parts : (k + 1) * (4 * rows s) ≡ k * (4 * rows s) + 4 * rows s = next_part k (4 * rows s) in
      let last : suc k * (4 * rows s) ≡ (k + 1) * (4 * rows s) = ap (λ (n : ℕ). n * (4 * rows s)) (sym e) in
      omega (arith, next, rest, one, parts, last)

  -- the ticket of a line
  ticket_is : (l : Line) → IsLine plan l
      → ticket_of plan l ≡ l.picture * (4 * rows s) + lines_before (rows s) (turn_of l) (delay l.phase)
  ticket_is l line =
      let inside = line_inside plan l line in
      let above = lines_above l.picture (omega (arith, inside)) in
      let high = sized.heights l.picture inside in
      λ i. above i + lines_before (high i) (turn_of l) (delay l.phase)

  -- a line is drawn by its ticket
  drawn_is : (l : Line) (t : ℕ) → IsLine plan l
      → l.picture * (4 * rows s) + lines_before (rows s) (turn_of l) (delay l.phase) ≡ t
      → drawn_at plan s t ≡ line_number s l
  drawn_is l t line e =
      let ticket : ticket_of plan l ≡ t = ticket_is l line ∙ e in
      let again = number_line plan s sized l line in
      ap (drawn_at plan s) (sym (ap (ticket_of plan) again ∙ ticket))
      ∙ line_by_ticket plan s sized (line_number s l) (number_less plan s sized l line)

-- the lines of a board of the flight, and the one that it has for a ticket
module _ (m : Meaning) (f : BoardFlight) (meant : m ≡ meaning_of f) (s : FlightSizes) (has : HasSizes f s) where
  pub lines_at_board : m.lines ≡ lines s
  unfolding meaning_of
  lines_at_board = ap (λ (n : Meaning). n.lines) meant ∙ ap (λ (t : FlightSizes). lines t) has.0

  pub drawn_at_board : (l : Line) (t : ℕ) → IsWordLine s l
      → l.picture * (4 * rows s) + lines_before (rows s) (turn_of l) (delay l.phase) ≡ t
      → m.line_at t ≡ line_number s l
  unfolding meaning_of
  drawn_at_board l t is e =
      let same = sym has.0 in
      let there : IsWordLine f.sizes l = subst (λ (z : FlightSizes). IsWordLine z l) same is in
      let line = flight_line f.plan f.sizes has.1 l there in
      let ticket = subst
      (λ (z : FlightSizes). l.picture * (4 * rows z) + lines_before (rows z) (turn_of l) (delay l.phase) ≡ t) same e in
      ap (λ (n : Meaning). n.line_at t) meant
      ∙ (drawn_is f.plan f.sizes has.1 l t line ticket ∙ ap (λ (z : FlightSizes). line_number z l) has.0)
