-- Each ticket of a flight is that of a line.
use Rattle.std.proofs.Common.{◌≡◌, ℕ, zero, suc, ◌+◌, ◌-◌, ◌*◌, ◌<◌, ◌≤◌, inl, inr, arith, ap, sym, subst}
use Rattle.std.proofs.Common.{◌∙◌, List, [], ◌∷◌, length, take, get_or, sum_by}
use Rattle.std.proofs.lemmas.Bool.{cases_lt, cases_eq, eq-eqb, ne_eqb}
use Rattle.std.proofs.lemmas.List.{take_all}
use Rattle.std.proofs.lemmas.List.Sums.{sum_by-cons, sum_by_more}
use Rattle.hv_base.specs.declared.line.Line.{Line}
use Rattle.hv_base.specs.declared.line.Phase.{Phase}
use Rattle.hv_base.specs.declared.line.Phase.TheVariants.{B, V, H, S}
use Rattle.flight_plan.specs.Flight.{FlightRows, PictureRows, no_picture, picture_at}
use Rattle.board_core.specs.Places.{delay, IsLine, line_of, lines_before, lines_of, picture_lines, ticket_of}
use Rattle.board_core.proofs.Drawing.{all_before, line_found, next_phase, next_turn, none_before}
use Rattle.board_core.proofs.Drawing.{behind_horizontal, behind_vertical}
use Rattle.board_core.proofs.Order.{same_ticket, ticket_inside}
use Rattle.sample_words.specs.declared.sizes.FlightSizes.{FlightSizes}
use Rattle.sample_words.specs.Sizes.{rows}
use Rattle.sample_words.specs.Words.{line_at, line_number, lines}
use Rattle.sample_words.proofs.Parts.{next_part}
use Rattle.flight_lines.specs.Flights.{IsSized}
use Rattle.flight_lines.specs.Numbers.{drawn_at, number_with, ticket_at}
use Rattle.flight_lines.proofs.Numbered.{line_is, number_is, number_less, number_line}

-- where a function rises past a value
pub record RisesAt (f : ℕ → ℕ) (n v : ℕ) : Type 0 where
  pub at : ℕ
  pub inside : at < n
  pub low : f at ≤ v
  pub high : v < f (suc at)

rises : (f : ℕ → ℕ) (n v : ℕ) → f 0 ≤ v → v < f n → RisesAt f n v
rises f zero v low high = absurd (omega (arith, low, high))
rises f (suc n) v low high =
    elim (cases_lt v (f n)) [
      | inl less ↦ let found = rises f n v low less in
          record { at = found.at; inside = omega (arith, found.inside); low = found.low; high = found.high }
      | inr more ↦ record { at = n; inside = omega arith; low = more; high = high }
    ]

-- a line with a ticket
pub record HasTicket (plan : FlightRows) (t : ℕ) : Type 0 where
  pub line : Line
  pub is : IsLine plan line
  pub ticket : ticket_of plan line ≡ t

-- the line of a picture before which so many of the picture are drawn
pub record IsWithin (r within : ℕ) : Type 0 where
  pub phase : Phase
  pub row : ℕ
  pub inside : row < r
  pub before : lines_before r (row + delay phase) (delay phase) ≡ within

in_turn : (r turn within : ℕ) (phase : Phase) → lines_before r turn (delay phase) ≤ within
    → within < lines_before r turn (delay phase + 1) → IsWithin r within
in_turn r turn within phase low high =
    let found = line_found r turn within phase low high in
    let same : turn - delay phase + delay phase ≡ turn = omega (arith, found.0) in
    record {
      phase = phase;
      row = turn - delay phase;
      inside = found.1;
      before = ap (λ t. lines_before r t (delay phase)) same ∙ found.2;
    }

of_turn : (r turn within : ℕ) → lines_before r turn 0 ≤ within → within < lines_before r turn 13 → IsWithin r within
of_turn r turn within first last =
    elim (cases_lt within (lines_before r turn 8)) [
      | inl built ↦
          in_turn r turn within B first (subst (λ (n : ℕ). within < n) (sym (next_phase r turn)) built)
      | inr behind_b ↦ elim (cases_lt within (lines_before r turn 10)) [
        | inl less ↦
            in_turn r turn within V behind_b (subst (λ (n : ℕ). within < n) (sym (behind_vertical r turn)) less)
        | inr behind_v ↦ elim (cases_lt within (lines_before r turn 12)) [
          | inl less ↦
              in_turn r turn within H behind_v (subst (λ (n : ℕ). within < n) (sym (behind_horizontal r turn)) less)
          | inr behind_h ↦ in_turn r turn within S behind_h last
        ]
      ]
    ]

within_picture : (r within : ℕ) → within < 4 * r → IsWithin r within
within_picture r within less =
    let none = none_before r in
    let all = all_before r in
    let turn = rises (λ t. lines_before r t 0) (r + 12) within (omega (arith, none)) (omega (arith, all, less)) in
    let e : turn.at + 1 ≡ suc turn.at = omega arith in
    let next : lines_before r turn.at 13 ≡ lines_before r (suc turn.at) 0 =
    next_turn r turn.at ∙ ap (λ t. lines_before r t 0) e in
    let high = turn.high in
    of_turn r turn.at within turn.low (omega (arith, next, high))

sum_is : (a b t : ℕ) → a ≤ t → b ≡ t - a → a + b ≡ t
sum_is a b t low e = omega arith

-- each ticket is that of a line of the flight
pub has_ticket : (plan : FlightRows) (t : ℕ) → t < lines_of plan → HasTicket plan t
has_ticket plan t less =
    let f : ℕ → ℕ = λ k. sum_by picture_lines (take k plan.pictures) in
    let whole : f (length plan.pictures) ≡ lines_of plan =
    ap (sum_by picture_lines) (take_all (length plan.pictures) plan.pictures (omega arith)) in
    let picture = rises f (length plan.pictures) t (omega arith) (omega (arith, whole, less)) in
    let k : ℕ = picture.at in
    let e : k + 1 ≡ suc k = omega arith in
    let more : f (suc k) ≡ f k + picture_lines (picture_at plan k) =
    ap f (sym e) ∙ sum_by_more picture_lines plan.pictures k no_picture picture.inside in
    let high = picture.high in
    let low = picture.low in
    let within = within_picture (picture_at plan k).rows (t - f k) (omega (arith, more, high, low)) in
    record {
      line = line_of within.phase k within.row;
      is = within.inside;
      ticket = sum_is (f k)
          (lines_before (picture_at plan k).rows (within.row + delay within.phase) (delay within.phase)) t low
          within.before;
    }

-- of the first so many lines one with a ticket is found
pub record IsFound (ticket : ℕ → ℕ) (n t : ℕ) : Type 0 where
  pub inside : number_with ticket n t < n
  pub is : ticket (number_with ticket n t) ≡ t

pub found : (ticket : ℕ → ℕ) (n i t : ℕ) → i < n → ticket i ≡ t → IsFound ticket n t
unfolding number_with
found ticket zero i t less e = absurd (omega arith)
found ticket (suc n) i t less e =
    elim (cases_eq (ticket n) t) [
      | inl same ↦ let yes = eq-eqb (ticket n) t same in record { inside = rw yes (omega arith); is = rw yes same }
      | inr other ↦
          let no = ne_eqb (ticket n) t other in
          let apart : i ≡ n → ⊥ = λ h. other (ap ticket (sym h) ∙ e) in
          let before : i < n =
          elim (cases_lt i n) [ inl h ↦ h | inr h ↦ absurd (apart (omega (arith, less, h))) ] in
          let rest = found ticket n i t before e in
          let inside = rest.inside in
          record { inside = rw no (omega (arith, inside)); is = rw no rest.is }
    ]

lines_by : (r : ℕ) (xs : List PictureRows) → ((k : ℕ) → k < length xs → (get_or xs k no_picture).rows ≡ r)
    → sum_by picture_lines xs ≡ length xs * (4 * r)
lines_by r [] each = omega arith
lines_by r (x ∷ xs) each =
    let first : x.rows ≡ r = each 0 (omega arith) in
    let rest = lines_by r xs (λ k less. each (suc k) (omega arith)) in
    let sum : sum_by picture_lines (x ∷ xs) ≡ 4 * x.rows + sum_by picture_lines xs = sum_by-cons picture_lines x xs in
    let more : length (x ∷ xs) ≡ length xs + 1 = omega arith in
    let product : length (x ∷ xs) * (4 * r) ≡ (length xs + 1) * (4 * r) = ap (λ k. k * (4 * r)) more in
    let parts : (length xs + 1) * (4 * r) ≡ length xs * (4 * r) + 4 * r = next_part (length xs) (4 * r) in
    omega (arith, first, rest, sum, product, parts)

module _ (plan : FlightRows) (s : FlightSizes) (sized : IsSized plan s) where
  -- the flight has as many lines as its words
  pub lines_are : lines_of plan ≡ lines s
  lines_are =
      let all = lines_by (rows s) plan.pictures sized.heights in
      let n : ℕ = s.pictures in
      let count = sized.count in
      let same : length plan.pictures * (4 * rows s) ≡ n * (4 * rows s) = ap (λ k. k * (4 * rows s)) count in
      let whole : n * (4 * rows s) ≡ n * rows s * 4 = omega arith in
      all ∙ (same ∙ whole)

  pub ticket_less : (n : ℕ) → n < lines s → ticket_at plan s n < lines s
  ticket_less n less =
      let inside = ticket_inside plan (line_at s n) (line_is plan s sized n less) in
      let e = lines_are in
      omega (arith, inside, e)

  pub ticket_is_found : (t : ℕ) → t < lines s → IsFound (ticket_at plan s) (lines s) t
  ticket_is_found t less =
      let e = lines_are in
      let has = has_ticket plan t (omega (arith, less, e)) in
      let number = number_less plan s sized has.line has.is in
      found (ticket_at plan s) (lines s) (line_number s has.line) t number
      (ap (ticket_of plan) (number_line plan s sized has.line has.is) ∙ has.ticket)

  -- a line is found by its ticket
  pub line_by_ticket : (n : ℕ) → n < lines s → drawn_at plan s (ticket_at plan s n) ≡ n
  line_by_ticket n less =
      let t : ℕ = ticket_at plan s n in
      let is = ticket_is_found t (ticket_less n less) in
      let m : ℕ = drawn_at plan s t in
      let same : line_at s m ≡ line_at s n =
      same_ticket plan (line_at s m) (line_at s n) (line_is plan s sized m is.inside) (line_is plan s sized n less)
      is.is in
      sym (number_is plan s sized m is.inside) ∙ (ap (line_number s) same ∙ number_is plan s sized n less)
