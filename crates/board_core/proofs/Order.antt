-- Tickets and unit numbers stand in the order of lines.
use Rattle.std.proofs.Common.{ℕ, ◌≡◌, ◌+◌, ◌-◌, ◌*◌, ◌<◌, ◌≤◌, ◌⊎◌, List, inl, inr, length, take, get_or, sum_by}
use Rattle.std.proofs.Common.{arith}
use Rattle.std.proofs.Common.{sym, ap, ◌∙◌, subst}
use Rattle.std.proofs.lemmas.Bool.{cases_lt, cases_order}
use Rattle.std.proofs.lemmas.List.{get_or_past, get_or-take, length-take, take-take}
use Rattle.std.proofs.lemmas.List.Sums.{sum_by_more_le}
use Rattle.flight_plan.specs.Flight.{FlightRows, PictureRows, picture_at, picture_units, units_of, no_picture}
use Rattle.hv_base.specs.declared.line.Line.{Line}
use Rattle.hv_base.specs.declared.line.Phase.{Phase}
use Rattle.hv_base.specs.declared.line.Phase.TheVariants.{B, V, H, S}
use Rattle.board_core.specs.Places.{delay, full_count, IsDrawnBefore, IsLine, lines_before, lines_of, phase_start}
use Rattle.board_core.specs.Places.{phase_units, picture_lines, ticket_of, turn_of, unit_of}
use Rattle.board_core.proofs.Drawing.{lines_few, lines_less, same_phase}

-- what stands before an earlier picture, with what that picture has, stands before a later one
pub before_more : (f : PictureRows → ℕ) (ps : List PictureRows) (j k : ℕ) → j < length ps → j < k
    → sum_by f (take j ps) + f (get_or ps j no_picture) ≤ sum_by f (take k ps)
before_more f ps j k inside h =
    let part : j < length (take k ps) = simp length-take (omega arith) in
    let sums = sum_by_more_le f (take k ps) j no_picture part in
    let le : j ≤ k = omega arith in
    rw (take-take j k ps le, get_or-take k ps j no_picture h) at sums

-- a line of the flight is of a picture of the flight
pub line_inside : (plan : FlightRows) (l : Line) → IsLine plan l → l.picture < length plan.pictures
line_inside plan l line =
    elim (cases_lt l.picture (length plan.pictures)) [
      | inl h ↦ h
      | inr h ↦ let e : picture_at plan l.picture ≡ no_picture = get_or_past plan.pictures l.picture no_picture h in
          let none : l.row < 0 = subst (λ (p : PictureRows). l.row < p.rows) e line in absurd (omega arith)
    ]

less_of_sums : (a b c d e : ℕ) → b < c → a + c ≤ d → a + b < d + e
less_of_sums a b c d e p q = omega arith

less_of_parts : (a b c d : ℕ) → a ≡ b → c < d → a + c < b + d
less_of_parts a b c d e p = omega arith

-- a line of an earlier picture has an earlier ticket
pub earlier_ticket : (plan : FlightRows) (l m : Line) → IsLine plan l → l.picture < m.picture
    → ticket_of plan l < ticket_of plan m
earlier_ticket plan l m line h =
    let inside = line_inside plan l line in
    let more = before_more picture_lines plan.pictures l.picture m.picture inside h in
    let few = lines_few (picture_at plan l.picture).rows l.row l.phase line in
    less_of_sums _ _ _ _ _ few more

-- so has a line of one picture that is drawn before another
pub earlier_turn : (plan : FlightRows) (l m : Line) → IsLine plan l → l.picture ≡ m.picture
    → ((turn_of l < turn_of m) ⊎ ((turn_of l ≡ turn_of m) × (delay l.phase < delay m.phase)))
    → ticket_of plan l < ticket_of plan m
earlier_turn plan l m line same h =
    let rows : ℕ = (picture_at plan l.picture).rows in
    let less = lines_less rows l.row m.row l.phase m.phase line h in
    let less_there : lines_before rows (turn_of l) (delay l.phase)
    < lines_before (picture_at plan m.picture).rows (turn_of m) (delay m.phase) =
    subst (λ k. lines_before rows (turn_of l) (delay l.phase)
    < lines_before (picture_at plan k).rows (turn_of m) (delay m.phase))
    same less in
    let sums : sum_by picture_lines (take l.picture plan.pictures)
    ≡ sum_by picture_lines (take m.picture plan.pictures) =
    ap (λ p. sum_by picture_lines (take p plan.pictures)) same in
    less_of_parts _ _ _ _ sums less_there

pub drawn_before : (plan : FlightRows) (l m : Line) → IsLine plan l → IsDrawnBefore l m
    → ticket_of plan l < ticket_of plan m
drawn_before plan l m line before =
    elim before [
      | inl h ↦ earlier_ticket plan l m line h
      | inr (same, h) ↦ earlier_turn plan l m line same h
    ]

less_in_all : (a b c d : ℕ) → b < c → a + c ≤ d → a + b < d
less_in_all a b c d p q = omega arith

-- a line's ticket is one of the flight's
pub ticket_inside : (plan : FlightRows) (l : Line) → IsLine plan l → ticket_of plan l < lines_of plan
ticket_inside plan l line =
    let inside = line_inside plan l line in
    let more = sum_by_more_le picture_lines plan.pictures l.picture no_picture inside in
    let few = lines_few (picture_at plan l.picture).rows l.row l.phase line in
    less_in_all _ _ _ _ few more

pub same_fields : (l m : Line) → l.phase ≡ m.phase → l.picture ≡ m.picture → l.row ≡ m.row → l ≡ m
same_fields l m phase picture row =
    let of_phase : Phase → Line = λ p. record { phase = p; picture = l.picture; row = l.row } in
    let of_picture : ℕ → Line = λ p. record { phase = m.phase; picture = p; row = l.row } in
    let of_row : ℕ → Line = λ r. record { phase = m.phase; picture = m.picture; row = r } in
    ap of_phase phase ∙ (ap of_picture picture ∙ ap of_row row)

-- of two lines one is drawn before the other, or they are one line
pub drawn_order : (l m : Line) → (l ≡ m) ⊎ (IsDrawnBefore l m ⊎ IsDrawnBefore m l)
drawn_order l m =
    elim (cases_order l.picture m.picture) [
      | inl picture ↦
          elim (cases_order (turn_of l) (turn_of m)) [
            | inl turn ↦
                elim (cases_order (delay l.phase) (delay m.phase)) [
                  | inl phase ↦
                      inl (same_fields l m (same_phase l.phase m.phase phase) picture (omega (arith, turn, phase)))
                  | inr (inl h) ↦ inr (inl (inr (picture, inr (turn, h))))
                  | inr (inr h) ↦ inr (inr (inr (sym picture, inr (sym turn, h))))
                ]
            | inr (inl h) ↦ inr (inl (inr (picture, inl h)))
            | inr (inr h) ↦ inr (inr (inr (sym picture, inl h)))
          ]
      | inr (inl h) ↦ inr (inl (inl h))
      | inr (inr h) ↦ inr (inr (inl h))
    ]

not_both : (a b : ℕ) → a ≡ b → a < b → ⊥
not_both a b e h = omega arith

not_back : (a b : ℕ) → a < b → b < a → ⊥
not_back a b p q = omega arith

-- lines of one ticket are one line
pub same_ticket : (plan : FlightRows) (l m : Line) → IsLine plan l → IsLine plan m → ticket_of plan l ≡ ticket_of plan m
    → l ≡ m
same_ticket plan l m line_l line_m e =
    elim (drawn_order l m) [
      | inl same ↦ same
      | inr (inl h) ↦ absurd (not_both _ _ e (drawn_before plan l m line_l h))
      | inr (inr h) ↦ absurd (not_both _ _ (sym e) (drawn_before plan m l line_m h))
    ]

-- a line with an earlier ticket is drawn before
pub ticket_order : (plan : FlightRows) (l m : Line) → IsLine plan l → IsLine plan m
    → ticket_of plan l < ticket_of plan m → IsDrawnBefore l m
ticket_order plan l m line_l line_m less =
    elim (drawn_order l m) [
      | inl same ↦ absurd (not_both _ _ (ap (ticket_of plan) same) less)
      | inr (inl h) ↦ h
      | inr (inr h) ↦ absurd (not_back _ _ less (drawn_before plan m l line_m h))
    ]

-- a place of a row stands before each place of a lower row
lower_row : (w r s x y : ℕ) → r < s → x < w → r * w + x < s * w + y
lower_row w r s x y h inside =
    let d : ℕ = s - (r + 1) in
    let e : s ≡ r + 1 + d = omega arith in
    let wide : (r + 1 + d) * w ≡ r * w + w + d * w = omega arith in
    let same : s * w ≡ (r + 1 + d) * w = ap (λ n. n * w) e in
    omega arith

-- a place of a row is one of the rectangle's
pub within_rows : (w rows r x : ℕ) → r < rows → x < w → r * w + x < rows * w
within_rows w rows r x h inside = let low = lower_row w r rows x 0 h inside in omega arith

-- the units of a phase end before those of a later one begin
phase_end : (p q : Phase) (picture : PictureRows) → delay p < delay q
    → phase_start p picture + picture.rows * phase_units p picture ≤ phase_start q picture
phase_end B B picture h = absurd (omega arith)
phase_end B V picture h = omega arith
phase_end B H picture h = omega arith
phase_end B S picture h = omega arith
phase_end V B picture h = absurd (omega arith)
phase_end V V picture h = absurd (omega arith)
phase_end V H picture h = omega arith
phase_end V S picture h = omega arith
phase_end H B picture h = absurd (omega arith)
phase_end H V picture h = absurd (omega arith)
phase_end H H picture h = absurd (omega arith)
phase_end H S picture h = omega arith
phase_end S B picture h = absurd (omega arith)
phase_end S V picture h = absurd (omega arith)
phase_end S H picture h = absurd (omega arith)
phase_end S S picture h = absurd (omega arith)

-- they are units of the picture
phase_inside : (p : Phase) (picture : PictureRows)
    → phase_start p picture + picture.rows * phase_units p picture ≤ picture_units picture
phase_inside B picture = omega arith
phase_inside V picture = omega arith
phase_inside H picture = omega arith
phase_inside S picture = omega arith

less_in_phase : (s n k r : ℕ) → k < n → s + n ≤ r → s + k < r
less_in_phase s n k r p q = omega arith

-- a line's unit is one of its picture
pub within_picture : (plan : FlightRows) (l : Line) (x : ℕ) → IsLine plan l → x < full_count plan l
    → phase_start l.phase (picture_at plan l.picture) + (l.row * full_count plan l + x)
    < picture_units (picture_at plan l.picture)
within_picture plan l x line inside =
    let low = within_rows (full_count plan l) (picture_at plan l.picture).rows l.row x line inside in
    less_in_phase _ _ _ _ low (phase_inside l.phase (picture_at plan l.picture))

-- the units of a line of an earlier picture have lower numbers
pub earlier_unit : (plan : FlightRows) (l m : Line) (x y : ℕ) → IsLine plan l → x < full_count plan l
    → l.picture < m.picture
    → unit_of plan l x < unit_of plan m y
earlier_unit plan l m x y line inside h =
    let more = before_more picture_units plan.pictures l.picture m.picture (line_inside plan l line) h in
    less_of_sums _ _ _ _ _ (within_picture plan l x line inside) more

less_with : (a b c e f : ℕ) → c < e → e ≤ f → a ≡ b → a + c < b + f
less_with a b c e f p q r = omega arith

-- so have those of an earlier phase of one picture
pub earlier_phase : (plan : FlightRows) (l m : Line) (x y : ℕ) → IsLine plan l → x < full_count plan l
    → l.picture ≡ m.picture
    → delay l.phase < delay m.phase → unit_of plan l x < unit_of plan m y
earlier_phase plan l m x y line inside same h =
    let picture : PictureRows = picture_at plan l.picture in
    let first : units_of (take l.picture plan.pictures) ≡ units_of (take m.picture plan.pictures) =
    ap (λ p. units_of (take p plan.pictures)) same in
    let low = within_rows (full_count plan l) picture.rows l.row x line inside in
    let less : phase_start l.phase picture + (l.row * full_count plan l + x) < phase_start m.phase picture =
    less_in_phase _ _ _ _ low (phase_end l.phase m.phase picture h) in
    let there : phase_start m.phase picture ≡ phase_start m.phase (picture_at plan m.picture) =
    ap (λ p. phase_start m.phase (picture_at plan p)) same in
    less_with _ _ _ _ _ less (omega (arith, there)) first

less_rows : (a b s t c d : ℕ) → a ≡ b → s ≡ t → c < d → a + (s + c) < b + (t + d)
less_rows a b s t c d p q r = omega arith

-- and those of an earlier row of one phase
pub earlier_row : (plan : FlightRows) (l m : Line) (x y : ℕ) → x < full_count plan l → l.picture ≡ m.picture
    → l.phase ≡ m.phase → l.row < m.row
    → unit_of plan l x < unit_of plan m y
earlier_row plan l m x y inside same phase h =
    let first : units_of (take l.picture plan.pictures) ≡ units_of (take m.picture plan.pictures) =
    ap (λ p. units_of (take p plan.pictures)) same in
    let start : phase_start l.phase (picture_at plan l.picture) ≡ phase_start m.phase (picture_at plan m.picture) =
    ap (λ p. phase_start p (picture_at plan l.picture)) phase
    ∙ ap (λ p. phase_start m.phase (picture_at plan p)) same in
    let size : full_count plan l ≡ full_count plan m =
    ap (λ p. phase_units p (picture_at plan l.picture)) phase
    ∙ ap (λ p. phase_units m.phase (picture_at plan p)) same in
    let low : l.row * full_count plan l + x < m.row * full_count plan l + y =
    lower_row (full_count plan l) l.row m.row x y h inside in
    let less : l.row * full_count plan l + x < m.row * full_count plan m + y =
    subst (λ w. l.row * full_count plan l + x < m.row * w + y) size low in
    less_rows _ _ _ _ _ _ first start less

-- a line's units are units of the flight
pub unit_inside : (plan : FlightRows) (l : Line) (x : ℕ) → IsLine plan l → x < full_count plan l
    → unit_of plan l x < units_of plan.pictures
unit_inside plan l x line inside =
    let more = sum_by_more_le picture_units plan.pictures l.picture no_picture (line_inside plan l line) in
    less_in_all _ _ _ _ (within_picture plan l x line inside) more
