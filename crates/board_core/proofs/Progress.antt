-- Why the first line that is left can go on.
use Rattle.std.proofs.Common.{Bool, true, false, nat_eq, if◌then◌else◌, ℕ, ◌≡◌, ◌+◌, ◌-◌, ◌<◌, ◌≤◌, ◌⊎◌, List, []}
use Rattle.std.proofs.Common.{◌∷◌}
use Rattle.std.proofs.Common.{Option, Some, None, inl, inr, length, get_or, min, arith, refl, sym, ap, subst, All}
use Rattle.std.proofs.Common.{slice_index_or}
use Rattle.std.proofs.lemmas.Bool.{cases_lt, eqb-false}
use Rattle.std.proofs.lemmas.List.{get_or_past}
use Rattle.std.proofs.lemmas.List.Elements.{All-nil}
use Rattle.flight_plan.specs.Flight.{FlightRows, IsFlight, IsEarlier, IsNoneOrEarlier, picture_at}
use Rattle.hv_base.specs.declared.line.Line.{Line}
use Rattle.hv_base.specs.declared.line.Phase.{Phase}
use Rattle.hv_base.specs.declared.line.Phase.TheVariants.{B, V, H, S}
use Rattle.flight_plan.specs.declared.row_range.Reference.{Reference}
use Rattle.flight_plan.specs.declared.row_range.Reference.TheVariants.{Base, Flight}
use Rattle.flight_plan.specs.declared.row_range.RowRange.{RowRange}
use Rattle.board_core.specs.declared.event.Event.TheVariants.{Fault}
use Rattle.board_core.specs.Places.{delay, full_count, IsLine, line_of, lines_of, ticket_of, turn_of, unit_of}
use Rattle.board_core.specs.Places.{width_of}
use Rattle.board_core.specs.Needs.{build_needs, collocated_of, phase_needs, range_needs, reach_needs, read_needs}
use Rattle.board_core.specs.Needs.{reference_needs, row_needs, rows_needs, unit_in_picture}
use Rattle.board_core.specs.States.{CoreState, AreCounted, IsBad, IsBefore, IsBuildable, IsFilterable, IsNext}
use Rattle.board_core.specs.States.{IsReadable, IsReady, count_of, is_parsed}
use Rattle.board_core.specs.Runs.{IsEnded, IsUnfinished}
use Rattle.board_core.specs.Progress.{AreDone, IsLeft}
use Rattle.board_core.proofs.Counting.{both_all, build_above, build_all, one_all, pieces_all, rows_all}
use Rattle.board_core.proofs.Order.{earlier_phase, earlier_row, earlier_ticket, earlier_turn, earlier_unit}
use Rattle.board_core.proofs.Order.{line_inside}
use Rattle.board_core.proofs.Order.{same_ticket, ticket_inside}
use Rattle.board_core.proofs.Steps.{one_unit}

-- what is before a unit that is before the least fault is before it too
pub before_less : (u v : ℕ) (least : Option ℕ) → u ≤ v → IsBefore v least → IsBefore u least
before_less u v None h before = tt
before_less u v (Some fault) h before = omega (arith, h, before)

-- a flight that has ended has no line left
pub left_not_ended : (plan : FlightRows) (s : CoreState) (l : Line) → IsLine plan l → IsLeft plan s l → ¬ IsEnded plan s
left_not_ended plan s l line left =
    λ ended. let lt = ended l (count_of plan s l) line left.left left.before in absurd (omega (arith, lt))

-- a unit that is uncounted and before the least fault is of a line that is left
pub left_of : (plan : FlightRows) (s : CoreState) (l : Line) (x : ℕ) → count_of plan s l ≤ x → x < full_count plan l
    → IsBefore (unit_of plan l x) s.least → IsLeft plan s l
left_of plan s l x low inside before =
    record {
      left = omega arith;
      before = before_less (unit_of plan l (count_of plan s l)) (unit_of plan l x) s.least (omega (arith, low)) before;
    }

-- a flight with no line left has ended
pub ended_done : (plan : FlightRows) (s : CoreState) → AreDone plan s (lines_of plan) → IsEnded plan s
ended_done plan s all_done l x line inside before =
    elim (cases_lt x (count_of plan s l)) [
      | inl h ↦ h
      | inr h ↦ absurd (all_done l line (ticket_inside plan l line) (left_of plan s l x h inside before))
    ]

-- an unfinished line is left
pub unfinished_left : (plan : FlightRows) (s : CoreState) (l m : Line) → AreDone plan s (ticket_of plan l)
    → s.drawn ≤ ticket_of plan l → ¬ IsUnfinished plan s m
unfinished_left plan s l m earlier low = λ u.
    earlier m u.line (omega (arith, u.drawn, low)) (left_of plan s m u.unit.0 u.unit.1 u.unit.2 u.unit.3)

turn_cases : {A : Type 0} (t u : ℕ) → t ≤ u → A → (t < u) ⊎ ((t ≡ u) × A)
turn_cases t u h a =
    elim (cases_lt t u) [
      | inl lt ↦ inl lt
      | inr le ↦ let same : t ≡ u = omega arith in inr (same, a)
    ]

-- a line whose ticket is earlier than another's, as are the numbers of its units
record Precedes (plan : FlightRows) (m l : Line) : Type 0 where
  line : IsLine plan m
  ticket : ticket_of plan m < ticket_of plan l
  units : (x y : ℕ) → x < full_count plan m → unit_of plan m x < unit_of plan l y

-- all lines that precede a line are full
ArePrecedingFull : FlightRows → CoreState → Line → Type 0
ArePrecedingFull plan s l = (m : Line) → Precedes plan m l → full_count plan m ≤ count_of plan s m

-- so it is of the first line that is left
earlier_full : (plan : FlightRows) (s : CoreState) (l : Line) → IsLeft plan s l → AreDone plan s (ticket_of plan l)
    → ArePrecedingFull plan s l
unfolding ArePrecedingFull
earlier_full plan s l left earlier m precedes =
    elim (cases_lt (count_of plan s m) (full_count plan m)) [
      | inl lt ↦ let first = precedes.units (count_of plan s m) (count_of plan s l) lt in
          absurd (earlier m precedes.line precedes.ticket
          (record {
            left = lt;
            before =
                before_less (unit_of plan m (count_of plan s m)) (unit_of plan l (count_of plan s l)) s.least
                (omega (arith, first)) left.before;
          }))
      | inr le ↦ le
    ]

-- a line of an earlier picture precedes
picture_precedes : (plan : FlightRows) (m l : Line) → IsLine plan m → m.picture < l.picture → Precedes plan m l
picture_precedes plan m l line h =
    record {
      line = line;
      ticket = earlier_ticket plan m l line h;
      units = λ x y inside. earlier_unit plan m l x y line inside h;
    }

-- so does one of an earlier phase of no later turn
phase_precedes : (plan : FlightRows) (m l : Line) → IsLine plan m → m.picture ≡ l.picture → turn_of m ≤ turn_of l
    → delay m.phase < delay l.phase
    → Precedes plan m l
phase_precedes plan m l line same turn h =
    record {
      line = line;
      ticket = earlier_turn plan m l line same (turn_cases (turn_of m) (turn_of l) turn h);
      units = λ x y inside. earlier_phase plan m l x y line inside same h;
    }

-- and one of an earlier row of the phase
row_precedes : (plan : FlightRows) (m l : Line) → IsLine plan m → m.picture ≡ l.picture → m.phase ≡ l.phase
    → m.row < l.row → Precedes plan m l
row_precedes plan m l line same phase h =
    let turn : turn_of m < turn_of l = omega (arith, ap delay phase, h) in
    record {
      line = line;
      ticket = earlier_turn plan m l line same (inl turn);
      units = λ x y inside. earlier_row plan m l x y inside same phase h;
    }

-- all of a list that a test picks
if_all : {X : Type 0} (P : X → Type 0) (b : Bool) (xs ys : List X) → (b ≡ true → All P xs) → (b ≡ false → All P ys)
    → All P (if b then xs else ys)
if_all P true xs ys on_true on_false = on_true refl
if_all P false xs ys on_true on_false = on_false refl

-- what is needed of the row above is at most its width
above_most : (b : Bool) (x w : ℕ) → (if b then min (x + 2) w else w) ≤ w
above_most true x w = omega arith
above_most false x w = omega arith

above_counted : (plan : FlightRows) (s : CoreState) (l : Line) (x : ℕ) → IsLine plan l → l.phase ≡ B
    → ArePrecedingFull plan s l
    → AreCounted plan s (read_needs plan l x)
unfolding ArePrecedingFull
above_counted plan s l x line tree full =
    let P : Line × ℕ → Type 0 = λ need. need.1 ≤ count_of plan s need.0 in
    let w : ℕ = width_of plan l in
    let count : ℕ = if (picture_at plan l.picture).sync then min (x + 2) w else w in
    let up : Line = line_of B l.picture (l.row - 1) in
    if_all P (nat_eq l.row 0) [] ((up, count) ∷ []) (λ _. All-nil P)
    (λ not_top.
    let low : l.row ≡ 0 → ⊥ = eqb-false l.row 0 not_top in
    let some : 0 < l.row = elim (cases_lt 0 l.row) [ inl h ↦ h | inr h ↦ absurd (low (omega arith)) ] in
    let inside : l.row < (picture_at plan l.picture).rows = line in
    let line_up : IsLine plan up = omega arith in
    let all : w ≤ count_of plan s up = full up (row_precedes plan up l line_up refl (sym tree) (omega arith)) in
    one_all plan s (up, count) (omega (arith, above_most (picture_at plan l.picture).sync x w, all)))

-- the rows of a phase of an earlier picture are counted
rows_counted : (plan : FlightRows) (s : CoreState) (l : Line) (phase : Phase) (k first last : ℕ) → k < l.picture
    → ArePrecedingFull plan s l
    → AreCounted plan s (rows_needs plan phase k first last)
unfolding ArePrecedingFull
rows_counted plan s l phase k first last h full =
    rows_all plan s phase k first last (λ row low high.
    let m : Line = line_of phase k row in
    let line : IsLine plan m = omega arith in
    full m (picture_precedes plan m l line h))

row_counted : (plan : FlightRows) (s : CoreState) (l : Line) (o : Option Reference) (row : ℕ)
    → IsNoneOrEarlier l.picture o
    → ArePrecedingFull plan s l → AreCounted plan s (row_needs plan o row)
row_counted plan s l None row h full = All-nil (λ (need : Line × ℕ). need.1 ≤ count_of plan s need.0)
row_counted plan s l (Some (Base _)) row h full = All-nil (λ (need : Line × ℕ). need.1 ≤ count_of plan s need.0)
row_counted plan s l (Some (Flight k)) row h full = rows_counted plan s l B k row row h full

range_counted : (plan : FlightRows) (s : CoreState) (l : Line) (r : Reference) (first last : ℕ) → IsEarlier l.picture r
    → ArePrecedingFull plan s l → AreCounted plan s (reference_needs plan r first last)
range_counted plan s l (Base _) first last h full = All-nil (λ (need : Line × ℕ). need.1 ≤ count_of plan s need.0)
range_counted plan s l (Flight k) first last h full = rows_counted plan s l S k first last h full

reach_counted : (plan : FlightRows) (s : CoreState) (l : Line) (x : ℕ) → IsFlight plan → IsLine plan l
    → ArePrecedingFull plan s l → AreCounted plan s (reach_needs plan l x)
reach_counted plan s l x flight line full =
    let P : Line × ℕ → Type 0 = λ need. need.1 ≤ count_of plan s need.0 in
    let reach : List (List RowRange) = (picture_at plan l.picture).reach in
    let at : ℕ = unit_in_picture plan l x in
    let earlier = (flight.earlier l.picture (line_inside plan l line)).reach in
    pieces_all P (range_needs plan) (slice_index_or reach at [])
    (λ k d inside.
    elim (cases_lt at (length reach)) [
      | inl h ↦ let range : RowRange = get_or (slice_index_or reach at []) k d in
          range_counted plan s l range.picture range.first range.last (earlier at [] h k d inside) full
      | inr h ↦ let none : slice_index_or reach at [] ≡ [] = get_or_past reach at [] h in
          let few : length (slice_index_or reach at []) ≡ 0 = ap length none in
          absurd (omega (arith, few, inside))
    ])

-- the collocated picture of a unit's slice is none, a base or an earlier picture
collocated_earlier : (plan : FlightRows) (l : Line) (x : ℕ) → IsFlight plan → IsLine plan l
    → IsNoneOrEarlier l.picture (collocated_of plan l x)
collocated_earlier plan l x flight line =
    let references : List (Option Reference) = (picture_at plan l.picture).collocated in
    let at : ℕ = unit_in_picture plan l x in
    let earlier = (flight.earlier l.picture (line_inside plan l line)).collocated in
    elim (cases_lt at (length references)) [
      | inl h ↦ earlier at None h
      | inr h ↦ subst (IsNoneOrEarlier l.picture) (sym (get_or_past references at None h)) tt
    ]

-- what building a unit of the first line that is left needs is counted
pub build_counted : (plan : FlightRows) (s : CoreState) (l : Line) (x : ℕ) → IsFlight plan → IsLine plan l → l.phase ≡ B
    → IsLeft plan s l
    → AreDone plan s (ticket_of plan l) → AreCounted plan s (build_needs plan l x)
build_counted plan s l x flight line tree left earlier =
    let full = earlier_full plan s l left earlier in
    build_all plan s l x (above_counted plan s l x line tree full)
    (row_counted plan s l (collocated_of plan l x) l.row (collocated_earlier plan l x flight line) full)
    (reach_counted plan s l x flight line full)

-- the rows of an earlier phase that come no later are counted
phase_counted : (plan : FlightRows) (s : CoreState) (l : Line) (phase : Phase) (first last : ℕ)
    → delay phase < delay l.phase
    → last + delay phase ≤ l.row + delay l.phase → ArePrecedingFull plan s l
    → AreCounted plan s (rows_needs plan phase l.picture first last)
unfolding ArePrecedingFull
phase_counted plan s l phase first last h late full =
    rows_all plan s phase l.picture first last (λ row low high.
    let m : Line = line_of phase l.picture row in
    let line : IsLine plan m = omega arith in
    full m (phase_precedes plan m l line refl (omega arith) h))

-- what filtering a line needs is counted where all lines that precede it are full
filter_counted_of : (plan : FlightRows) (s : CoreState) (phase : Phase) (picture row : ℕ)
    → ArePrecedingFull plan s (line_of phase picture row)
    → AreCounted plan s (phase_needs plan phase picture row)
filter_counted_of plan s B picture row full = All-nil (λ (need : Line × ℕ). need.1 ≤ count_of plan s need.0)
filter_counted_of plan s V picture row full =
    phase_counted plan s (line_of V picture row) B row row (omega arith) (omega arith) full
filter_counted_of plan s H picture row full =
    both_all plan s (rows_needs plan V picture (row - 1) (row + 1)) (rows_needs plan B picture (row - 1) (row + 1))
    (phase_counted plan s (line_of H picture row) V (row - 1) (row + 1) (omega arith) (omega arith) full)
    (phase_counted plan s (line_of H picture row) B (row - 1) (row + 1) (omega arith) (omega arith) full)
filter_counted_of plan s S picture row full =
    both_all plan s (rows_needs plan H picture (row - 1) (row + 1)) (rows_needs plan B picture row row)
    (phase_counted plan s (line_of S picture row) H (row - 1) (row + 1) (omega arith) (omega arith) full)
    (phase_counted plan s (line_of S picture row) B row row (omega arith) (omega arith) full)

-- the first line that is left may be filtered, where it is drawn and of another phase than B
pub left_filterable : (plan : FlightRows) (s : CoreState) (l : Line) → IsLine plan l → ¬ (l.phase ≡ B)
    → ticket_of plan l < s.drawn → IsLeft plan s l
    → AreDone plan s (ticket_of plan l) → IsFilterable plan s l
left_filterable plan s l line filter drawn left earlier =
    record {
      line = line;
      phase = filter;
      drawn = drawn;
      uncounted = omega (arith, left.left, one_unit plan l filter);
      needs = filter_counted_of plan s l.phase l.picture l.row (earlier_full plan s l left earlier);
    }

-- its unit is before the least fault
pub filter_before : (plan : FlightRows) (s : CoreState) (l : Line) → ¬ (l.phase ≡ B) → IsLeft plan s l
    → IsBefore (unit_of plan l 0) s.least
filter_before plan s l filter left =
    let none : count_of plan s l ≡ 0 = omega (arith, left.left, one_unit plan l filter) in
    subst (λ n. IsBefore (unit_of plan l n) s.least) none left.before

-- the next coding tree unit of the first line that is left, where the line is drawn
pub left_next : (plan : FlightRows) (s : CoreState) (l : Line) (x : ℕ) → x ≡ count_of plan s l → IsLine plan l
    → l.phase ≡ B → ticket_of plan l < s.drawn
    → IsLeft plan s l → IsNext plan s l x
left_next plan s l x at line tree drawn left =
    record { line = line; phase = tree; drawn = drawn; next = at; left = omega (arith, at, left.left) }

-- it may be built where it is parsed
pub left_buildable : (plan : FlightRows) (s : CoreState) (l : Line) (x : ℕ) → x ≡ count_of plan s l → IsFlight plan
    → IsLine plan l → l.phase ≡ B
    → ticket_of plan l < s.drawn → IsLeft plan s l → AreDone plan s (ticket_of plan l) → is_parsed plan s l ≡ true
    → IsBuildable plan s l x
left_buildable plan s l x at flight line tree drawn left earlier parsed =
    record {
      next = left_next plan s l x at line tree drawn left;
      parsed = parsed;
      needs = build_counted plan s l x flight line tree left earlier;
    }

-- it may be read where it is not
pub left_readable : (plan : FlightRows) (s : CoreState) (l : Line) (x : ℕ) → x ≡ count_of plan s l → IsFlight plan
    → IsLine plan l → l.phase ≡ B
    → ticket_of plan l < s.drawn → IsLeft plan s l → AreDone plan s (ticket_of plan l) → is_parsed plan s l ≡ false
    → IsReadable plan s l x
left_readable plan s l x at flight line tree drawn left earlier parsed =
    record {
      next = left_next plan s l x at line tree drawn left;
      parsed = parsed;
      needs = build_above plan s l x (build_counted plan s l x flight line tree left earlier);
    }

-- a bad unit that may be read may be found
pub left_found : (plan : FlightRows) (s : CoreState) (l : Line) (x u : ℕ) → u ≡ unit_of plan l x → IsBad plan u
    → IsReadable plan s l x → IsReady plan s (Fault u)
left_found plan s l x u at bad readable =
    (bad, (l, x, record { line = readable.next.line; inside = readable.next.left; unit = at }, readable))

-- its unit is before the least fault
pub left_before : (plan : FlightRows) (s : CoreState) (l : Line) (x : ℕ) → x ≡ count_of plan s l → IsLeft plan s l
    → IsBefore (unit_of plan l x) s.least
left_before plan s l x at left = subst (λ n. IsBefore (unit_of plan l n) s.least) (sym at) left.before

-- a line that is not left is one more that is done
pub done_next : (plan : FlightRows) (s : CoreState) (l : Line) (n : ℕ) → IsLine plan l → ticket_of plan l ≡ n
    → ¬ IsLeft plan s l → AreDone plan s n → AreDone plan s (n + 1)
done_next plan s l n line at not_left before m line_m h =
    elim (cases_lt (ticket_of plan m) n) [
      | inl lower ↦ before m line_m lower
      | inr upper ↦ let same = same_ticket plan m l line_m line (omega (arith, at)) in
          λ left. not_left (subst (IsLeft plan s) same left)
    ]
