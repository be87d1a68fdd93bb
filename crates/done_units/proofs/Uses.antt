-- What a unit of a line uses is counted where its needs are, by the counts that a board has for its lines.
use Rattle.std.proofs.Common.{Bool, true, false, ℕ, ◌≡◌, ◌<◌, ◌≤◌, List, None, map, replicate, inl, inr, arith}
use Rattle.std.proofs.Common.{All, refl, sym, ap, ◌∙◌, subst}
use Rattle.std.proofs.lemmas.Bool.{cases_lt}
use Rattle.std.proofs.lemmas.List.{get_or-replicate}
use Rattle.std.proofs.lemmas.List.FromFn.{get_or-map-range_with_len}
use Rattle.std.specs.List.{range_with_len}
use Rattle.flight_plan.specs.Flight.{FlightRows, picture_at}
use Rattle.hv_base.specs.declared.line.Line.{Line}
use Rattle.hv_base.specs.declared.line.Phase.{Phase}
use Rattle.hv_base.specs.declared.line.Phase.TheVariants.{B, V, H, S}
use Rattle.board_core.specs.declared.event.Event.TheVariants.{Build, Fault, Filter, Read}
use Rattle.board_core.specs.Needs.{counting_needs, filter_needs, read_needs, unit_needs}
use Rattle.board_core.specs.Places.{delay, full_count, IsLine, IsPlaceOf, lines_of, phase_units, ticket_of, unit_of}
use Rattle.board_core.specs.States.{AreCounted, CoreState, IsBad, IsBuildable, IsFilterable, IsNext, IsReadable}
use Rattle.board_core.specs.States.{count_of, is_parsed}
use Rattle.board_core.specs.Uses.{FilteringUses, IsCounted, MakingUses, ReadingUses, UnitUses}
use Rattle.board_core.proofs.Order.{ticket_inside}
use Rattle.board_core.proofs.Using.{ready_uses}
use Rattle.sample_words.specs.declared.sizes.FlightSizes.{FlightSizes}
use Rattle.sample_words.specs.Words.{line_number, lines}
use Rattle.flight_lines.specs.Flights.{IsSized}
use Rattle.flight_lines.specs.Numbers.{drawn_at, numbered_needs}
use Rattle.flight_lines.proofs.Needed.{AreOfLines, above_lines, counted_met, unit_lines}
use Rattle.flight_lines.proofs.Numbered.{number_less, number_line}
use Rattle.flight_lines.proofs.Ticketed.{line_by_ticket}

-- what is counted if it would otherwise not be is counted
counted_or : (plan : FlightRows) (s : CoreState) (m : Line) (y : ℕ)
    → ((IsCounted plan s m y → ⊥) → IsCounted plan s m y) → IsCounted plan s m y
counted_or plan s m y rest =
    elim (cases_lt m.row (picture_at plan m.picture).rows) [
      | inl line ↦
          elim (cases_lt y (count_of plan s m)) [
            | inl less ↦ record { line = line; counted = less }
            | inr more ↦ rest (λ is. let c = is.counted in omega (arith, c, more))
          ]
      | inr past ↦ rest (λ is. let r = is.line in omega (arith, r, past))
    ]

-- the counts of the lines of a flight by their numbers
module _ (plan : FlightRows) (s : FlightSizes) (sized : IsSized plan s) (seen : ℕ → ℕ) where
  -- a state with these counts, in which all lines are drawn
  abbrev state : Bool → CoreState
  state parsed = record {
    counts = map (λ t. seen (drawn_at plan s t)) (range_with_len 0 (lines_of plan));
    parsed = replicate (lines_of plan) parsed;
    drawn = lines_of plan;
    least = None;
  }

  counts_are : (parsed : Bool) (l : Line) → IsLine plan l → count_of plan (state parsed) l ≡ seen (line_number s l)
  counts_are parsed l line =
      let t : ℕ = ticket_of plan l in
      let again = number_line plan s sized l line in
      let drawn : drawn_at plan s t ≡ line_number s l =
      ap (λ (m : Line). drawn_at plan s (ticket_of plan m)) (sym again)
      ∙ line_by_ticket plan s sized (line_number s l) (number_less plan s sized l line) in
      get_or-map-range_with_len (λ n. seen (drawn_at plan s n)) 0 (lines_of plan) t t 0 (ticket_inside plan l line)
      (omega arith)
      ∙ ap seen drawn

  parsed_is : (parsed : Bool) (l : Line) → IsLine plan l → is_parsed plan (state parsed) l ≡ parsed
  parsed_is parsed l line =
      get_or-replicate (lines_of plan) (ticket_of plan l) parsed false (ticket_inside plan l line)

  -- a unit of a flight that is seen counted
  pub record IsSeen (m : Line) (y : ℕ) : Type 0 where
    pub line : IsLine plan m
    pub counted : y < seen (line_number s m)

  seen_if : (parsed : Bool) (m : Line) (y : ℕ) → IsCounted plan (state parsed) m y → IsSeen m y
  seen_if parsed m y is =
      let e = counts_are parsed m is.line in
      let counted = is.counted in
      record { line = is.line; counted = omega (arith, e, counted) }

  -- a unit that comes next in its line
  module _ (l : Line) (x : ℕ) (line : IsLine plan l) (here : seen (line_number s l) ≡ x) (left : x < full_count plan l)
    where
      counted_now : (parsed : Bool) → count_of plan (state parsed) l ≡ x
      counted_now parsed = counts_are parsed l line ∙ here

      next_in : (parsed : Bool) → l.phase ≡ B → IsNext plan (state parsed) l x
      next_in parsed tree = record {
        line = line;
        phase = tree;
        drawn = ticket_inside plan l line;
        next = sym (counted_now parsed);
        left = left;
      }

      place : IsPlaceOf plan (unit_of plan l x) l x
      place = record { line = line; inside = left; unit = refl }

      -- what reading it uses
      reading : l.phase ≡ B → AreCounted plan (state false) (read_needs plan l x) → (m : Line) (y : ℕ)
          → ReadingUses plan l x m y → IsCounted plan (state false) m y
      reading tree needs m y uses =
          let readable : IsReadable plan (state false) l x =
          record { next = next_in false tree; parsed = parsed_is false l line; needs = needs } in
          counted_or plan (state false) m y (λ none.
          let good : IsBad plan (unit_of plan l x) → ⊥ =
          λ bad. none (ready_uses plan (state false) (Fault (unit_of plan l x)) m y (bad, (l, x, place, readable))
          (l, x, place, tree, uses)) in
          ready_uses plan (state false) (Read l x) m y (readable, good) uses)

      -- what filtering a line of another phase uses
      filtering : (phase : Phase) → l.phase ≡ phase → 0 < delay phase → full_count plan l ≡ 1
          → AreCounted plan (state true) (filter_needs plan l) → (m : Line) (y : ℕ) → FilteringUses phase plan l m y
          → IsCounted plan (state true) m y
      filtering phase is late one needs m y uses =
          let now = counted_now true in
          let filterable : IsFilterable plan (state true) l =
          record {
            line = line;
            phase = λ tree. let d : delay phase ≡ delay B = ap delay (sym is ∙ tree) in omega (arith, d, late);
            drawn = ticket_inside plan l line;
            uncounted = omega (arith, now, left, one);
            needs = needs;
          } in
          ready_uses plan (state true) (Filter l) m y filterable
          (subst (λ (p : Phase). FilteringUses p plan l m y) (sym is) uses)

      -- what making it uses
      making : (phase : Phase) → l.phase ≡ phase → AreCounted plan (state true) (counting_needs phase plan l x)
          → (m : Line) (y : ℕ) → MakingUses phase plan l x m y → IsCounted plan (state true) m y
      making B is needs m y uses =
          let buildable : IsBuildable plan (state true) l x =
          record { next = next_in true is; parsed = parsed_is true l line; needs = needs } in
          ready_uses plan (state true) (Build l x) m y buildable uses
      making V is needs m y uses =
          filtering V is (omega arith) (ap (λ (p : Phase). phase_units p (picture_at plan l.picture)) is) needs m y uses
      making H is needs m y uses =
          filtering H is (omega arith) (ap (λ (p : Phase). phase_units p (picture_at plan l.picture)) is) needs m y uses
      making S is needs m y uses =
          filtering S is (omega arith) (ap (λ (p : Phase). phase_units p (picture_at plan l.picture)) is) needs m y uses

  -- needs that are met by number
  abbrev pub AreMetBy : List (Line × ℕ) → Type 0
  AreMetBy needs = All (λ need. (need.0 < lines s) × (need.1 ≤ seen need.0)) (numbered_needs s needs)

  needs_counted : (parsed : Bool) (needs : List (Line × ℕ)) → AreOfLines plan needs → AreMetBy needs
      → AreCounted plan (state parsed) needs
  needs_counted parsed needs of_lines met =
      counted_met plan s sized (state parsed) seen (counts_are parsed) needs of_lines met

  pub read_seen : (l : Line) (x : ℕ) → IsLine plan l → seen (line_number s l) ≡ x → x < full_count plan l → l.phase ≡ B
      → AreMetBy (read_needs plan l x) → (m : Line) (y : ℕ) → ReadingUses plan l x m y → IsSeen m y
  read_seen l x line here left tree met m y uses =
      let needs = needs_counted false (read_needs plan l x) (above_lines plan l x line) met in
      seen_if false m y (reading l x line here left tree needs m y uses)

  pub unit_seen : (l : Line) (x : ℕ) → IsLine plan l → seen (line_number s l) ≡ x → x < full_count plan l
      → AreMetBy (unit_needs plan l x) → (m : Line) (y : ℕ) → UnitUses plan l x m y → IsSeen m y
  unit_seen l x line here left met m y uses =
      let needs = needs_counted true (unit_needs plan l x) (unit_lines plan l x line) met in
      seen_if true m y (making l x line here left l.phase refl needs m y uses)
