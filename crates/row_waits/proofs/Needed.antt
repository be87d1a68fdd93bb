-- Where the rows that a unit reaches are seen its needs are met, and the final rows that it uses are seen.
use Rattle.std.proofs.Common.{◌≡◌, ℕ, ◌+◌, ◌-◌, ◌<◌, ◌≤◌, List, All, min, true, map}
use Rattle.std.proofs.Common.{refl, sym, ap, subst, ◌∙◌, arith}
use Rattle.std.specs.List.{flat_map, range_with_len}
use Rattle.std.proofs.lemmas.List.Elements.{All-contains, All-from_get_or, All-map, All-nil, All-weaker}
use Rattle.std.proofs.lemmas.List.FromFn.{get_or-range_with_len, length-range_with_len}
use Rattle.hv_base.specs.declared.line.Line.{Line}
use Rattle.hv_base.specs.declared.line.Phase.TheVariants.{B, S}
use Rattle.ctu_records.specs.declared.item.Item.{Item}
use Rattle.flight_plan.specs.Flight.{FlightRows, picture_at}
use Rattle.flight_plan.specs.declared.row_range.Reference.{Reference}
use Rattle.flight_plan.specs.declared.row_range.Reference.TheVariants.{Base, Flight}
use Rattle.flight_plan.specs.declared.row_range.RowRange.{RowRange}
use Rattle.board_core.specs.Needs.{collocated_of, range_needs, read_needs, reference_needs, row_needs, rows_needs}
use Rattle.board_core.specs.Needs.{unit_needs}
use Rattle.board_core.specs.Places.{IsLine, full_count, line_of}
use Rattle.board_core.specs.Reach.{told_reach}
use Rattle.board_core.specs.Uses.{BuildingUses, Collocated, Reached, Reading, ReadingUses, UnitUses}
use Rattle.board_core.specs.Uses.{Above, Carried, Former, MakingUses}
use Rattle.board_core.proofs.Counting.{pieces_all}
use Rattle.sample_words.specs.declared.sizes.FlightSizes.{FlightSizes}
use Rattle.sample_words.specs.Words.{IsLine as IsWordLine, line_number, lines}
use Rattle.progress_words.specs.declared.view.View.{View}
use Rattle.progress_words.specs.Core.{AreMet}
use Rattle.progress_words.specs.Meanings.{Meaning}
use Rattle.progress_words.specs.Views.{seen_of}
use Rattle.flight_lines.specs.Flights.{IsSized, meaning_of}
use Rattle.flight_lines.specs.Numbers.{numbered, numbered_needs}
use Rattle.flight_lines.proofs.Numbered.{number_less, word_line}
use Rattle.line_words.proofs.Apart.{apart_phases}
use Rattle.unit_reach.specs.SpecFlights.{flight_rows}
use Rattle.unit_reach.specs.declared.reach.ReachSource.{ReachSource}
use Rattle.flight_waits.specs.FactsOfFlights.{FlightFacts}
use Rattle.flight_waits.specs.FactsOfFlights.{flight_meaning}
use Rattle.flight_waits.specs.FactsOfFlights.{flight_in}
use Rattle.flight_waits.specs.FactsOfFlights.{IsOfFlight}
use Rattle.flight_waits.specs.Waits.{AreSeen}
use Rattle.flight_waits.proofs.Needed.{unit_met}
use Rattle.flight_waits.proofs.Waited.{sized}
use Rattle.flight_windows.specs.Seen.{SeenFlags, is_seen}
use Rattle.row_waits.specs.Seen.{AreRowsOf, HasSeenFlags, HasRange, HasReach, HasRow, reach_in}

module _ (facts : FlightFacts) (s : FlightSizes) (of_flight : IsOfFlight facts s) where
  abbrev plan : FlightRows
  plan = flight_rows (flight_in facts)

  abbrev m : Meaning
  m = flight_meaning (flight_in facts)

  sizes : IsSized (flight_rows (flight_in facts)) s
  sizes = sized facts s of_flight

  lines_are : (flight_meaning (flight_in facts)).lines ≡ lines s
  unfolding meaning_of
  lines_are = ap lines (sym of_flight.sizes)

  module _ {F : Type 0} (v : View F) (seen : SeenFlags) (are : HasSeenFlags s v seen) where
    abbrev IsMet : Line × ℕ → Type 0
    IsMet need =
        (line_number s need.0 < (flight_meaning (flight_in facts)).lines) × (need.1 ≤ seen_of v (line_number s need.0))

    abbrev of_row : ℕ → ℕ → Line × ℕ
    of_row j r = (line_of S j r, full_count (flight_rows (flight_in facts)) (line_of S j r))

    row_is : (j r : ℕ) → HasRow s seen j r → r < (picture_at (flight_rows (flight_in facts)) j).rows
        → IsMet (of_row j r)
    row_is j r has inside =
        let line : IsWordLine s (line_of S j r) = word_line plan s sizes (line_of S j r) inside in
        let less = number_less plan s sizes (line_of S j r) inside in
        let e = lines_are in
        (omega (arith, less, e), (are.counted j r (has line)).1)

    rows_met : (j first last : ℕ) → ((r : ℕ) → first ≤ r → r ≤ last → HasRow s seen j r)
        → AreMet (flight_meaning (flight_in facts)) (seen_of v) (numbered_needs s (rows_needs plan S j first last))
    rows_met j first last each =
        let n : ℕ = min (last + 1) (picture_at plan j).rows - first in
        let P : ℕ × ℕ → Type 0 = λ need. (need.0 < m.lines) × (need.1 ≤ seen_of v need.0) in
        All-map P (numbered s) (map (of_row j) (range_with_len first n))
        (All-map IsMet (of_row j) (range_with_len first n)
        (All-from_get_or (λ r. IsMet (of_row j r)) (range_with_len first n) 0
        (λ i inside.
        let lt : i < n = omega (arith, inside, length-range_with_len first n) in
        let e = get_or-range_with_len first n i 0 lt in
        let here : first + i < (picture_at plan j).rows = omega (arith, lt) in
        let low : first + i ≤ last = omega (arith, lt) in
        subst (λ r. IsMet (of_row j r)) (sym e) (row_is j (first + i) (each (first + i) (omega arith) low) here))))

    reference_met : (r : Reference) (first last : ℕ) → AreRowsOf s seen r first last
        → AreMet (flight_meaning (flight_in facts)) (seen_of v) (numbered_needs s (reference_needs plan r first last))
    reference_met (Base place) first last has =
        All-nil (λ (need : ℕ × ℕ). (need.0 < m.lines) × (need.1 ≤ seen_of v need.0))
    reference_met (Flight j) first last has = rows_met j first last has

    abbrev IsRangeMet : RowRange → Type 0
    IsRangeMet range =
        AreMet (flight_meaning (flight_in facts)) (seen_of v)
        (numbered_needs s (range_needs (flight_rows (flight_in facts)) range))

    -- a unit of a line of phase B whose ranges are those of its items
    module _ (source : ReachSource) (items : List Item) (l : Line) (x : ℕ)
        (told : flat_map (reach_in source) items ≡ told_reach (flight_rows (flight_in facts)) l x)
        (all : All (HasReach s seen source) items) where
      ranges_seen : All (HasRange s seen) (told_reach (flight_rows (flight_in facts)) l x)
      ranges_seen =
          subst (All (HasRange s seen)) told
          (pieces_all (HasRange s seen) (reach_in source) items (λ i d less. all i d less))

      pub needs_met : l.phase ≡ B → AreSeen facts s v (read_needs (flight_rows (flight_in facts)) l x)
          → AreSeen facts s v
          (row_needs (flight_rows (flight_in facts)) (collocated_of (flight_rows (flight_in facts)) l x) l.row)
          → AreSeen facts s v (unit_needs (flight_rows (flight_in facts)) l x)
      needs_met tree read row =
          unit_met m (seen_of v) s plan l x tree read row
          (All-weaker (HasRange s seen) IsRangeMet
          (λ range has. reference_met range.picture range.first range.last has) (told_reach plan l x) ranges_seen)

      not_read : (j r : ℕ) → l.phase ≡ B
          → ReadingUses (flight_rows (flight_in facts)) l x (line_of S j r) 0 → ⊥
      not_read j r tree (Former same less) =
          apart_phases B S S (sym tree ∙ sym (ap (λ (n : Line). n.phase) same)) refl (omega arith)
      not_read j r tree (Above same some left right inside) =
          apart_phases B S S (sym (ap (λ (n : Line). n.phase) same)) refl (omega arith)
      not_read j r tree (Carried same some off start last) =
          apart_phases B S S (sym (ap (λ (n : Line). n.phase) same)) refl (omega arith)

      row_seen : (j r : ℕ) → l.phase ≡ B
          → BuildingUses (flight_rows (flight_in facts)) l x (line_of S j r) 0 → is_seen seen j r ≡ true
      row_seen j r tree (Reading uses) = absurd (not_read j r tree uses)
      row_seen j r tree (Collocated picture named same line inside) =
          absurd (apart_phases B S S (sym (ap (λ (n : Line). n.phase) same)) refl (omega arith))
      row_seen j r tree (Reached range picture row contains named low high same line first) =
          let has : HasRange s seen range =
          All-contains (HasRange s seen) (told_reach plan l x) range ranges_seen contains in
          let rows : AreRowsOf s seen (Flight picture) range.first range.last =
          subst (λ q. AreRowsOf s seen q range.first range.last) named has in
          let here : IsLine plan (line_of S picture row) = subst (IsLine plan) same line in
          let is : is_seen seen picture row ≡ true =
          rows row low high (word_line plan s sizes (line_of S picture row) here) in
          let same_picture : picture ≡ j = sym (ap (λ (n : Line). n.picture) same) in
          let same_row : row ≡ r = sym (ap (λ (n : Line). n.row) same) in
          subst (λ q. is_seen seen q r ≡ true) same_picture
          (subst (λ q. is_seen seen picture q ≡ true) same_row is)

      pub final_seen : (j r : ℕ) → l.phase ≡ B
          → UnitUses (flight_rows (flight_in facts)) l x (line_of S j r) 0 → is_seen seen j r ≡ true
      final_seen j r tree uses =
          row_seen j r tree
          (subst (λ q. MakingUses q (flight_rows (flight_in facts)) l x (line_of S j r) 0) tree uses)
