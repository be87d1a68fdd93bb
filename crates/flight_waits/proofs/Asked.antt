-- What a worker waits for, by the frame of its flight.
use Rattle.std.proofs.Common.{◌≡◌, ◌≢◌, ℕ, ◌+◌, ◌-◌, ◌<◌, refl, ap, arith, sym, subst, ◌∙◌, List, [], ◌∷◌, ◌++◌, Some}
use Rattle.std.specs.List.{flat_map}
use Rattle.std.proofs.lemmas.List.{append-nil}
use Rattle.hv_base.specs.declared.line.Line.{Line}
use Rattle.hv_base.specs.declared.line.Phase.{Phase}
use Rattle.hv_base.specs.declared.line.Phase.TheVariants.{B, V, H, S}
use Rattle.flight_plan.specs.Flight.{FlightRows, IsEarlier}
use Rattle.flight_plan.specs.declared.row_range.RowRange.{RowRange}
use Rattle.board_core.specs.Needs.{counting_needs, filter_needs, range_needs, read_needs, rows_needs, unit_needs}
use Rattle.board_core.specs.Places.{IsLine, line_of}
use Rattle.sample_words.specs.declared.sizes.FlightSizes.{FlightSizes}
use Rattle.sample_words.specs.Words.{IsLine as IsWordLine, line_number}
use Rattle.flight_lines.specs.Flights.{IsSized}
use Rattle.flight_lines.specs.Numbers.{AreOfFlight, numbered_needs}
use Rattle.line_words.specs.Passes.{NameOthers}
use Rattle.line_words.specs.Places.{IsUnit, UnitAt, number_at}
use Rattle.line_words.proofs.Apart.{read_names_others, unit_names_others}
use Rattle.progress_words.specs.Core.{AreMet}
use Rattle.progress_words.specs.Meanings.{Meaning}
use Rattle.flight_facts.specs.SpecFlights.{flight_rows}
use Rattle.flight_facts.specs.declared.flight_facts.FlightFacts.{FlightFacts}
use Rattle.flight_facts.specs.Facts.{flight_in}
use Rattle.flight_facts.specs.Flights.{IsOfFlight}
use Rattle.flight_waits.specs.Frames.{frame_rows}
use Rattle.flight_waits.proofs.Apart.{built_others, earlier_others, range_of_flight, range_others}
use Rattle.flight_waits.proofs.Frames.{filter_same, range_same, read_same, rows_same}
use Rattle.flight_waits.proofs.Needed.{second_met}
use Rattle.flight_waits.proofs.Waited.{line_framed, sized_frame}

module _ (facts : FlightFacts) (s : FlightSizes) (is : IsOfFlight facts s) (frame : FlightRows)
    (framed : frame ≡ frame_rows (flight_in facts).pictures) (at : UnitAt) (sizes : at.sizes ≡ s) (there : IsUnit at)
  where
    pub frame_sizes : IsSized frame s
    frame_sizes = subst (λ (plan : FlightRows). IsSized plan s) (sym framed) (sized_frame facts s is)

    own_line : IsWordLine s at.line
    own_line = subst (λ (t : FlightSizes). IsWordLine t at.line) sizes there.line

    in_frame : (l : Line) → IsWordLine s l → IsLine frame l
    in_frame l word = subst (λ (plan : FlightRows). IsLine plan l) (sym framed) (line_framed facts s is l word)

    -- the unit's own line
    pub line_here : (l : Line) → l ≡ at.line → IsLine frame l
    line_here l e = subst (IsLine frame) (sym e) (in_frame at.line own_line)

    -- that of another phase of its row, and of its row in an earlier picture
    pub line_beside : (phase : Phase) (l m : Line) → m ≡ at.line → l ≡ line_of phase m.picture m.row → IsLine frame l
    line_beside phase l m own e =
        subst (IsLine frame)
        (sym (e ∙ ap (λ (k : Line). line_of phase k.picture k.row) own))
        (in_frame (line_of phase at.line.picture at.line.row)
        (record { picture = own_line.picture; row = own_line.row }))

    pub line_earlier : (k : ℕ) (l m : Line) → k < at.line.picture → m ≡ at.line → l ≡ line_of V k m.row → IsLine frame l
    line_earlier k l m less own e =
        let last = own_line.picture in
        subst (IsLine frame) (sym (e ∙ ap (λ (n : Line). line_of V k n.row) own))
        (in_frame (line_of V k at.line.row) (record { picture = omega (arith, less, last); row = own_line.row }))

    -- needs of the frame are of others than the unit's line
    others_of : (needs : List (Line × ℕ)) → NameOthers (line_number s at.line) (numbered_needs s needs)
        → NameOthers (number_at at) (numbered_needs s needs)
    others_of needs others =
        subst (λ (n : ℕ). NameOthers n (numbered_needs s needs))
        (sym (ap (λ (t : FlightSizes). line_number t at.line) sizes)) others

    pub read_others : (needs : List (Line × ℕ)) (l : Line) (x : ℕ) → l ≡ at.line → needs ≡ read_needs frame l x
        → NameOthers (number_at at) (numbered_needs s needs)
    read_others needs l x own e =
        others_of needs
        (subst (λ (ns : List (Line × ℕ)). NameOthers (line_number s at.line) (numbered_needs s ns))
        (sym (e ∙ ap (λ (k : Line). read_needs frame k x) own))
        (read_names_others frame s at.line x frame_sizes (in_frame at.line own_line)))

    pub own_others : (needs : List (Line × ℕ)) (l : Line) (x : ℕ) → l ≡ at.line → needs ≡ unit_needs frame l x
        → NameOthers (number_at at) (numbered_needs s needs)
    own_others needs l x own e =
        others_of needs
        (subst (λ (ns : List (Line × ℕ)). NameOthers (line_number s at.line) (numbered_needs s ns))
        (sym (e ∙ ap (λ (k : Line). unit_needs frame k x) own))
        (unit_names_others frame s at.line x frame_sizes (in_frame at.line own_line)))

    pub beside_others : (needs : List (Line × ℕ)) (l m : Line) → m ≡ at.line → l ≡ line_of H m.picture m.row
        → needs ≡ unit_needs frame l 0 → at.line.phase ≡ S → NameOthers (number_at at) (numbered_needs s needs)
    beside_others needs l m own beside e final =
        let same : l ≡ line_of H at.line.picture at.line.row =
        beside ∙ ap (λ (k : Line). line_of H k.picture k.row) own in
        others_of needs
        (subst (λ (ns : List (Line × ℕ)). NameOthers (line_number s at.line) (numbered_needs s ns))
        (sym (e ∙ ap (λ (k : Line). unit_needs frame k 0) same))
        (built_others frame s frame_sizes at.line (in_frame at.line own_line) final
        (subst (IsLine frame) same (line_beside H l m own beside))))

    pub collocated_others : (needs : List (Line × ℕ)) (k : ℕ) (l m : Line) → k < at.line.picture → m ≡ at.line
        → l ≡ line_of V k m.row → needs ≡ unit_needs frame l 0 → NameOthers (number_at at) (numbered_needs s needs)
    collocated_others needs k l m less own there_row e =
        let same : l ≡ line_of V k at.line.row = there_row ∙ ap (λ (n : Line). line_of V k n.row) own in
        others_of needs
        (subst (λ (ns : List (Line × ℕ)). NameOthers (line_number s at.line) (numbered_needs s ns))
        (sym (e ∙ ap (λ (n : Line). unit_needs frame n 0) same))
        (earlier_others frame s frame_sizes at.line (in_frame at.line own_line) k at.line.row less
        (subst (IsLine frame) same (line_earlier k l m less own there_row))))

    -- those of one range alone
    one_range : (needs : List (Line × ℕ)) (range : RowRange)
        → needs ≡ [] ++ ([] ++ ([] ++ flat_map (range_needs frame) (range ∷ []))) → needs ≡ range_needs frame range
    one_range needs range e = e ∙ append-nil (range_needs frame range)

    pub range_lines : (needs : List (Line × ℕ)) (range : RowRange)
        → needs ≡ [] ++ ([] ++ ([] ++ flat_map (range_needs frame) (range ∷ []))) → AreOfFlight s needs
    range_lines needs range e =
        subst (AreOfFlight s) (sym (one_range needs range e)) (range_of_flight frame s frame_sizes range)

    pub final_others : (needs : List (Line × ℕ)) (range : RowRange)
        → needs ≡ [] ++ ([] ++ ([] ++ flat_map (range_needs frame) (range ∷ [])))
        → IsEarlier at.line.picture range.picture → NameOthers (number_at at) (numbered_needs s needs)
    final_others needs range e earlier =
        others_of needs
        (subst (λ (ns : List (Line × ℕ)). NameOthers (line_number s at.line) (numbered_needs s ns))
        (sym (one_range needs range e))
        (range_others frame s frame_sizes at.line (in_frame at.line own_line) range earlier))

    -- what the frame needs is met, so is what the flight needs
    module _ (m : Meaning) (count : ℕ → ℕ) (needs : List (Line × ℕ)) (met : AreMet m count (numbered_needs s needs))
      where
        to : (wanted : List (Line × ℕ)) → needs ≡ wanted → AreMet m count (numbered_needs s wanted)
        to wanted e = subst (λ (ns : List (Line × ℕ)). AreMet m count (numbered_needs s ns)) e met

        pub read_met : (l : Line) (x unit : ℕ) → l ≡ at.line → unit ≡ x → needs ≡ read_needs frame l unit
            → AreMet m count (numbered_needs s (read_needs (flight_rows (flight_in facts)) at.line x))
        read_met l x unit own column e =
            to (read_needs (flight_rows (flight_in facts)) at.line x)
            (e
            ∙ (ap (λ (plan : FlightRows). read_needs plan l unit) framed
            ∙ (read_same (flight_in facts) l unit
            ∙ (ap (λ (k : Line). read_needs (flight_rows (flight_in facts)) k unit) own
            ∙ ap (read_needs (flight_rows (flight_in facts)) at.line) column))))

        by_phase : (phase : Phase) (l : Line) → phase ≢ B → counting_needs phase frame l 0 ≡ filter_needs frame l
        by_phase B l apart = absurd (apart refl)
        by_phase V l apart = refl
        by_phase H l apart = refl
        by_phase S l apart = refl

        pub filter_met : (l : Line) → l ≡ at.line → at.line.phase ≢ B → needs ≡ unit_needs frame l 0
            → AreMet m count (numbered_needs s (filter_needs (flight_rows (flight_in facts)) at.line))
        filter_met l own apart e =
            to (filter_needs (flight_rows (flight_in facts)) at.line)
            (e
            ∙ (ap (λ (k : Line). unit_needs frame k 0) own
            ∙ (by_phase at.line.phase at.line apart
            ∙ (ap (λ (plan : FlightRows). filter_needs plan at.line) framed
            ∙ filter_same (flight_in facts) at.line))))

        pub built_met : (l k : Line) → k ≡ at.line → l ≡ line_of H k.picture k.row → needs ≡ unit_needs frame l 0
            → AreMet m count
            (numbered_needs s
            (rows_needs (flight_rows (flight_in facts)) B at.line.picture (at.line.row - 1) (at.line.row + 1)))
        built_met l k own beside e =
            let j : ℕ = at.line.picture in
            let first : ℕ = at.line.row - 1 in
            let last : ℕ = at.line.row + 1 in
            let plan = flight_rows (flight_in facts) in
            let both : needs ≡ rows_needs plan V j first last ++ rows_needs plan B j first last =
            e ∙ (ap (λ (n : Line). unit_needs frame n 0) (beside ∙ ap (λ (n : Line). line_of H n.picture n.row) own)
            ∙ (ap (λ (p : FlightRows). filter_needs p (line_of H j at.line.row)) framed
            ∙ filter_same (flight_in facts) (line_of H j at.line.row))) in
            second_met m count s (rows_needs plan V j first last) (rows_needs plan B j first last)
            (to (rows_needs plan V j first last ++ rows_needs plan B j first last) both)

        pub collocated_met : (j : ℕ) (l k : Line) → k ≡ at.line → l ≡ line_of V j k.row → needs ≡ unit_needs frame l 0
            → AreMet m count
            (numbered_needs s (rows_needs (flight_rows (flight_in facts)) B j at.line.row at.line.row))
        collocated_met j l k own there_row e =
            to (rows_needs (flight_rows (flight_in facts)) B j at.line.row at.line.row)
            (e
            ∙ (ap (λ (n : Line). unit_needs frame n 0) (there_row ∙ ap (λ (n : Line). line_of V j n.row) own)
            ∙ (ap (λ (p : FlightRows). filter_needs p (line_of V j at.line.row)) framed
            ∙ filter_same (flight_in facts) (line_of V j at.line.row))))

        pub range_met : (range : RowRange) → needs ≡ [] ++ ([] ++ ([] ++ flat_map (range_needs frame) (range ∷ [])))
            → AreMet m count (numbered_needs s (range_needs (flight_rows (flight_in facts)) range))
        range_met range e =
            to (range_needs (flight_rows (flight_in facts)) range)
            (one_range needs range e
            ∙ (ap (λ (p : FlightRows). range_needs p range) framed ∙ range_same (flight_in facts) range))
