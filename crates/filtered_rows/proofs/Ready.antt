-- What a pass has seen where the needs of a row of coding tree blocks are met, and when its unit is counted.
use Rattle.std.proofs.Common.{◌≡◌, ◌≢◌, refl, ℕ, ◌+◌, ◌-◌, ◌<◌, ◌≤◌, ◌⊎◌, inl, inr, min, true, arith, ap}
use Rattle.std.proofs.Common.{sym}
use Rattle.std.proofs.Common.{subst, ◌∙◌, List, All, get_or, length, Some}
use Rattle.std.specs.Prelude.{map}
use Rattle.std.specs.List.{range_with_len}
use Rattle.std.proofs.lemmas.Bool.{cases_eq}
use Rattle.std.proofs.lemmas.List.{get_or-map, length-map}
use Rattle.std.proofs.lemmas.List.FromFn.{get_or-map-range_with_len, length-map-range_with_len}
use Rattle.std.proofs.lemmas.Option.{same_Some}
use Rattle.hv_base.specs.declared.line.Line.{Line}
use Rattle.hv_base.specs.declared.line.Phase.{Phase}
use Rattle.hv_base.specs.declared.line.Phase.TheVariants.{B, V, H, S}
use Rattle.flight_plan.specs.Flight.{FlightRows, picture_at}
use Rattle.board_core.specs.Needs.{counting_needs, filter_needs, rows_needs, unit_needs}
use Rattle.board_core.specs.Places.{full_count, IsLine, line_of, phase_units}
use Rattle.board_core.specs.SoundUnits.{AreNeedsSound}
use Rattle.sample_words.specs.declared.sizes.FlightSizes.{FlightSizes}
use Rattle.sample_words.specs.Words.{IsLine as IsWordLine, line_at, line_number, lines}
use Rattle.progress_words.specs.declared.view.View.{View}
use Rattle.progress_words.specs.Core.{AreMet}
use Rattle.progress_words.specs.Faults.{unit_in}
use Rattle.progress_words.specs.Meanings.{Meaning}
use Rattle.progress_words.specs.Rule.{IsNext}
use Rattle.progress_words.specs.Views.{AllSound, HasEnded, counting, seen_of}
use Rattle.progress_words.proofs.Counts.{put_other, put_same}
use Rattle.flight_lines.specs.Flights.{meaning_of}
use Rattle.flight_lines.specs.Numbers.{numbered, numbered_needs}
use Rattle.flight_lines.proofs.Numbered.{line_again, number_of_words, word_line}
use Rattle.flight_waits.specs.SpecFlights.{PlannedFlight}
use Rattle.flight_waits.specs.SpecFlights.{flight_rows, is_sound}
use Rattle.sample_lines.proofs.FactsOfFlights.{all_sound}
use Rattle.sample_lines.specs.FactsOfFlights.{FlightFacts}
use Rattle.sample_lines.specs.FactsOfFlights.{flight_meaning}
use Rattle.sample_lines.specs.FactsOfFlights.{flight_in}
use Rattle.sample_lines.specs.FactsOfFlights.{IsOfFlight}
use Rattle.sample_lines.proofs.FactsOfFlights.{tells_bad}
use Rattle.flight_waits.specs.Waits.{AreAllKnown, AreSeen}
use Rattle.flight_waits.proofs.Waited.{line_there, sized}

-- what holds of what a list is mapped to holds so of the list
all_of_map : {X Y : Type 0} (P : X → Type 0) (f : Y → X) (ys : List Y) → All P (map f ys) → All (λ y. P (f y)) ys
all_of_map P f ys all k d inside =
    let many = length-map ys f in
    subst P (get_or-map f ys k d (f d) inside) (all k (f d) (omega (arith, many, inside)))

module _ (m : Meaning) (count : ℕ → ℕ) (s : FlightSizes) where
  -- a need is met
  abbrev pub IsMet : Line × ℕ → Type 0
  IsMet need = (line_number s need.0 < m.lines) × (need.1 ≤ count (line_number s need.0))

  pub by_line : (needs : List (Line × ℕ)) → AreMet m count (numbered_needs s needs) → All IsMet needs
  by_line needs met =
      all_of_map (λ (need : ℕ × ℕ). (need.0 < m.lines) × (need.1 ≤ count need.0)) (numbered s) needs met

  -- of rows that are needed each is counted
  pub row_met : (plan : FlightRows) (phase : Phase) (k first last r : ℕ)
      → All IsMet (rows_needs plan phase k first last) → first ≤ r → r ≤ last → r < (picture_at plan k).rows
      → full_count plan (line_of phase k r) ≤ count (line_number s (line_of phase k r))
  row_met plan phase k first last r met low high here =
      let n : ℕ = min (last + 1) (picture_at plan k).rows - first in
      let g : ℕ → Line × ℕ = λ row. (line_of phase k row, full_count plan (line_of phase k row)) in
      let less : r - first < n = omega (arith, low, high, here) in
      let many : length (map g (range_with_len first n)) ≡ n = length-map-range_with_len g first n in
      let there : get_or (map g (range_with_len first n)) (r - first) (g r) ≡ g r =
      get_or-map-range_with_len g first n (r - first) r (g r) less (omega (arith, low)) in
      let is : IsMet (g r) = subst IsMet there (met (r - first) (g r) (omega (arith, many, less))) in
      is.1

module _ (facts : FlightFacts) (s : FlightSizes) (is : IsOfFlight facts s) where
  abbrev f : PlannedFlight
  f = flight_in facts

  abbrev plan : FlightRows
  plan = flight_rows (flight_in facts)

  abbrev m : Meaning
  m = flight_meaning (flight_in facts)

  -- the meaning of lines by number
  lines_is : m.lines ≡ lines s
  unfolding meaning_of
  lines_is = ap lines (sym is.sizes)

  module _ (l : Line) (line : IsWordLine s l) where
    abbrev n : ℕ
    n = line_number s l

    again : line_at s n ≡ l
    again = line_again s l line

    sound_is : (x : ℕ) → m.sound n x ≡ is_sound f l x
    unfolding meaning_of
    sound_is x =
        ap (λ (t : FlightSizes). is_sound f (line_at t n) x) (sym is.sizes) ∙ ap (λ (k : Line). is_sound f k x) again

    needs_is : (x : ℕ) → m.needs n x ≡ numbered_needs s (unit_needs plan l x)
    unfolding meaning_of
    needs_is x =
        ap (λ (t : FlightSizes). numbered_needs t (unit_needs plan (line_at t n) x)) (sym is.sizes)
        ∙ ap (λ (k : Line). numbered_needs s (unit_needs plan k x)) again

    width_is : m.width n ≡ full_count plan l
    unfolding meaning_of
    width_is = ap (λ (t : FlightSizes). full_count plan (line_at t n)) (sym is.sizes) ∙ ap (full_count plan) again

    number_inside : n < m.lines
    number_inside = let e = lines_is in let less = number_of_words s l line in omega (arith, e, less)

    -- what is seen of it is sound
    pub seen_sound : {F : Type 0} (v : View F) → AreAllKnown facts v → (x : ℕ) → x < seen_of v n
        → is_sound f l x ≡ true
    seen_sound v known x less = sym (sound_is x) ∙ known n x less

  -- a row of a loop filter
  needs_of : (phase : Phase) (l : Line) (x : ℕ) → phase ≢ B → counting_needs phase plan l x ≡ filter_needs plan l
  needs_of B l x other = absurd (other refl)
  needs_of V l x other = refl
  needs_of H l x other = refl
  needs_of S l x other = refl

  one_of : (phase : Phase) (k : ℕ) → phase ≢ B → phase_units phase (picture_at plan k) ≡ 1
  one_of B k other = absurd (other refl)
  one_of V k other = refl
  one_of H k other = refl
  one_of S k other = refl

  module _ {F : Type 0} (v : View F) (known : AreAllKnown facts v) (l : Line) (line : IsWordLine s l)
      (other : l.phase ≢ B) (met : AreSeen facts s v (filter_needs plan l)) where
    needs_sound : AreNeedsSound plan (is_sound f) (filter_needs plan l)
    needs_sound i d inside there x less =
        let need : Line × ℕ = get_or (filter_needs plan l) i d in
        let here : IsWordLine s need.0 = word_line plan s (sized facts s is) need.0 there in
        let counted = (by_line m (seen_of v) s (filter_needs plan l) met i d inside).1 in
        seen_sound need.0 here v known x (omega (arith, counted, less))

    row_sound : is_sound f l 0 ≡ true
    row_sound =
        let there : IsLine plan l = line_there facts s is l line in
        let one : full_count plan l ≡ 1 = one_of l.phase l.picture other in
        let inside : 0 < full_count plan l = omega (arith, one) in
        let tells = tells_bad f in
        all_sound f is.planned.segments l 0 there inside
        (λ bad. let told = tells.told l 0 there inside bad in other (tells.phase l 0 told.0 told.1))
        (subst (AreNeedsSound plan (is_sound f)) (sym (needs_of l.phase l 0 other)) needs_sound)
        (λ y less. absurd (omega (arith, less)))

    -- its unit is the next one
    pub row_next : v.job ≡ Some (line_number s l) → seen_of v (line_number s l) ≡ 0
        → IsNext m v (line_number s l)
    row_next job seen =
        let at : ℕ = line_number s l in
        let one : full_count plan l ≡ 1 = one_of l.phase l.picture other in
        let width = width_is l line in
        record {
          line = number_inside l line;
          job = job;
          left = omega (arith, seen, width, one);
          sound = ap (m.sound at) seen ∙ (sound_is l line 0 ∙ row_sound);
          met =
              subst (λ (x : ℕ). AreMet m (seen_of v) (m.needs at x)) (sym seen)
              (subst (λ (needs : List (ℕ × ℕ)). AreMet m (seen_of v) needs) (sym (needs_is l line 0))
              (subst (λ (needs : List (Line × ℕ)). AreMet m (seen_of v) (numbered_needs s needs))
              (sym (needs_of l.phase l 0 other)) met));
        }

  -- when it is counted
  module _ {F : Type 0} (v w : View F) (l : Line) (line : IsWordLine s l) (other : l.phase ≢ B)
      (job : v.job ≡ Some (line_number s l)) (seen : seen_of v (line_number s l) ≡ 0)
      (now : w ≡ counting v (line_number s l) 1) where
    here : seen_of w (line_number s l) ≡ 1
    here =
        ap (λ (u : View F). seen_of u (line_number s l)) now ∙ put_same v.seen (line_number s l) 1

    others : (j : ℕ) → j ≢ line_number s l → seen_of w j ≡ seen_of v j
    others j apart = ap (λ (u : View F). seen_of u j) now ∙ put_other v.seen (line_number s l) 1 j apart

    pub row_ended : HasEnded m w
    row_ended j is_job =
        let job_now : v.job ≡ Some j = sym (ap (λ (u : View F). u.job) now) ∙ is_job in
        let same : line_number s l ≡ j = same_Some (line_number s l) j (sym job ∙ job_now) in
        let one : full_count plan l ≡ 1 = one_of l.phase l.picture other in
        let width = width_is l line in
        let count = here in
        subst (λ (i : ℕ). (m.width i ≤ seen_of w i) ⊎ (unit_in w.least ≤ m.number i (seen_of w i))) same
        (inl (omega (arith, one, width, count)))

    pub row_known : AreAllKnown facts v → AllSound m (line_number s l) 1 → AreAllKnown facts w
    row_known known sound j =
        elim (cases_eq j (line_number s l)) [
          | inl same ↦
              subst (λ (i : ℕ). AllSound m i (seen_of w i)) (sym same)
              (subst (AllSound m (line_number s l)) (sym here) sound)
          | inr apart ↦ subst (AllSound m j) (sym (others j apart)) (known j)
        ]

    pub row_more : (j : ℕ) → seen_of v j ≤ seen_of w j
    row_more j =
        elim (cases_eq j (line_number s l)) [
          | inl same ↦
              let count = here in
              subst (λ (i : ℕ). seen_of v i ≤ seen_of w i) (sym same) (omega (arith, seen, count))
          | inr apart ↦ let e = others j apart in omega (arith, e)
        ]
