-- Each event of a board is one or two events of the core of row scheduling.
use Rattle.std.proofs.Common.{◌≡◌, ◌≢◌, refl, ℕ, ◌+◌, ◌<◌, ◌⊎◌, inl, inr, arith, ap, sym, subst, ◌∙◌}
use Rattle.std.proofs.Common.{Bool, true, false, List, [], ◌∷◌, ◌++◌, length, get_or, set, min, Option, Some}
use Rattle.std.proofs.lemmas.Bool.{cases_eq, eq-eqb, ne_eqb}
use Rattle.std.proofs.lemmas.List.{get_or-set_other, length-set}
use Rattle.std.proofs.lemmas.Grind.{get_or-set_at}
use Rattle.std.specs.Prelude.{slice_index_or, slice_index, slice_set}
use Rattle.hv_base.specs.declared.line.Line.{Line}
use Rattle.hv_base.specs.declared.line.Phase.{Phase}
use Rattle.hv_base.specs.declared.line.Phase.TheVariants.{B, V, H, S}
use Rattle.flight_plan.specs.Flight.{FlightRows}
use Rattle.board_core.specs.declared.event.Event.{Event}
use Rattle.board_core.specs.declared.event.Event.TheVariants.{Draw, Read, Build, Filter, Fault}
use Rattle.board_core.specs.Needs.{build_needs, read_needs, unit_needs}
use Rattle.board_core.specs.Places.{delay, full_count, IsLine, IsPlaceOf, ticket_of, unit_of}
use Rattle.board_core.specs.Runs.{AllReady, IsSound, run}
use Rattle.board_core.specs.States.{AreCounted, CoreState, IsBad, IsNext, IsReadable, IsReady, after}
use Rattle.board_core.specs.States.{count_of, is_parsed, lesser, opening}
use Rattle.board_core.proofs.Counting.{build_above, unit_needs_filter, unit_needs_tree}
use Rattle.board_core.proofs.Steps.{count_cases, one_unit, opening_sound, step_sound}
use Rattle.sample_words.specs.Words.{line_at, line_number, lines}
use Rattle.progress_words.specs.Counts.{put}
use Rattle.progress_words.specs.Core.{Core, IsReached, at_first, count_in, fault_in, ticket_in}
use Rattle.progress_words.specs.Core.{AllReady as AllTaken, Event as Step, IsReady as IsTaken, after as stepped}
use Rattle.progress_words.specs.Core.{AreMet, count_of as counted_in, run as stepped_all}
use Rattle.progress_words.specs.Core as board
use Rattle.progress_words.specs.Faults.{no_fault, packed, unit_in}
use Rattle.progress_words.proofs.Counts.{put_same, put_other}
use Rattle.flight_lines.specs.Flights.{BoardFlight, IsOnBoard, meaning_of}
use Rattle.flight_lines.specs.Shown.{ShowsState, least_in}
use Rattle.flight_lines.proofs.Laid.{few_numbers}
use Rattle.flight_lines.proofs.Meant.{bad_is_told, sound_is_good, told_at}
use Rattle.flight_lines.proofs.Needed.{above_lines, counted_met, unit_lines}
use Rattle.flight_lines.proofs.Numbered.{line_is, number_is, same_number}
use Rattle.flight_lines.proofs.Ticketed.{lines_are}

-- the state shows what the board's core has, and nothing is parsed there that isn't counted
pub record Shows (f : BoardFlight) (c : Core) (s : CoreState) : Type 0 where
  pub sound : IsSound f.plan s
  pub counts : (l : Line) → IsLine f.plan l → count_of f.plan s l ≡ counted_in c (line_number f.sizes l)
  pub parsed : (l : Line) → IsLine f.plan l → is_parsed f.plan s l ≡ false
  pub drawn : s.drawn ≡ c.drawn
  pub least : s.least ≡ least_in c.least

-- events lead from a state to one that shows that
pub record Leads (f : BoardFlight) (s : CoreState) (c : Core) : Type 0 where
  pub events : List Event
  pub ready : AllReady f.plan s events
  pub shows : Shows f c (run f.plan s events)

run_append : (plan : FlightRows) (s : CoreState) (xs ys : List Event)
    → run plan s (xs ++ ys) ≡ run plan (run plan s xs) ys
run_append plan s [] ys = refl
run_append plan s (x ∷ xs) ys = run_append plan (after plan s x) xs ys

ready_append : (plan : FlightRows) (s : CoreState) (xs ys : List Event) → AllReady plan s xs
    → AllReady plan (run plan s xs) ys → AllReady plan s (xs ++ ys)
ready_append plan s [] ys first then_ys = then_ys
ready_append plan s (x ∷ xs) ys first then_ys = (first.0, ready_append plan (after plan s x) xs ys first.1 then_ys)

phase_cases : (p : Phase) → (p ≡ B) ⊎ ¬ (p ≡ B)
phase_cases B = inl refl
phase_cases V = inr (λ e. let d : 8 ≡ 0 = ap delay e in absurd (omega arith))
phase_cases H = inr (λ e. let d : 10 ≡ 0 = ap delay e in absurd (omega arith))
phase_cases S = inr (λ e. let d : 12 ≡ 0 = ap delay e in absurd (omega arith))

-- a flag that is set and taken back
flag_again : (flags : List Bool) (t u : ℕ) → t < length flags → get_or flags u false ≡ false
    → get_or (set (set flags t true) t false) u false ≡ false
flag_again flags t u inside unset =
    let there : t < length (set flags t true) = omega (arith, inside, length-set flags t true) in
    elim (cases_eq u t) [
      | inl same ↦ get_or-set_at (set flags t true) t u false false same there
      | inr other ↦
          get_or-set_other (set flags t true) t u false false other
          ∙ (get_or-set_other flags t u true false other ∙ unset)
    ]

-- the least of two faults
least_after : (word u r : ℕ) → u < 576460752303423487 → r < 32
    → least_in (min word (packed u r)) ≡ Some (lesser u (least_in word))
least_after word u r few small =
    let apart : min word (packed u r) ≡ no_fault → ⊥ = λ e. absurd (omega arith) in
    let no = ne_eqb (min word (packed u r)) no_fault apart in
    elim (cases_eq word no_fault) [
      | inl none ↦
          let yes = eq-eqb word no_fault none in
          let unit : unit_in (min word (packed u r)) ≡ u = omega arith in
          rw (no, yes) (ap (λ (k : ℕ). Some k) unit)
      | inr some ↦
          let other = ne_eqb word no_fault some in
          let unit : unit_in (min word (packed u r)) ≡ min u (unit_in word) = omega arith in
          rw (no, other) (ap (λ (k : ℕ). Some k) unit)
    ]

module _ (f : BoardFlight) (on : IsOnBoard f) where
  abbrev plan : FlightRows
  plan = f.plan

  -- the counts behind a unit of a line
  count_next : (s : CoreState) (c : Core) (l : Line) (n : ℕ) → Shows f c s → IsLine plan l → line_number f.sizes l ≡ n
      → (m : Line) → IsLine plan m
      → slice_index_or (slice_set s.counts (ticket_of plan l) (counted_in c n + 1)) (ticket_of plan m) 0
      ≡ slice_index (put c.counts n (counted_in c n + 1)) (line_number f.sizes m)
  count_next s c l n shows line number m line_m =
      let v : ℕ = counted_in c n + 1 in
      elim (count_cases plan s l m v shows.sound line line_m) [
        | inl (same, is) ↦
            let here : n ≡ line_number f.sizes m = sym (ap (line_number f.sizes) same ∙ number) in
            is ∙ (sym (put_same c.counts n v) ∙ ap (λ (k : ℕ). get_or (put c.counts n v) k 0) here)
        | inr (differ, is) ↦
            let apart : line_number f.sizes m ≢ n = λ e.
            differ (ap (ticket_of plan) (same_number plan f.sizes on.sized m l line_m line (e ∙ sym number))) in
            is ∙ (shows.counts m line_m ∙ sym (put_other c.counts n v (line_number f.sizes m) apart))
      ]

  -- a line that is drawn and has a next unit
  record HasLine (s : CoreState) (c : Core) (n : ℕ) : Type 0 where
    pub line : IsLine plan (line_at f.sizes n)
    pub number : line_number f.sizes (line_at f.sizes n) ≡ n
    pub drawn : ticket_of plan (line_at f.sizes n) < s.drawn
    pub count : counted_in c n ≡ count_of plan s (line_at f.sizes n)
    pub left : counted_in c n < full_count plan (line_at f.sizes n)

  has_line : (s : CoreState) (c : Core) (n : ℕ) → Shows f c s → n < lines f.sizes
      → ticket_of plan (line_at f.sizes n) < c.drawn → counted_in c n < full_count plan (line_at f.sizes n)
      → HasLine s c n
  has_line s c n shows less drawn left =
      let line = line_is plan f.sizes on.sized n less in
      let number = number_is plan f.sizes on.sized n less in
      let e = shows.drawn in
      record {
        line = line;
        number = number;
        drawn = omega (arith, drawn, e);
        count = sym (shows.counts (line_at f.sizes n) line ∙ ap (counted_in c) number);
        left = left;
      }

  next_unit : (s : CoreState) (c : Core) (n : ℕ) → HasLine s c n → (line_at f.sizes n).phase ≡ B
      → IsNext plan s (line_at f.sizes n) (counted_in c n)
  next_unit s c n has tree = record {
    line = has.line;
    phase = tree;
    drawn = has.drawn;
    next = has.count;
    left = has.left;
  }

  readable : (s : CoreState) (c : Core) (n : ℕ) → Shows f c s → HasLine s c n → (line_at f.sizes n).phase ≡ B
      → AreCounted plan s (read_needs plan (line_at f.sizes n) (counted_in c n))
      → IsReadable plan s (line_at f.sizes n) (counted_in c n)
  readable s c n shows has tree needs = record {
    next = next_unit s c n has tree;
    parsed = shows.parsed (line_at f.sizes n) has.line;
    needs = needs;
  }

  -- a coding tree unit is parsed, and then built
  build_leads : (s : CoreState) (c : Core) (n : ℕ) → Shows f c s → HasLine s c n → (line_at f.sizes n).phase ≡ B
      → ¬ IsBad plan (unit_of plan (line_at f.sizes n) (counted_in c n))
      → AreCounted plan s (unit_needs plan (line_at f.sizes n) (counted_in c n))
      → Leads f s (record { counts = put c.counts n (counted_in c n + 1); drawn = c.drawn; least = c.least })
  build_leads s c n shows has tree good counted =
      let l : Line = line_at f.sizes n in
      let x : ℕ = counted_in c n in
      let t : ℕ = ticket_of plan l in
      let needs : AreCounted plan s (build_needs plan l x) =
      subst (AreCounted plan s) (unit_needs_tree plan l x tree) counted in
      let read : IsReady plan s (Read l x) =
      (readable s c n shows has tree (build_above plan s l x needs), good) in
      let flight = on.sized.flight in
      let sound_read = step_sound plan s (Read l x) flight shows.sound read in
      let ticket : t < length s.parsed =
      omega (arith, Rattle.board_core.proofs.Order.ticket_inside plan l has.line, shows.sound.flags) in
      let parsed : is_parsed plan (after plan s (Read l x)) l ≡ true =
      get_or-set_at s.parsed t t true false refl ticket in
      let build : IsReady plan (after plan s (Read l x)) (Build l x) = record {
        next = record { line = has.line; phase = tree; drawn = has.drawn; next = has.count; left = has.left };
        parsed = parsed;
        needs = needs;
      } in
      record {
        events = Read l x ∷ Build l x ∷ [];
        ready = (read, (build, tt));
        shows = record {
          sound = step_sound plan (after plan s (Read l x)) (Build l x) flight sound_read build;
          counts = count_next s c l n shows has.line has.number;
          parsed = λ m line. flag_again s.parsed t (ticket_of plan m) ticket (shows.parsed m line);
          drawn = shows.drawn;
          least = shows.least;
        };
      }

  -- a row of a loop filter is filtered
  filter_leads : (s : CoreState) (c : Core) (n : ℕ) → Shows f c s → HasLine s c n → ¬ ((line_at f.sizes n).phase ≡ B)
      → AreCounted plan s (unit_needs plan (line_at f.sizes n) (counted_in c n))
      → Leads f s (record { counts = put c.counts n (counted_in c n + 1); drawn = c.drawn; least = c.least })
  filter_leads s c n shows has filter counted =
      let l : Line = line_at f.sizes n in
      let x : ℕ = counted_in c n in
      let one = one_unit plan l filter in
      let none : x ≡ 0 = omega (arith, one, has.left) in
      let ready : IsReady plan s (Filter l) = record {
        line = has.line;
        phase = filter;
        drawn = has.drawn;
        uncounted = sym has.count ∙ none;
        needs = subst (AreCounted plan s) (unit_needs_filter plan l x filter) counted;
      } in
      let next : 1 ≡ x + 1 = omega (arith, none) in
      let C : ℕ → List ℕ = λ v. slice_set s.counts (ticket_of plan l) v in
      record {
        events = Filter l ∷ [];
        ready = (ready, tt);
        shows = record {
          sound = step_sound plan s (Filter l) on.sized.flight shows.sound ready;
          counts = λ m line.
              ap (λ v. slice_index_or (C v) (ticket_of plan m) 0) next
              ∙ count_next s c l n shows has.line has.number m line;
          parsed = shows.parsed;
          drawn = shows.drawn;
          least = shows.least;
        };
      }

  -- a unit is found to be bad
  fault_leads : (s : CoreState) (c : Core) (n r : ℕ) → Shows f c s → HasLine s c n → (line_at f.sizes n).phase ≡ B
      → IsBad plan (unit_of plan (line_at f.sizes n) (counted_in c n)) → r < 32
      → AreCounted plan s (read_needs plan (line_at f.sizes n) (counted_in c n))
      → Leads f s (record {
        counts = c.counts;
        drawn = c.drawn;
        least = min c.least (packed (unit_of plan (line_at f.sizes n) (counted_in c n)) r);
      })
  fault_leads s c n r shows has tree bad few needs =
      let l : Line = line_at f.sizes n in
      let x : ℕ = counted_in c n in
      let u : ℕ = unit_of plan l x in
      let place : IsPlaceOf plan u l x = record { line = has.line; inside = has.left; unit = refl } in
      let ready : IsReady plan s (Fault u) = (bad, (l, x, place, readable s c n shows has tree needs)) in
      record {
        events = Fault u ∷ [];
        ready = (ready, tt);
        shows = record {
          sound = step_sound plan s (Fault u) on.sized.flight shows.sound ready;
          counts = shows.counts;
          parsed = shows.parsed;
          drawn = shows.drawn;
          least = ap (λ (o : Option ℕ). Some (lesser u o)) shows.least
              ∙ sym (least_after c.least u r (few_numbers plan f.sizes on.sized l x has.line has.left) few);
        };
      }

  draw_leads : (s : CoreState) (c : Core) → Shows f c s → c.drawn < lines f.sizes
      → Leads f s (record { counts = c.counts; drawn = c.drawn + 1; least = c.least })
  draw_leads s c shows less =
      let e = lines_are plan f.sizes on.sized in
      let d = shows.drawn in
      let ready : IsReady plan s Draw = omega (arith, e, d, less) in
      record {
        events = Draw ∷ [];
        ready = (ready, tt);
        shows = record {
          sound = step_sound plan s Draw on.sized.flight shows.sound ready;
          counts = shows.counts;
          parsed = shows.parsed;
          drawn = ap (λ (k : ℕ). k + 1) d;
          least = shows.least;
        };
      }

  -- each event of the board
  step_leads : (s : CoreState) (c : Core) (e : Step) → Shows f c s → IsTaken (meaning_of f) c e
      → Leads f s (stepped (meaning_of f) c e)
  unfolding meaning_of
  step_leads s c board.Draw shows taken = draw_leads s c shows taken
  step_leads s c (board.Count n) shows (next, sound, met) =
      let l : Line = line_at f.sizes n in
      let x : ℕ = counted_in c n in
      let has = has_line s c n shows next.0 next.1 next.2 in
      let counted : AreCounted plan s (unit_needs plan l x) =
      counted_met plan f.sizes on.sized s (counted_in c) shows.counts (unit_needs plan l x)
      (unit_lines plan l x has.line) met in
      elim (phase_cases l.phase) [
        | inl tree ↦
            build_leads s c n shows has tree (sound_is_good f on l x has.line has.left sound) counted
        | inr filter ↦ filter_leads s c n shows has filter counted
      ]
  step_leads s c (board.Fault n r) shows (next, bad, met) =
      let l : Line = line_at f.sizes n in
      let x : ℕ = counted_in c n in
      let has = has_line s c n shows next.0 next.1 next.2 in
      let at = told_at f n x r bad in
      fault_leads s c n r shows has (on.tells.phase l x r at.rule) (bad_is_told f on n x r bad)
      (on.tells.few l x r at.rule)
      (counted_met plan f.sizes on.sized s (counted_in c) shows.counts (read_needs plan l x)
      (above_lines plan l x has.line) met)

  -- and all of them
  steps_lead : (s : CoreState) (c : Core) (es : List Step) → Shows f c s → AllTaken (meaning_of f) c es
      → Leads f s (stepped_all (meaning_of f) c es)
  steps_lead s c [] shows taken = record { events = []; ready = tt; shows = shows }
  steps_lead s c (e ∷ es) shows taken =
      let first = step_leads s c e shows taken.0 in
      let t : CoreState = run plan s first.events in
      let rest = steps_lead t (stepped (meaning_of f) c e) es first.shows taken.1 in
      let same = run_append plan s first.events rest.events in
      record {
        events = first.events ++ rest.events;
        ready = ready_append plan s first.events rest.events first.ready rest.ready;
        shows = subst (Shows f (stepped_all (meaning_of f) (stepped (meaning_of f) c e) es)) (sym same) rest.shows;
      }

  first_shows : Shows f at_first (opening plan)
  first_shows =
      let sound = opening_sound plan in
      let start = λ (l : Line) (line : IsLine plan l). sound.not_drawn l line (omega arith) in
      record {
        sound = sound;
        counts = λ l line. (start l line).0;
        parsed = λ l line. (start l line).1;
        drawn = refl;
        least = refl;
      }

  pub reached_shows : (words : List ℕ) → IsReached (meaning_of f) words → ShowsState f words
  unfolding meaning_of
  reached_shows words reached =
      let leads = steps_lead (opening plan) at_first reached.events first_shows reached.ready in
      let e = lines_are plan f.sizes on.sized in
      record {
        events = leads.events;
        ready = leads.ready;
        counts = λ l line.
            leads.shows.counts l line
            ∙ reached.counts (line_number f.sizes l)
            (Rattle.flight_lines.proofs.Numbered.number_less plan f.sizes on.sized l line);
        parsed = leads.shows.parsed;
        drawn = leads.shows.drawn ∙ (reached.drawn ∙ ap (min (ticket_in (meaning_of f) words)) (sym e));
        least = leads.shows.least ∙ ap least_in reached.least;
      }
