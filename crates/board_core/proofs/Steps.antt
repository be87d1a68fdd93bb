-- Each event that is ready keeps a state sound.
use Rattle.std.proofs.Common.{ℕ, ◌≡◌, ◌+◌, ◌<◌, ◌≤◌, ◌⊎◌, Bool, true, false, List, [], ◌∷◌, Option, Some, None, inl}
use Rattle.std.proofs.Common.{inr, length, get_or, min, replicate, arith, refl, sym, ap, ◌∙◌, subst, IfSome}
use Rattle.std.proofs.Common.{slice_index_or, slice_set}
use Rattle.std.proofs.lemmas.Bool.{cases_lt, cases_order}
use Rattle.std.proofs.lemmas.List.{get_or-replicate, get_or-set_other, get_or_past, length-replicate, length-set}
use Rattle.std.proofs.lemmas.Grind.{get_or-set_at}
use Rattle.flight_plan.specs.Flight.{FlightRows, IsFlight, IsTreeUnit, PictureRows, picture_at}
use Rattle.hv_base.specs.declared.line.Line.{Line}
use Rattle.hv_base.specs.declared.line.Phase.{Phase}
use Rattle.hv_base.specs.declared.line.Phase.TheVariants.{B, V, H, S}
use Rattle.board_core.specs.declared.event.Event.{Event}
use Rattle.board_core.specs.declared.event.Event.TheVariants.{Draw, Read, Build, Filter, Fault}
use Rattle.board_core.specs.Places.{full_count, IsLine, lines_of, phase_units, ticket_of, unit_of}
use Rattle.board_core.specs.Needs.{read_needs, build_needs, filter_needs, unit_needs}
use Rattle.board_core.specs.States.{CoreState, opening, count_of, is_parsed, AreCounted, IsBad, IsBuildable}
use Rattle.board_core.specs.States.{IsFilterable, IsReady, lesser, after}
use Rattle.board_core.specs.Runs.{AllReady, IsSound, run}
use Rattle.board_core.proofs.Counting.{unit_needs_filter, unit_needs_tree}
use Rattle.board_core.proofs.Order.{same_ticket, ticket_inside}
use Rattle.board_core.proofs.Units.{filter_unit}

-- what is counted stays counted where no count falls
grown : (plan : FlightRows) (s t : CoreState) (needs : List (Line × ℕ))
    → ((l : Line) → count_of plan s l ≤ count_of plan t l)
    → AreCounted plan s needs → AreCounted plan t needs
grown plan s t needs grows all k d inside =
    let now = all k d inside in
    let more = grows (get_or needs k d).0 in
    omega (arith, now, more)

same_everywhere : {A : Type 0} → (n i : ℕ) (a : A) → get_or (replicate n a) i a ≡ a
same_everywhere n i a =
    elim (cases_lt i n) [
      | inl h ↦ get_or-replicate n i a a h
      | inr h ↦ get_or_past (replicate n a) i a (omega (arith, length-replicate n a))
    ]

-- the opening state is sound
pub opening_sound : (plan : FlightRows) → IsSound plan (opening plan)
opening_sound plan =
    let start : CoreState = opening plan in
    let none : (l : Line) → count_of plan start l ≡ 0 = λ l. same_everywhere (lines_of plan) (ticket_of plan l) 0 in
    let unset : (l : Line) → is_parsed plan start l ≡ false =
    λ l. same_everywhere (lines_of plan) (ticket_of plan l) false in
    let no_flag : (l : Line) → is_parsed plan start l ≡ true → ⊥ =
    λ l h. let e : false ≡ true = sym (unset l) ∙ h in cc in
    let no_unit : (l : Line) → (x : ℕ) → x < count_of plan start l → ⊥ = λ l x h. omega (arith, h, none l) in
    record {
      counts = length-replicate (lines_of plan) 0;
      flags = length-replicate (lines_of plan) false;
      drawn = omega arith;
      in_range = λ l line. omega (arith, none l);
      not_drawn = λ l line h. (none l, unset l);
      counted = λ l x line h. absurd (no_unit l x h);
      parsed_phase = λ l line h. absurd (no_flag l h);
      parsed_left = λ l line h. absurd (no_flag l h);
      parsed_good = λ l line h. absurd (no_flag l h);
      parsed_needs = λ l line h. absurd (no_flag l h);
      good = λ l x line h. absurd (no_unit l x h);
      fault = tt;
    }

pub draw_sound : (plan : FlightRows) (s : CoreState) → IsSound plan s → IsReady plan s Draw
    → IsSound plan (after plan s Draw)
draw_sound plan s sound ready =
    record {
      counts = sound.counts;
      flags = sound.flags;
      drawn = omega arith;
      in_range = sound.in_range;
      not_drawn = λ l line h. sound.not_drawn l line (omega arith);
      counted = sound.counted;
      parsed_phase = sound.parsed_phase;
      parsed_left = sound.parsed_left;
      parsed_good = sound.parsed_good;
      parsed_needs = sound.parsed_needs;
      good = sound.good;
      fault = sound.fault;
    }

-- after a unit of a line is parsed, a line is that line, or its flag is as before
flag_cases : (plan : FlightRows) (s : CoreState) (l m : Line) (b : Bool) → IsSound plan s → IsLine plan l
    → IsLine plan m
    → ((m ≡ l) × (slice_index_or (slice_set s.parsed (ticket_of plan l) b) (ticket_of plan m) false ≡ b))
    ⊎ ((ticket_of plan m ≡ ticket_of plan l → ⊥)
    × (slice_index_or (slice_set s.parsed (ticket_of plan l) b) (ticket_of plan m) false ≡ is_parsed plan s m))
flag_cases plan s l m b sound line_l line_m =
    let lt : ticket_of plan l < length s.parsed = omega (arith, ticket_inside plan l line_l, sound.flags) in
    elim (cases_order (ticket_of plan m) (ticket_of plan l)) [
      | inl same ↦
          inl (
            same_ticket plan m l line_m line_l same,
            get_or-set_at s.parsed (ticket_of plan l) (ticket_of plan m) b false same lt,
          )
      | inr other ↦
          let differ : ticket_of plan m ≡ ticket_of plan l → ⊥ =
          λ e. elim other [ inl h ↦ absurd (omega arith) | inr h ↦ absurd (omega arith) ] in
          inr (differ, get_or-set_other s.parsed (ticket_of plan l) (ticket_of plan m) b false differ)
    ]

pub count_cases : (plan : FlightRows) (s : CoreState) (l m : Line) (n : ℕ) → IsSound plan s → IsLine plan l
    → IsLine plan m
    → ((m ≡ l) × (slice_index_or (slice_set s.counts (ticket_of plan l) n) (ticket_of plan m) 0 ≡ n))
    ⊎ ((ticket_of plan m ≡ ticket_of plan l → ⊥)
    × (slice_index_or (slice_set s.counts (ticket_of plan l) n) (ticket_of plan m) 0 ≡ count_of plan s m))
count_cases plan s l m n sound line_l line_m =
    let lt : ticket_of plan l < length s.counts = omega (arith, ticket_inside plan l line_l, sound.counts) in
    elim (cases_order (ticket_of plan m) (ticket_of plan l)) [
      | inl same ↦
          inl (
            same_ticket plan m l line_m line_l same,
            get_or-set_at s.counts (ticket_of plan l) (ticket_of plan m) n 0 same lt,
          )
      | inr other ↦
          let differ : ticket_of plan m ≡ ticket_of plan l → ⊥ =
          λ e. elim other [ inl h ↦ absurd (omega arith) | inr h ↦ absurd (omega arith) ] in
          inr (differ, get_or-set_other s.counts (ticket_of plan l) (ticket_of plan m) n 0 differ)
    ]

read_sound : (plan : FlightRows) (s : CoreState) (l : Line) (x : ℕ) → IsSound plan s → IsReady plan s (Read l x)
    → IsSound plan (after plan s (Read l x))
read_sound plan s l x sound ready =
    let next = ready.0.next in
    let t : CoreState = after plan s (Read l x) in
    let flag = λ (m : Line) (line : IsLine plan m). flag_cases plan s l m true sound next.line line in
    let here : (m : Line) → m ≡ l → count_of plan s m ≡ x = λ m same. ap (count_of plan s) same ∙ sym next.next in
    record {
      counts = sound.counts;
      flags = length-set s.parsed (ticket_of plan l) true ∙ sound.flags;
      drawn = sound.drawn;
      in_range = sound.in_range;
      not_drawn = λ m line h. let before = sound.not_drawn m line h in
          elim (flag m line) [
            | inl (same, _) ↦ let e = ap (ticket_of plan) same in absurd (omega (arith, e, next.drawn, h))
            | inr (_, flag_is) ↦ (before.0, flag_is ∙ before.1)
          ];
      counted = sound.counted;
      parsed_phase = λ m line h.
          elim (flag m line) [
            | inl (same, _) ↦ ap (λ (k : Line). k.phase) same ∙ next.phase
            | inr (_, flag_is) ↦ sound.parsed_phase m line (sym flag_is ∙ h)
          ];
      parsed_left = λ m line h.
          elim (flag m line) [
            | inl (same, _) ↦ let e = here m same in let w = ap (full_count plan) same in omega (arith, e, w, next.left)
            | inr (_, flag_is) ↦ sound.parsed_left m line (sym flag_is ∙ h)
          ];
      parsed_good = λ m line h.
          elim (flag m line) [
            | inl (same, _) ↦
                let e : unit_of plan m (count_of plan s m) ≡ unit_of plan l x =
                ap (λ (k : Line). unit_of plan k (count_of plan s k)) same ∙ ap (unit_of plan l) (sym next.next) in
                λ bad. ready.1 (subst (IsBad plan) e bad)
            | inr (_, flag_is) ↦ sound.parsed_good m line (sym flag_is ∙ h)
          ];
      parsed_needs = λ m line h.
          elim (flag m line) [
            | inl (same, _) ↦
                let e : read_needs plan l x ≡ read_needs plan m (count_of plan s m) =
                ap (read_needs plan l) next.next
                ∙ sym (ap (λ (k : Line). read_needs plan k (count_of plan s k)) same) in
                subst (AreCounted plan s) e ready.0.needs
            | inr (_, flag_is) ↦ sound.parsed_needs m line (sym flag_is ∙ h)
          ];
      good = sound.good;
      fault = sound.fault;
    }

-- no count falls where a line's count grows
count_grows : (plan : FlightRows) (s : CoreState) (l : Line) (n : ℕ) → IsSound plan s → IsLine plan l
    → count_of plan s l ≤ n
    → (m : Line) → count_of plan s m ≤ slice_index_or (slice_set s.counts (ticket_of plan l) n) (ticket_of plan m) 0
count_grows plan s l n sound line more m =
    let lt : ticket_of plan l < length s.counts = omega (arith, ticket_inside plan l line, sound.counts) in
    elim (cases_order (ticket_of plan m) (ticket_of plan l)) [
      | inl same ↦ let now = get_or-set_at s.counts (ticket_of plan l) (ticket_of plan m) n 0 same lt in
          let was : count_of plan s m ≡ count_of plan s l = ap (λ t. get_or s.counts t 0) same in
          omega (arith, now, was, more)
      | inr other ↦
          let differ : ticket_of plan m ≡ ticket_of plan l → ⊥ =
          λ e. elim other [ inl h ↦ absurd (omega arith) | inr h ↦ absurd (omega arith) ] in
          let now = get_or-set_other s.counts (ticket_of plan l) (ticket_of plan m) n 0 differ in
          omega (arith, now)
    ]

build_sound : (plan : FlightRows) (s : CoreState) (l : Line) (x : ℕ) → IsSound plan s → IsReady plan s (Build l x)
    → IsSound plan (after plan s (Build l x))
build_sound plan s l x sound ready =
    let next = ready.next in
    let t : CoreState = after plan s (Build l x) in
    let grows = count_grows plan s l (x + 1) sound next.line (omega (arith, next.next)) in
    let flag = λ (m : Line) (line : IsLine plan m). flag_cases plan s l m false sound next.line line in
    let count = λ (m : Line) (line : IsLine plan m). count_cases plan s l m (x + 1) sound next.line line in
    let unflagged : (m : Line) → m ≡ l → is_parsed plan t m ≡ true → ⊥ = λ m same h.
    let line : IsLine plan m = subst (IsLine plan) (sym same) next.line in
    elim (flag m line) [
      | inl (_, flag_is) ↦ let e : false ≡ true = sym flag_is ∙ h in cc
      | inr (differ, _) ↦ differ (ap (ticket_of plan) same)
    ] in
    -- a parsed unit after the event is another line's, with flag and count as before
    let kept : (m : Line) → IsLine plan m → is_parsed plan t m ≡ true
    → (is_parsed plan s m ≡ true) × (count_of plan t m ≡ count_of plan s m) = λ m line h.
    elim (count m line) [
      | inl (same, _) ↦ absurd (unflagged m same h)
      | inr (differ, count_is) ↦
          elim (flag m line) [
            | inl (same, _) ↦ absurd (differ (ap (ticket_of plan) same))
            | inr (_, flag_is) ↦ (sym flag_is ∙ h, count_is)
          ]
    ] in
    record {
      counts = length-set s.counts (ticket_of plan l) (x + 1) ∙ sound.counts;
      flags = length-set s.parsed (ticket_of plan l) false ∙ sound.flags;
      drawn = sound.drawn;
      in_range = λ m line.
          elim (count m line) [
            | inl (same, count_is) ↦ let w = ap (full_count plan) same in omega (arith, count_is, w, next.left)
            | inr (_, count_is) ↦ omega (arith, count_is, sound.in_range m line)
          ];
      not_drawn = λ m line h. let before = sound.not_drawn m line h in
          elim (count m line) [
            | inl (same, _) ↦ let e = ap (ticket_of plan) same in absurd (omega (arith, e, next.drawn, h))
            | inr (differ, count_is) ↦
                elim (flag m line) [
                  | inl (same, _) ↦ absurd (differ (ap (ticket_of plan) same))
                  | inr (_, flag_is) ↦ (count_is ∙ before.0, flag_is ∙ before.1)
                ]
          ];
      counted = λ m y line h.
          elim (count m line) [
            | inl (same, count_is) ↦
                elim (cases_lt y x) [
                  | inl lower ↦ let e = ap (count_of plan s) same in
                      let lt : y < count_of plan s m = omega (arith, e, next.next, lower) in
                      grown plan s t (unit_needs plan m y) grows (sound.counted m y line lt)
                  | inr upper ↦ let e : x ≡ y = omega (arith, count_is, h, upper) in
                      let needs : build_needs plan l x ≡ unit_needs plan m y =
                      sym (unit_needs_tree plan l x next.phase)
                      ∙ (ap (unit_needs plan l) e ∙ ap (λ (k : Line). unit_needs plan k y) (sym same)) in
                      grown plan s t (unit_needs plan m y) grows (subst (AreCounted plan s) needs ready.needs)
                ]
            | inr (_, count_is) ↦ let lt : y < count_of plan s m = omega (arith, count_is, h) in
                grown plan s t (unit_needs plan m y) grows (sound.counted m y line lt)
          ];
      parsed_phase = λ m line h. sound.parsed_phase m line (kept m line h).0;
      parsed_left = λ m line h. let same = kept m line h in
          let left = sound.parsed_left m line same.0 in omega (arith, same.1, left);
      parsed_good = λ m line h. let same = kept m line h in
          let e : unit_of plan m (count_of plan t m) ≡ unit_of plan m (count_of plan s m) =
          ap (unit_of plan m) same.1 in
          λ bad. sound.parsed_good m line same.0 (subst (IsBad plan) e bad);
      parsed_needs = λ m line h. let same = kept m line h in
          let e : read_needs plan m (count_of plan s m) ≡ read_needs plan m (count_of plan t m) =
          ap (read_needs plan m) (sym same.1) in
          grown plan s t (read_needs plan m (count_of plan t m)) grows
          (subst (AreCounted plan s) e (sound.parsed_needs m line same.0));
      good = λ m y line h.
          elim (count m line) [
            | inl (same, count_is) ↦
                elim (cases_lt y x) [
                  | inl lower ↦ let e = ap (count_of plan s) same in
                      let lt : y < count_of plan s m = omega (arith, e, next.next, lower) in
                      sound.good m y line lt
                  | inr upper ↦ let e : y ≡ count_of plan s l = omega (arith, count_is, h, upper, next.next) in
                      let units : unit_of plan m y ≡ unit_of plan l (count_of plan s l) =
                      ap (λ (k : Line). unit_of plan k y) same ∙ ap (unit_of plan l) e in
                      λ bad. sound.parsed_good l next.line ready.parsed (subst (IsBad plan) units bad)
                ]
            | inr (_, count_is) ↦ let lt : y < count_of plan s m = omega (arith, count_is, h) in sound.good m y line lt
          ];
      fault = sound.fault;
    }

-- a line of another phase than B has one unit
one_of_phase : (phase : Phase) (picture : PictureRows) → ¬ (phase ≡ B) → phase_units phase picture ≡ 1
one_of_phase B picture filter = absurd (filter refl)
one_of_phase V picture filter = refl
one_of_phase H picture filter = refl
one_of_phase S picture filter = refl

pub one_unit : (plan : FlightRows) (l : Line) → ¬ (l.phase ≡ B) → full_count plan l ≡ 1
one_unit plan l filter = one_of_phase l.phase (picture_at plan l.picture) filter

-- that unit isn't bad
pub good_filter : (plan : FlightRows) (l : Line) (x : ℕ) → IsFlight plan → IsLine plan l → ¬ (l.phase ≡ B)
    → x < full_count plan l → ¬ IsBad plan (unit_of plan l x)
good_filter plan l x flight line filter inside = λ bad.
    let (k, lt, is) = bad in
    let tree : IsTreeUnit plan.pictures (unit_of plan l x) =
    subst (IsTreeUnit plan.pictures) is (flight.bad k (unit_of plan l x) lt) in
    filter_unit plan (unit_of plan l x) l x (record { line = line; inside = inside; unit = refl }) filter tree

filter_sound : (plan : FlightRows) (s : CoreState) (l : Line) → IsFlight plan → IsSound plan s
    → IsReady plan s (Filter l)
    → IsSound plan (after plan s (Filter l))
filter_sound plan s l flight sound ready =
    let t : CoreState = after plan s (Filter l) in
    let grows = count_grows plan s l 1 sound ready.line (omega (arith, ready.uncounted)) in
    let count = λ (m : Line) (line : IsLine plan m). count_cases plan s l m 1 sound ready.line line in
    let full = one_unit plan l ready.phase in
    -- a parsed unit is of another line, with its count as before
    let kept : (m : Line) → IsLine plan m → is_parsed plan s m ≡ true → count_of plan t m ≡ count_of plan s m =
    λ m line h.
    elim (count m line) [
      | inl (same, _) ↦ absurd (ready.phase (sym (ap (λ (k : Line). k.phase) same) ∙ sound.parsed_phase m line h))
      | inr (_, count_is) ↦ count_is
    ] in
    record {
      counts = length-set s.counts (ticket_of plan l) 1 ∙ sound.counts;
      flags = sound.flags;
      drawn = sound.drawn;
      in_range = λ m line.
          elim (count m line) [
            | inl (same, count_is) ↦ let w = ap (full_count plan) same in omega (arith, count_is, w, full)
            | inr (_, count_is) ↦ omega (arith, count_is, sound.in_range m line)
          ];
      not_drawn = λ m line h. let before = sound.not_drawn m line h in
          elim (count m line) [
            | inl (same, _) ↦ let e = ap (ticket_of plan) same in absurd (omega (arith, e, ready.drawn, h))
            | inr (_, count_is) ↦ (count_is ∙ before.0, before.1)
          ];
      counted = λ m y line h.
          elim (count m line) [
            | inl (same, _) ↦
                let needs : filter_needs plan l ≡ unit_needs plan m y =
                sym (unit_needs_filter plan l y ready.phase) ∙ ap (λ (k : Line). unit_needs plan k y) (sym same) in
                grown plan s t (unit_needs plan m y) grows (subst (AreCounted plan s) needs ready.needs)
            | inr (_, count_is) ↦ let lt : y < count_of plan s m = omega (arith, count_is, h) in
                grown plan s t (unit_needs plan m y) grows (sound.counted m y line lt)
          ];
      parsed_phase = sound.parsed_phase;
      parsed_left = λ m line h. let left = sound.parsed_left m line h in omega (arith, kept m line h, left);
      parsed_good = λ m line h.
          let e : unit_of plan m (count_of plan t m) ≡ unit_of plan m (count_of plan s m) =
          ap (unit_of plan m) (kept m line h) in
          λ bad. sound.parsed_good m line h (subst (IsBad plan) e bad);
      parsed_needs = λ m line h.
          let e : read_needs plan m (count_of plan s m) ≡ read_needs plan m (count_of plan t m) =
          ap (read_needs plan m) (sym (kept m line h)) in
          grown plan s t (read_needs plan m (count_of plan t m)) grows
          (subst (AreCounted plan s) e (sound.parsed_needs m line h));
      good = λ m y line h.
          elim (count m line) [
            | inl (same, count_is) ↦ let w = ap (full_count plan) same in
                let filter : ¬ (m.phase ≡ B) = λ tree. ready.phase (sym (ap (λ (k : Line). k.phase) same) ∙ tree) in
                good_filter plan m y flight line filter (omega (arith, count_is, h, w, full))
            | inr (_, count_is) ↦ let lt : y < count_of plan s m = omega (arith, count_is, h) in sound.good m y line lt
          ];
      fault = sound.fault;
    }

lesser_bad : (plan : FlightRows) (u : ℕ) (least : Option ℕ) → IsBad plan u → IfSome least (λ v. IsBad plan v)
    → IsBad plan (lesser u least)
lesser_bad plan u None bad all = bad
lesser_bad plan u (Some v) bad all =
    elim (cases_lt u v) [
      | inl h ↦ let e : u ≡ min u v = omega arith in subst (IsBad plan) e bad
      | inr h ↦ let e : v ≡ min u v = omega arith in subst (IsBad plan) e all
    ]

fault_sound : (plan : FlightRows) (s : CoreState) (u : ℕ) → IsSound plan s → IsReady plan s (Fault u)
    → IsSound plan (after plan s (Fault u))
fault_sound plan s u sound ready =
    record {
      counts = sound.counts;
      flags = sound.flags;
      drawn = sound.drawn;
      in_range = sound.in_range;
      not_drawn = sound.not_drawn;
      counted = sound.counted;
      parsed_phase = sound.parsed_phase;
      parsed_left = sound.parsed_left;
      parsed_good = sound.parsed_good;
      parsed_needs = sound.parsed_needs;
      good = sound.good;
      fault = lesser_bad plan u s.least ready.0 sound.fault;
    }

-- each event that is ready keeps a state sound
pub step_sound : (plan : FlightRows) (s : CoreState) (event : Event) → IsFlight plan → IsSound plan s
    → IsReady plan s event
    → IsSound plan (after plan s event)
step_sound plan s Draw flight sound ready = draw_sound plan s sound ready
step_sound plan s (Read l x) flight sound ready = read_sound plan s l x sound ready
step_sound plan s (Build l x) flight sound ready = build_sound plan s l x sound ready
step_sound plan s (Filter l) flight sound ready = filter_sound plan s l flight sound ready
step_sound plan s (Fault u) flight sound ready = fault_sound plan s u sound ready

-- so does a list of them
pub run_sound : (plan : FlightRows) (s : CoreState) (events : List Event) → IsFlight plan → IsSound plan s
    → AllReady plan s events
    → IsSound plan (run plan s events)
run_sound plan s [] flight sound ready = sound
run_sound plan s (event ∷ events) flight sound ready =
    run_sound plan (after plan s event) events flight (step_sound plan s event flight sound ready.0) ready.1

-- the same with what a step computes as numbers of their own
pub read_sound_at : (plan : FlightRows) (s : CoreState) (l : Line) (x t : ℕ) → t ≡ ticket_of plan l → IsSound plan s
    → IsReady plan s (Read l x)
    → IsSound plan (record { counts = s.counts; parsed = slice_set s.parsed t true; drawn = s.drawn; least = s.least })
read_sound_at plan s l x t e sound ready =
    let P : ℕ → Type 0 = λ t. IsSound plan
    (record { counts = s.counts; parsed = slice_set s.parsed t true; drawn = s.drawn; least = s.least }) in
    subst P (sym e) (read_sound plan s l x sound ready)

pub fault_sound_at : (plan : FlightRows) (s : CoreState) (u v : ℕ) → v ≡ lesser u s.least → IsSound plan s
    → IsReady plan s (Fault u)
    → IsSound plan (record { counts = s.counts; parsed = s.parsed; drawn = s.drawn; least = Some v })
fault_sound_at plan s u v e sound ready =
    let P : ℕ → Type 0 =
    λ v. IsSound plan (record { counts = s.counts; parsed = s.parsed; drawn = s.drawn; least = Some v }) in
    subst P (sym e) (fault_sound plan s u sound ready)

pub build_sound_at : (plan : FlightRows) (s : CoreState) (l : Line) (x t : ℕ) → t ≡ ticket_of plan l → IsSound plan s
    → IsBuildable plan s l x
    → IsSound plan
    (record {
      counts = slice_set s.counts t (x + 1);
      parsed = slice_set s.parsed t false;
      drawn = s.drawn;
      least = s.least;
    })
build_sound_at plan s l x t e sound ready =
    let P : ℕ → Type 0 = λ t. IsSound plan
    (record {
      counts = slice_set s.counts t (x + 1);
      parsed = slice_set s.parsed t false;
      drawn = s.drawn;
      least = s.least;
    }) in
    subst P (sym e) (build_sound plan s l x sound ready)

pub filter_sound_at : (plan : FlightRows) (s : CoreState) (l : Line) (t : ℕ) → t ≡ ticket_of plan l → IsFlight plan
    → IsSound plan s → IsFilterable plan s l
    → IsSound plan (record { counts = slice_set s.counts t 1; parsed = s.parsed; drawn = s.drawn; least = s.least })
filter_sound_at plan s l t e flight sound ready =
    let P : ℕ → Type 0 = λ t. IsSound plan
    (record { counts = slice_set s.counts t 1; parsed = s.parsed; drawn = s.drawn; least = s.least }) in
    subst P (sym e) (filter_sound plan s l flight sound ready)
