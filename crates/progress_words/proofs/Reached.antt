-- Which events a step is.
use Rattle.std.proofs.Common.{◌≡◌, ℕ, ◌+◌, ◌<◌, List, [], ◌∷◌, ◌++◌, length, get_or, set, min, Some, true}
use Rattle.std.proofs.Common.{refl, sym, ap, ◌∙◌, subst, arith, get_or-set_other, get_or-set_same}
use mathlib.Core.Logic.{dite}
use native.Mathlib.Decide.{ℕ_discrete, dec_le}
use Rattle.progress_words.specs.Meanings.{Meaning, first_data_word, fault_word, ticket_word, count_word}
use Rattle.progress_words.specs.Counts.{put}
use Rattle.progress_words.specs.Faults.{packed}
use Rattle.progress_words.specs.Core.{count_in, ticket_in, fault_in, AreMet, Core, Event, Draw, Count, Fault}
use Rattle.progress_words.specs.Core.{count_of}
use Rattle.progress_words.specs.Core.{HasNext, IsReady, after, run, AllReady, at_first, IsReached}
use Rattle.progress_words.proofs.Counts.{put_same, put_other}

run_more : (m : Meaning) (c : Core) (es : List Event) (e : Event) → run m c (es ++ e ∷ []) ≡ after m (run m c es) e
run_more m c [] e = refl
run_more m c (x ∷ es) e = run_more m (after m c x) es e

ready_more : (m : Meaning) (c : Core) (es : List Event) (e : Event) → AllReady m c es → IsReady m (run m c es) e
    → AllReady m c (es ++ e ∷ [])
ready_more m c [] e all ready = (ready, tt)
ready_more m c (x ∷ es) e all ready = (all.0, ready_more m (after m c x) es e all.1 ready)

module _ (m : Meaning) (words : List ℕ) (r : IsReached m words) where
  abbrev now : Core
  now = run m at_first r.events

  -- no count, no ticket and no fault changed
  pub reached_same : (ws : List ℕ) → ((y : ℕ) → y < first_data_word m → get_or ws y 0 ≡ get_or words y 0)
      → IsReached m ws
  reached_same ws same = record {
    events = r.events;
    ready = r.ready;
    counts = λ l inside. r.counts l inside ∙ sym (same (count_word l) (omega arith));
    drawn = r.drawn ∙ ap (λ (x : ℕ). min x m.lines) (sym (same (ticket_word m) (omega arith)));
    least = r.least ∙ sym (same (fault_word m) (omega arith));
  }

  -- a drawn line with a next unit
  has_next : (l : ℕ) → l < m.lines → m.ticket_of l < m.lines → m.ticket_of l < ticket_in m words
      → count_in words l < m.width l → HasNext m now l
  has_next l inside ticketed drawn left =
      let is = r.counts l inside in let d = r.drawn in (inside, omega arith, omega arith)

  -- what is counted in the words is counted in the core
  met_now : (l : ℕ) → l < m.lines → (needs : ℕ → List (ℕ × ℕ))
      → AreMet m (count_in words) (needs (count_in words l)) → AreMet m (count_of now) (needs (count_of now l))
  met_now l inside needs met =
      let n : ℕ = count_in words l in
      subst (λ (x : ℕ). AreMet m (count_of now) (needs x)) (sym (r.counts l inside)) (λ k e at. let p = met k e at in
      let same = r.counts (get_or (needs n) k e).0 p.0 in (p.0, omega arith))

  pub reached_count : (l : ℕ) → l < m.lines → fault_word m < length words → m.ticket_of l < m.lines
      → m.ticket_of l < ticket_in m words → count_in words l < m.width l → m.sound l (count_in words l) ≡ true
      → AreMet m (count_in words) (m.needs l (count_in words l))
      → IsReached m (set words (count_word l) (count_in words l + 1))
  reached_count l inside room ticketed drawn left sound met =
      let n : ℕ = count_in words l in let is = r.counts l inside in
      let ready : IsReady m now (Count l) = (
        has_next l inside ticketed drawn left,
        subst (λ (x : ℕ). m.sound l x ≡ true) (sym is) sound,
        met_now l inside (m.needs l) met,
      ) in
      let more = run_more m at_first r.events (Count l) in
      let here : get_or (set words (count_word l) (n + 1)) (count_word l) 0 ≡ n + 1 =
      get_or-set_same words (count_word l) (n + 1) 0 (omega arith) in
      record {
        events = r.events ++ Count l ∷ [];
        ready = ready_more m at_first r.events (Count l) r.ready ready;
        counts = λ j j_in. ap (λ (c : Core). count_of c j) more ∙
            dite (ℕ_discrete j l)
            (λ e. subst (λ (x : ℕ). get_or (put now.counts l (count_of now l + 1)) x 0 ≡ count_in (set words
            (count_word l) (n + 1)) x) (sym e)
            (put_same now.counts l (count_of now l + 1) ∙ (ap (λ (x : ℕ). x + 1) is ∙ sym here)))
            (λ ne. put_other now.counts l (count_of now l + 1) j ne ∙ (r.counts j j_in
            ∙ sym (get_or-set_other words (count_word l) (count_word j) (n + 1) 0 (λ e. ne (omega arith)))));
        drawn = ap (λ (c : Core). c.drawn) more ∙ (r.drawn ∙ ap (λ (x : ℕ). min x m.lines)
            (sym (get_or-set_other words (count_word l) (ticket_word m) (n + 1) 0 (λ e. omega arith))));
        least = ap (λ (c : Core). c.least) more ∙ (r.least
            ∙ sym (get_or-set_other words (count_word l) (fault_word m) (n + 1) 0 (λ e. omega arith)));
      }

  -- a ticket below the number of jobs is a draw, and another changes nothing
  pub reached_draw : ticket_word m < length words → IsReached m (set words (ticket_word m) (ticket_in m words + 1))
  reached_draw room =
      let t : ℕ = ticket_in m words in let ws : List ℕ = set words (ticket_word m) (t + 1) in let d = r.drawn in
      let here : ticket_in m ws ≡ t + 1 = get_or-set_same words (ticket_word m) (t + 1) 0 room in
      let lines : (l : ℕ) → l < m.lines → count_in ws l ≡ count_in words l =
      λ l inside. get_or-set_other words (ticket_word m) (count_word l) (t + 1) 0 (λ e. omega arith) in
      let fault : fault_in m ws ≡ fault_in m words =
      get_or-set_other words (ticket_word m) (fault_word m) (t + 1) 0 (λ e. omega arith) in
      dite (dec_le m.lines t)
      (λ late. record {
        events = r.events;
        ready = r.ready;
        counts = λ l inside. r.counts l inside
            ∙ sym (lines l inside);
        drawn = omega arith;
        least = r.least ∙ sym fault;
      })
      (λ early.
      let ready : IsReady m now Draw = omega arith in let more = run_more m at_first r.events Draw in
      let drawn = ap (λ (c : Core). c.drawn) more in
      record {
        events = r.events ++ Draw ∷ [];
        ready = ready_more m at_first r.events Draw r.ready ready;
        counts = λ l inside. ap (λ (c : Core). count_of c l) more ∙ (r.counts l inside ∙ sym (lines l inside));
        drawn = drawn ∙ omega arith;
        least = ap (λ (c : Core). c.least) more ∙ (r.least ∙ sym fault);
      })

  -- the next unit of a line is found to break a rule
  pub reached_fault : (l rule : ℕ) → l < m.lines → fault_word m < length words → m.ticket_of l < m.lines
      → m.ticket_of l < ticket_in m words → count_in words l < m.width l → m.bad l (count_in words l) ≡ Some rule
      → AreMet m (count_in words) (m.read_needs l (count_in words l))
      → IsReached m (set words (fault_word m) (min (fault_in m words) (packed (m.number l (count_in words l)) rule)))
  reached_fault l rule inside room ticketed drawn left bad met =
      let n : ℕ = count_in words l in let is = r.counts l inside in
      let x : ℕ = min (fault_in m words) (packed (m.number l n) rule) in
      let ready : IsReady m now (Fault l rule) = (
        has_next l inside ticketed drawn left,
        subst (λ (k : ℕ). m.bad l k ≡ Some rule) (sym is) bad,
        met_now l inside (m.read_needs l) met,
      ) in
      let more = run_more m at_first r.events (Fault l rule) in
      let here : fault_in m (set words (fault_word m) x) ≡ x = get_or-set_same words (fault_word m) x 0 room in
      let low : (y : ℕ) → y < fault_word m → get_or (set words (fault_word m) x) y 0 ≡ get_or words y 0 =
      λ y below. get_or-set_other words (fault_word m) y x 0 (λ e. omega arith) in
      record {
        events = r.events ++ Fault l rule ∷ [];
        ready = ready_more m at_first r.events (Fault l rule) r.ready ready;
        counts = λ j j_in. ap (λ (c : Core). count_of c j) more
            ∙ (r.counts j j_in ∙ sym (low (count_word j) (omega arith)));
        drawn = ap (λ (c : Core). c.drawn) more ∙ (r.drawn ∙ ap (λ (t : ℕ). min t m.lines)
            (sym (low (ticket_word m) (omega arith))));
        least = ap (λ (c : Core). c.least) more ∙ ((λ i. min (r.least i) (packed (m.number l (is i)) rule)) ∙ sym here);
      }
