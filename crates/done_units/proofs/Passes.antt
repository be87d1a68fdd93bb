-- A pass that goes on with writing the words of a unit.
use Rattle.std.proofs.Common.{◌≡◌, refl, ℕ, ◌+◌, arith, ap, sym, ◌∙◌, subst}
use Rattle.progress_words.specs.declared.pass.Pass.{Pass}
use Rattle.progress_words.specs.declared.view.View.{View}
use Rattle.progress_words.specs.Meanings.{Meaning}
use Rattle.progress_words.specs.Passes.{IsPassOf, Knows, view}
use Rattle.progress_words.specs.Places.{Place}
use Rattle.progress_words.specs.Rule.{IsNext}
use Rattle.progress_words.specs.Views.{counting, seen_of}
use Rattle.line_words.specs.Passes.{writing_run}
use Rattle.line_words.specs.Places.{UnitAt, number_at}
use Rattle.flight_waits.specs.FactsOfFlights.{FlightFacts}
use Rattle.flight_waits.specs.FactsOfFlights.{flight_meaning}
use Rattle.flight_waits.specs.FactsOfFlights.{flight_in}
use Rattle.done_units.specs.Writing.{HasWritten, IsWriting, written_to}

-- the next unit stays the next one
next_still : (m : Meaning) (v : View FlightFacts) (l n : ℕ) → IsNext m v l → IsNext m (written_to v n) l
next_still m v l n next =
    record { line = next.line; job = next.job; left = next.left; sound = next.sound; met = next.met }

module _ (b : Place FlightFacts) (u : UnitAt) where
  abbrev pub meaning : Meaning
  meaning = flight_meaning (flight_in b.flight)

  writes_on : (p q : Pass FlightFacts) (n m : ℕ) → IsWriting b p u n → Knows p q (written_to (view p) m)
      → IsWriting b q u m
  writes_on p q n m is knows = record {
    own = (knows.0 ∙ is.own.0, ap (λ (x : View FlightFacts). x.facts) knows.1 ∙ is.own.1);
    next = subst (λ (x : View FlightFacts). IsNext meaning x (number_at u)) (sym knows.1)
        (next_still meaning (view p) (number_at u) m is.next);
    unit = ap (λ (x : View FlightFacts). seen_of x (number_at u)) knows.1 ∙ is.unit;
    written = ap (λ (x : View FlightFacts). x.written) knows.1;
  }

  -- more words are written behind n
  pub has_written : (p q : Pass FlightFacts) (n count m : ℕ) → IsWriting b p u n
      → Knows p q (writing_run (view p) count) → m ≡ n + count → HasWritten b p q u m
  has_written p q n count m is knows at =
      let written = is.written in
      let e : (view p).written + count ≡ m = omega (arith, written, at) in
      let so : Knows p q (written_to (view p) m) = (knows.0, knows.1 ∙ ap (written_to (view p)) e) in
      record { writing = writes_on p q n m is so; knows = so }

  -- none are
  pub nothing_more : (p : Pass FlightFacts) (n : ℕ) → IsWriting b p u n → HasWritten b p p u n
  nothing_more p n is =
      record { writing = is; knows = (refl, λ i. record (view p) { written = is.written i }) }

  -- it has written up to n, and then up to m
  pub goes_on : (p q r : Pass FlightFacts) (n m : ℕ) → HasWritten b p q u n → HasWritten b q r u m
      → HasWritten b p r u m
  goes_on p q r n m first second = record {
    writing = second.writing;
    knows = (
      second.knows.0 ∙ first.knows.0,
      second.knows.1 ∙ ap (λ (x : View FlightFacts). written_to x m) first.knows.1,
    );
  }

  -- all words are written, where none was
  pub all_written : (p q : Pass FlightFacts) (m all : ℕ) → (view p).written ≡ 0 → HasWritten b p q u m → m ≡ all
      → Knows p q (writing_run (view p) all)
  all_written p q m all none has at =
      let e : m ≡ (view p).written + all = omega (arith, none, at) in
      (has.knows.0, has.knows.1 ∙ ap (written_to (view p)) e)

  -- a pass that has written none, and one that has written all
  pub starts : (p : Pass FlightFacts) → IsPassOf b p → IsNext meaning (view p) (number_at u)
      → seen_of (view p) (number_at u) ≡ u.unit → (view p).written ≡ 0 → IsWriting b p u 0
  starts p own next unit none = record { own = own; next = next; unit = unit; written = none }

  pub ends : (p q : Pass FlightFacts) (n : ℕ) → IsPassOf b p → IsNext meaning (view p) (number_at u)
      → seen_of (view p) (number_at u) ≡ u.unit → (view p).written ≡ 0 → Knows p q (writing_run (view p) n)
      → IsWriting b q u n
  ends p q n own next unit none knows =
      (has_written p q 0 n n (starts p own next unit none) knows (omega arith)).writing

-- what was written doesn't matter to what is counted
pub counted_then : (p q r : Pass FlightFacts) (n l count : ℕ) → Knows p q (writing_run (view p) n)
    → Knows q r (counting (view q) l count) → Knows p r (counting (view p) l count)
counted_then p q r n l count first second =
    (second.0 ∙ first.0, second.1 ∙ ap (λ (x : View FlightFacts). counting x l count) first.1)
