-- A pass that waits more than once.
use Rattle.std.proofs.Common.{ℕ, arith, ap, refl, ◌∙◌}
use Rattle.progress_words.specs.declared.pass.Pass.{Pass}
use Rattle.progress_words.specs.declared.view.View.{View}
use Rattle.progress_words.specs.Passes.{IsPassOf, view}
use Rattle.progress_words.specs.Places.{Place}
use Rattle.line_words.specs.Places.{UnitAt, number_at}
use Rattle.flight_waits.specs.FactsOfFlights.{FlightFacts}
use Rattle.flight_waits.specs.Waits.{AreAllKnown, HasWaited, HoldsUnit}
use Rattle.flight_windows.specs.Seen.{SeenFlags}
use Rattle.row_waits.specs.declared.picture_view.PictureView.{PictureView}
use Rattle.row_waits.specs.Seen.{HasSeenFlags, HasLookedAround, MayWait}

module _ {F : Type 0} where
  pub not_waited : (v : View F) (line : ℕ) → HasWaited v line v
  not_waited v line = record { same = refl; more = λ l. omega arith; own = refl }

  pub waited_on : (v w x : View F) (line : ℕ) → HasWaited v line w → HasWaited w line x → HasWaited v line x
  waited_on v w x line first second = record {
    same = second.same
        ∙ (λ i.
        record (first.same i) { seen = x.seen; loads = x.loads; least = x.least; fault_loads = x.fault_loads });
    more = λ l. let a = first.more l in let b = second.more l in omega (arith, a, b);
    own = second.own ∙ first.own;
  }

  -- it holds the unit that it held
  pub still_holds : (v w : View F) (at : UnitAt) → HasWaited v (number_at at) w → HoldsUnit v at → HoldsUnit w at
  still_holds v w at waited holds = record {
    job = ap (λ (u : View F). u.job) waited.same ∙ holds.job;
    next = waited.own ∙ holds.next;
  }

module _ (board : Place FlightFacts) (picture : PictureView) (at : UnitAt) where
  -- it may wait again
  pub may_again : (before after : Pass FlightFacts) (old new : SeenFlags) → MayWait board picture at before old
      → IsPassOf board after → AreAllKnown board.flight (view after)
      → HasSeenFlags picture.layout.now (view after) new → MayWait board picture at after new
  may_again before after old new may own known sees =
      record { own = own; flight = may.flight; unit = may.unit; known = known; sees = sees }

module _ (at : UnitAt) where
  pub not_looked : (pass : Pass FlightFacts) (seen : SeenFlags) → HasLookedAround at pass pass seen seen
  not_looked pass seen = record { waited = not_waited (view pass) (number_at at); more = λ j row is. is }

  pub looked_on : (first second third : Pass FlightFacts) (a b c : SeenFlags)
      → HasLookedAround at first second a b → HasLookedAround at second third b c
      → HasLookedAround at first third a c
  looked_on first second third a b c before after = record {
    waited = waited_on (view first) (view second) (view third) (number_at at) before.waited after.waited;
    more = λ j row is. after.more j row (before.more j row is);
  }
