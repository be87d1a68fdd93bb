-- What a pass sees stays when it knows as much.
use Rattle.std.proofs.Common.{ap, sym, subst, ◌∙◌}
use Rattle.atomic_table.specs.Seated.{TableId}
use Rattle.sample_words.specs.declared.sizes.FlightSizes.{FlightSizes}
use Rattle.progress_words.specs.declared.pass.Pass.{Pass}
use Rattle.progress_words.specs.declared.view.View.{View}
use Rattle.progress_words.specs.Passes.{Knows, view}
use Rattle.progress_words.specs.Places.{Place}
use Rattle.sample_lines.specs.FactsOfFlights.{FlightFacts}
use Rattle.flight_windows.specs.Reading.{Sees}
use Rattle.flight_windows.specs.Seen.{AreFlagsSeen, SeenFlags}
use Rattle.flight_windows.specs.Windows.{IsKnown}

pub sees_still : (board : Place FlightFacts) (s : FlightSizes) (seen : SeenFlags) (p q : Pass FlightFacts)
    → Knows p q (view p) → Sees board s seen p → Sees board s seen q
sees_still board s seen p q knows sees = record {
  own = (knows.0 ∙ sees.own.0, ap (λ (v : View FlightFacts). v.facts) knows.1 ∙ sees.own.1);
  flight = sees.flight;
  rows = subst (λ (v : View FlightFacts). AreFlagsSeen s v seen) (sym knows.1) sees.rows;
}

pub known_still : (table : TableId) (v : View FlightFacts) (p q : Pass FlightFacts) → Knows p q (view p)
    → IsKnown table v p → IsKnown table v q
known_still table v p q knows known = (knows.0 ∙ known.0, knows.1 ∙ known.1)
