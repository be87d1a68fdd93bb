use Rattle.std.proofs.Common.{rules, ◌≤◌, pos, ◌+ℤ◌, ◌∙◌}
use Rattle.sample_lines.specs.FactsOfFlights.{flight_in}
use Rattle.flight_windows.proofs.Samples.{no_component}
use Rattle.flight_windows.proofs.windows.FlightWindows.row_of_flight.Goals as goal

pub returns-else-component-lt3-clause-value : goal.returns-else-component-lt3-clause-value
returns-else-component-lt3-clause-value g c = λ k lt.
    let v = c.args.self.now in
    let past : 3 ≤ c.args.component = search rules in
    c.clear.ensures.value k lt
    ∙ no_component (flight_in v.facts) v.seen c.args.place v.sps.format c.args.component past (c.args.x +ℤ pos k)
    c.args.y
