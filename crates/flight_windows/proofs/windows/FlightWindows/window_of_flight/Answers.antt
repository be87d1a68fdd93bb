use Rattle.std.proofs.Common.{rules, ◌≤◌, ◌+◌, ◌*◌, pos, ◌+ℤ◌, ◌∙◌, arith}
use Rattle.sample_lines.specs.FactsOfFlights.{flight_in}
use Rattle.flight_windows.proofs.Samples.{no_component}
use Rattle.flight_windows.proofs.windows.FlightWindows.window_of_flight.Goals as goal

pub returns-else-from-lt3-clause-value : goal.returns-else-from-lt3-clause-value
returns-else-from-lt3-clause-value g c = λ i j hi hj.
    let v = c.args.self.now in
    let past : 3 ≤ c.args.from.component = search rules in
    let size = c.requires.size in
    c.clear_window.ensures.value (72 * j + i) (omega (arith, size, hi, hj))
    ∙ no_component (flight_in v.facts) v.seen c.args.place v.sps.format c.args.from.component past
    (c.args.from.x +ℤ pos i) (c.args.from.y +ℤ pos j)
