use Rattle.flight_laws.proofs.Stops.{all_answer, bytes_stay, call_stops, framing_stays, give_nothing, units_stay}
use Rattle.flight_laws.proofs.laws.stops_are_for_good.Goals as goal

pub returns : goal.returns
returns c = record {
  framing = framing_stays;
  framer = all_answer;
  planning = bytes_stay;
  units = units_stay;
  stops = call_stops;
  planner = give_nothing;
}
