use Rattle.flight_waits.proofs.Frames.{filter_same, range_same, read_same, rows_same}
use Rattle.flight_waits.proofs.laws.frames_need_what_their_flights_need.Goals as goal

pub returns-clause-read : goal.returns-clause-read
returns-clause-read c = read_same

pub returns-clause-filter : goal.returns-clause-filter
returns-clause-filter c = filter_same

pub returns-clause-rows : goal.returns-clause-rows
returns-clause-rows c = rows_same

pub returns-clause-range : goal.returns-clause-range
returns-clause-range c = range_same
