use Rattle.flight_lines.specs.Flights.{meaning_of}
use Rattle.flight_lines.proofs.Numbered.{number_is, number_line}
use Rattle.flight_lines.proofs.Placed.{count_place, data_place, fault_place, ticket_place, unit_place}
use Rattle.flight_lines.proofs.laws.words_have_one_layout.Goals as goal

pub returns-clause-counts : goal.returns-clause-counts
returns-clause-counts c = count_place

pub returns-clause-ticket : goal.returns-clause-ticket
returns-clause-ticket c = ticket_place

pub returns-clause-fault : goal.returns-clause-fault
returns-clause-fault c = fault_place

pub returns-clause-data : goal.returns-clause-data
returns-clause-data c = data_place

pub returns-clause-units : goal.returns-clause-units
returns-clause-units c = λ f u sized is. unit_place f u sized is

pub returns-clause-lines : goal.returns-clause-lines
returns-clause-lines c = λ plan s l sized line. number_line plan s sized l line

pub returns-clause-numbers : goal.returns-clause-numbers
unfolding meaning_of
returns-clause-numbers c = λ f n sized less. number_is f.plan f.sizes sized n less
