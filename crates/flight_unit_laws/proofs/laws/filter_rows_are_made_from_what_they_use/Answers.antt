use Rattle.flight_unit_laws.proofs.Filtering.{horizontal_agrees, offset_agrees, vertical_agrees}
use Rattle.flight_unit_laws.proofs.laws.filter_rows_are_made_from_what_they_use.Goals as goal

pub returns-clause-vertical : goal.returns-clause-vertical
returns-clause-vertical c f planned k row p has g own = vertical_agrees f planned k row p has g own

pub returns-clause-horizontal : goal.returns-clause-horizontal
returns-clause-horizontal c f planned k row p has g own v before =
    horizontal_agrees f planned k row p has g own v before

pub returns-clause-offset : goal.returns-clause-offset
returns-clause-offset c f planned k row p has g own v before units =
    offset_agrees f planned k row p has g own v before units
