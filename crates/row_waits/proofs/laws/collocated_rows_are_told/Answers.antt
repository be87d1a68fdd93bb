use Rattle.row_waits.proofs.CollocatedRows.{collocated_earlier, collocated_is, row_counted, row_sound}
use Rattle.row_waits.proofs.laws.collocated_rows_are_told.Goals as goal

pub returns-clause-picture : goal.returns-clause-picture
returns-clause-picture c = collocated_is

pub returns-clause-earlier : goal.returns-clause-earlier
returns-clause-earlier c = collocated_earlier

pub returns-clause-counted : goal.returns-clause-counted
returns-clause-counted c = row_counted

pub returns-clause-sound : goal.returns-clause-sound
returns-clause-sound c = row_sound
