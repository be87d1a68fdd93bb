use Rattle.flight_windows.proofs.Staying.{later_seen, more_seen, none_seen}
use Rattle.flight_windows.proofs.laws.seen_rows_stay_seen.Goals as goal

pub returns-clause-none : goal.returns-clause-none
returns-clause-none c = λ s v seen none. none_seen s v seen none

pub returns-clause-later : goal.returns-clause-later
returns-clause-later c = λ s v w seen more rows. later_seen s v w seen more rows

pub returns-clause-more : goal.returns-clause-more
returns-clause-more c = λ s v seen now j row rows line here told. more_seen s v seen now j row rows line here told
