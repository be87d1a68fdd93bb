use Rattle.made_stream_laws.proofs.Plans.{all_read, each_read}
use Rattle.made_stream_laws.proofs.laws.made_streams_hold_their_units.Goals as goal

pub returns-clause-each : goal.returns-clause-each
returns-clause-each c = each_read

pub returns-clause-all : goal.returns-clause-all
returns-clause-all c = all_read
