use Rattle.spec_nal_units.proofs.Streams.{found, only_so}
use Rattle.spec_nal_units.proofs.laws.streams_split_as_written.Goals as goal

pub returns : goal.returns
returns c = record { found = found; only = only_so }
