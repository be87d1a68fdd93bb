use Rattle.made_decoding_laws.proofs.Bytes.{shown_bytes, stream_bytes}
use Rattle.made_decoding_laws.proofs.laws.made_streams_are_written.Goals as goal

pub returns-clause-picture : goal.returns-clause-picture
returns-clause-picture c = shown_bytes

pub returns-clause-bytes : goal.returns-clause-bytes
returns-clause-bytes c = stream_bytes
