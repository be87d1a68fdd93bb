use Rattle.spec_formats.specs.Format.{One}
use Rattle.spec_written_headers.proofs.Replay.{read_back}
use Rattle.spec_written_headers.proofs.laws.fields_read_back.Goals as goal

pub returns : goal.returns
returns c = λ rules field. read_back rules (One field)
