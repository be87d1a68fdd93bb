use Rattle.std.specs.Prelude.{◌%◌, ◌==◌}
use Rattle.made_laws.proofs.Pictures.{facts_at}
use Rattle.made_laws.proofs.Sets.{picture_set, sequence_set}
use Rattle.made_laws.proofs.Slices.{header_is}
use Rattle.made_laws.proofs.laws.made_headers_read_back.Goals as goal

pub returns : goal.returns
returns c = record {
  sequence = sequence_set;
  picture = picture_set;
  slice = λ j nal m. header_is (j == 0) (j % 8) nal m (facts_at j);
}
