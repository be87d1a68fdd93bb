use Rattle.sample_laws.proofs.OutputBytes.{written_whole}
use Rattle.sample_laws.proofs.written.samples_in_range_go_out_whole.Goals as goal

pub returns : goal.returns
returns c = record { whole = λ d is below c x y. written_whole d.format c (d.samples c x y) is (below c x y) }
