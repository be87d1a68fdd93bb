use Rattle.spec_formats.specs.Format.{One}
use Rattle.spec_formats.proofs.Agreement.{agree, again}
use Rattle.spec_cabac.specs.Bins.{bin_at, exp_golomb, fixed}
use Rattle.spec_cabac.proofs.laws.bins_are_spelled.Goals as goal

pub returns : goal.returns
returns c = record {
  read_as_spelled = λ bin. agree bin_at (One bin);
  read_again = λ bin x words s t w has. again bin_at (One bin) x words s t w has;
  fixed = λ n. agree bin_at (fixed n);
  exp_golomb = λ e k. agree bin_at (exp_golomb e k);
}
