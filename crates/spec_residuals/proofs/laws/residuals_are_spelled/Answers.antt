use Rattle.spec_cabac.proofs.SpecFormatsLemmas.{agree, again}
use Rattle.spec_cabac.specs.Bins.{bin_at}
use Rattle.spec_residuals.specs.Residual.{residual_coding}
use Rattle.spec_residuals.proofs.laws.residuals_are_spelled.Goals as goal

pub returns : goal.returns
returns c = record {
  read_as_spelled = λ block. agree bin_at (residual_coding block);
  read_again = λ block x words s t w has. again bin_at (residual_coding block) x words s t w has;
}
