use Rattle.spec_residuals.specs.SpecCabac.{bin_at}
use Rattle.spec_residuals.proofs.SpecFormatsLemmas.{agree, again}
use Rattle.spec_slice_data.specs.Tree.{unit_and_end}
use Rattle.spec_slice_data.proofs.laws.coding_tree_unit_is_spelled.Goals as goal

pub returns : goal.returns
returns c = record {
  read_as_spelled = λ syntax left above is_last ends_subset ctu. agree bin_at
      (unit_and_end syntax left above is_last ends_subset ctu);
  read_again = λ syntax left above is_last ends_subset ctu x words s t writes has. again bin_at
      (unit_and_end syntax left above is_last ends_subset ctu) x words s t writes has;
}
