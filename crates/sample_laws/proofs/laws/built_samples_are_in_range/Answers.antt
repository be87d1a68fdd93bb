use Rattle.sample_laws.proofs.Pictures.{built_below, whole_below}
use Rattle.sample_laws.proofs.Units.{unit_in_range}
use Rattle.sample_laws.proofs.laws.built_samples_are_in_range.Goals as goal

pub returns : goal.returns
returns c = record {
  unit = λ format inter items known fits has ranged. unit_in_range format fits inter items known has ranged;
  picture = λ buffer p units fits filled. built_below p fits buffer units filled;
  whole = λ buffer p built sps is. whole_below buffer p sps built is;
}
