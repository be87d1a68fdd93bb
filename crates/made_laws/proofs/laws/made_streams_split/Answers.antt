use Rattle.made_laws.proofs.Drawn.{rows_are}
use Rattle.made_laws.proofs.Units.{unit_small}
use Rattle.made_laws.proofs.Whole.{split_is, told_is}
use Rattle.made_laws.proofs.laws.made_streams_split.Goals as goal

pub returns : goal.returns
returns c = record {
  split = split_is;
  told = told_is;
  rows = λ g r m. (rows_are g m r).few;
  small = unit_small;
}
