use Rattle.made_laws.proofs.Drawn.{rows_are}
use Rattle.made_laws.proofs.Slices.{offset_is}
use Rattle.made_laws.proofs.Units.{ranges_cut, rows_cut}
use Rattle.made_laws.specs.Streams.{picture_at}
use Rattle.made_laws.proofs.laws.made_entry_points_cut.Goals as goal

pub returns : goal.returns
returns c = record {
  rows = rows_cut;
  ranges = ranges_cut;
  offsets = λ g r m. offset_is ((picture_at g m).row r) (rows_are g m r);
}
