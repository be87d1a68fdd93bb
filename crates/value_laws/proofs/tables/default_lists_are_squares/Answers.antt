use Rattle.std.proofs.Common.{refl}
use Rattle.block_geometry.specs.Scans.{scan_order}
use Rattle.spec_parameter_sets.specs.Scaling.{default_factors}
use Rattle.value_laws.specs.Tables.{in_diagonals, inter_square, intra_square}
use Rattle.value_laws.proofs.tables.default_lists_are_squares.Goals as goal

pub returns-clause-intra : goal.returns-clause-intra
unfolding scan_order default_factors in_diagonals inter_square intra_square
returns-clause-intra c = refl

pub returns-clause-inter : goal.returns-clause-inter
unfolding scan_order default_factors in_diagonals inter_square intra_square
returns-clause-inter c = refl
