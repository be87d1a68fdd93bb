-- The quarters of a square in reading order.
use Rattle.ctu_records.specs.declared.item.Square.{Square}
use Rattle.ctu_records.specs.Tree.{Ctu}
use Rattle.residual_syntax.specs.SpecCabac.{Tree}
use Rattle.residual_syntax.specs.SpecFormats.{◌>>=◌}
use Rattle.spec_slice_data.specs.Modes.{upper_left, upper_right, lower_left, lower_right}

-- a tree for each quarter of a square, each on what the one before it gave
abbrev pub in_quarters : (Square → Ctu → Tree Ctu) → Square → Ctu → Tree Ctu
in_quarters quarter square ctu = do
  first ← quarter (upper_left square) ctu
  second ← quarter (upper_right square) first
  third ← quarter (lower_left square) second
  quarter (lower_right square) third
