use Rattle.std.proofs.Common.{◌≡◌, ◌+◌, pos, ◌+ℤ◌, ◌-ℤ◌, arith, rules}
use Rattle.std.specs.Int.{int_shr}
use Rattle.block_geometry.specs.Rows.{row_of_line}
use Rattle.block_geometry.proofs.Rows.{taps_between}
use Rattle.block_geometry.proofs.reached_rows.needed_rows.Goals as goal

pub returns-clause-covers : goal.returns-clause-covers
returns-clause-covers c y tap low high few =
    let a = c.args in
    let between = taps_between a.height a.ctb_log2 a.y0 a.h y tap a.my low high few in
    let first : c.row_of-first.result ≡ row_of_line a.height a.ctb_log2 (pos a.y0 +ℤ int_shr a.my 2 -ℤ pos 3) =
    search rules in
    let last : c.row_of-last.result ≡ row_of_line a.height a.ctb_log2 (pos (a.y0 + a.h) +ℤ int_shr a.my 2 +ℤ pos 3) =
    search rules in
    (omega (arith, first, between.0), omega (arith, last, between.1))
