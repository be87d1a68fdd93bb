use Rattle.std.proofs.Common.{◌+◌}
use Rattle.spec_sample_adaptive_offset.specs.Plane.{edge_sample, first_column, first_line}
use Rattle.sao_filter.specs.Laying.{LaysLines}
use Rattle.sao_filter.specs.Row.{plane_of, samples_of, top}
use Rattle.sao_filter.proofs.edge.edge_block.Given as goal

abbrev pub invariant-loop-line : goal.invariant-loop-line
invariant-loop-line l =
    LaysLines l.row.width l.line l.block.from l.block.to
    (λ i j. edge_sample (plane_of l.row) (samples_of l.row l.lines) l.offsets (first_column l.class)
    (first_line l.class) i (top l.row + j))
    l.fn.out l.out
