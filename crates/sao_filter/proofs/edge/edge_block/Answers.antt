use Rattle.std.proofs.Common.{ℕ, ◌+◌}
use Rattle.spec_sample_adaptive_offset.specs.Plane.{edge_sample, first_column, first_line}
use Rattle.sao_filter.specs.Row.{plane_of, samples_of, top}
use Rattle.sao_filter.proofs.Edges.{renamed}
use Rattle.sao_filter.proofs.Laid.{lines_more}
use Rattle.sao_filter.proofs.edge.edge_block.Goals as goal

pub loop-line-preserved : goal.loop-line-preserved
loop-line-preserved c =
    let row = c.args.row.now in
    lines_more row.width c.loop-line.line c.args.block.from c.args.block.to c.edge_line.new.out
    c.loop-line.out c.args.out.now
    (λ (i j : ℕ). edge_sample (plane_of row) (samples_of row c.args.lines.now) c.args.offsets.now
    (first_column c.args.class) (first_line c.args.class) i (top row + j))
    (renamed row c.args.lines.now c.args.offsets.now c.loop-line.line c.args.block.from c.args.block.to
    c.first_column.result (first_column c.args.class) c.first_line.result (first_line c.args.class)
    c.loop-line.out c.edge_line.new.out
    c.first_column.ensures.value c.first_line.ensures.value
    (c.edge_line.ensures c.args.offsets.now c.edge_changes.ensures))
    c.loop-line.invariant
