use Rattle.std.proofs.Common.{ℕ, ◌+◌, ◌-◌, ◌<◌, arith}
use Rattle.spec_sample_adaptive_offset.specs.Plane.{edge_sample}
use Rattle.sao_filter.specs.Row.{plane_of, samples_of, top}
use Rattle.sao_filter.proofs.Laid.{line_join}
use Rattle.sao_filter.proofs.edge.edge_line.Goals as goal

pub returns : goal.returns
returns c = λ offsets table.
    let row = c.args.row.now in
    let block = c.args.block in
    let f = λ (i : ℕ). edge_sample (plane_of row) (samples_of row c.args.lines.now) offsets c.args.edge.now.column
    c.args.edge.now.line i (top row + c.args.line) in
    let more : block.from + 1 < block.to = omega (arith, c.if-first-block.false, c.requires.block.some) in
    line_join row.width c.args.line block.from (block.to - 1) block.to c.edge_part-3.new.out c.edge_part-2.new.out
    c.args.out.now f (omega arith) (omega arith)
    (line_join row.width c.args.line block.from (block.from + 1) (block.to - 1) c.edge_part-2.new.out
    c.edge_part.new.out c.args.out.now f (omega arith) (omega arith)
    (c.edge_part.ensures offsets table) (c.edge_part-2.ensures offsets table))
    (c.edge_part-3.ensures offsets table)
