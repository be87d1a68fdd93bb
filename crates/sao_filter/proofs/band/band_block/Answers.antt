use Rattle.std.proofs.Common.{ℕ, ◌+◌, ◌-◌, ◌*◌, arith}
use Rattle.std.specs.Prelude.{min}
use Rattle.spec_sample_adaptive_offset.specs.Offsets.{band_moved}
use Rattle.sao_filter.specs.Row.{samples_of, top}
use Rattle.sao_filter.proofs.Laid.{lines_more}
use Rattle.sao_filter.proofs.Rows.{line_laid, room}
use Rattle.sao_filter.proofs.band.band_block.Goals as goal

pub band_run-requires-clause-lines : goal.band_run-requires-clause-lines
band_run-requires-clause-lines c =
    let row = c.args.row.now in
    let r =
    room row.width (c.loop-line.line + c.args.block.skip)
    (min (row.size * row.row + row.size + 1) row.height - (row.size * row.row - 1)) c.args.block.to _
    (omega (arith, c.requires.row.begins, c.requires.block.lines, c.requires.block.skip, c.loop-line-test.true))
    c.requires.lines (omega (arith, c.requires.block.to)) in
    omega (arith, r, c.run_of.ensures.from, c.run_of.ensures.count)

pub band_run-requires-clause-out : goal.band_run-requires-clause-out
band_run-requires-clause-out c =
    let r =
    room c.args.row.now.width c.loop-line.line c.args.block.lines c.args.block.to _ c.loop-line-test.true c.requires.out
    (omega (arith, c.requires.block.to)) in
    omega (arith, r, c.run_of.ensures.first, c.run_of.ensures.count, c.loop-line.auto.out)

pub loop-line-preserved : goal.loop-line-preserved
loop-line-preserved c =
    let row = c.args.row.now in
    let block = c.args.block in
    let run = c.run_of.result in
    lines_more row.width c.loop-line.line block.from block.to c.band_run.new.out c.loop-line.out c.args.out.now
    (λ (i j : ℕ). band_moved row.depth c.args.position c.args.offsets.now
    (samples_of row c.args.lines.now i (top row + j)))
    (line_laid row c.args.lines.now c.loop-line.line block.skip block.from block.to run.from run.first run.count
    c.band_run.new.out c.loop-line.out (λ (v : ℕ). band_moved row.depth c.args.position c.args.offsets.now v)
    c.run_of.ensures.from c.run_of.ensures.first c.run_of.ensures.count (omega (arith, c.requires.block.to))
    c.requires.block.skip (c.band_run.ensures c.args.position c.args.offsets.now c.band_changes-table.ensures
    c.band_moves-moves.ensures.moves))
    c.loop-line.invariant
