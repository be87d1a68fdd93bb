use Rattle.std.proofs.Common.{◌<◌, ◌+◌, ℕ, length, arith}
use Rattle.spec_sample_adaptive_offset.specs.Offsets.{band_moved}
use Rattle.sao_filter.specs.Row.{at}
use Rattle.sao_filter.proofs.Laid.{one_more}
use Rattle.sao_filter.proofs.runs.band_run.Goals as goal

pub loop-k-preserved : goal.loop-k-preserved
loop-k-preserved c = λ position offsets table.
    let room : c.args.run.first + c.loop-k.k < length c.loop-k.out =
    omega (arith, c.requires.out, c.loop-k.auto.out, c.loop-k-test.true) in
    one_more c.args.run.first c.loop-k.k c.band_moved.result c.args.out.now c.loop-k.out
    (λ (k : ℕ). band_moved c.args.depth position offsets (at c.args.lines.now (c.args.run.from + k))) room
    (c.band_moved.ensures position offsets table) (c.loop-k.invariant position offsets table)
