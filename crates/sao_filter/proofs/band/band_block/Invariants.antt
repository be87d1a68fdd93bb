use Rattle.std.proofs.Common.{◌+◌}
use Rattle.spec_sample_adaptive_offset.specs.Offsets.{band_moved}
use Rattle.sao_filter.specs.Laying.{LaysLines}
use Rattle.sao_filter.specs.Row.{samples_of, top}
use Rattle.sao_filter.proofs.band.band_block.Given as goal

abbrev pub invariant-loop-line : goal.invariant-loop-line
invariant-loop-line l =
    LaysLines l.row.width l.line l.block.from l.block.to
    (λ i j. band_moved l.row.depth l.position l.offsets (samples_of l.row l.lines i (top l.row + j))) l.fn.out l.out
