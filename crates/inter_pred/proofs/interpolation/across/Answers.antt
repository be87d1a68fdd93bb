use Rattle.std.proofs.Common.{◌+◌, pos}
use Rattle.inter_pred.proofs.Bases.{lowered}
use Rattle.inter_pred.specs.Passes.{at, across, filter}
use Rattle.inter_pred.proofs.interpolation.across.Goals as goal

pub returns-clause-value : goal.returns-clause-value
unfolding across
returns-clause-value g c =
    lowered 6144 c.line_sum.result (filter g.row.TAPS g.row.Q (λ i. pos (at c.args.window.now (c.args.start + i))))
    c.line_sum.ensures.value
