use Rattle.std.proofs.Common.{refl}
use Rattle.spec_deblocking.specs.Thresholds.{mean_qp, edge_qp, beta, tc}
use Rattle.spec_deblocking.specs.Decisions.{d_sam, luma_filter, edge_filter}
use Rattle.spec_deblocking.specs.Filters.{held, strong, filtered}
use Rattle.spec_deblocking.specs.Planes.{filtered_line}
use Rattle.spec_deblocking.specs.Step.{step_place, step_sample, smoothed}
use Rattle.spec_deblocking.proofs.laws.step_is_smoothed.Goals as goal

pub returns-clause-beta : goal.returns-clause-beta
unfolding mean_qp beta step_place
returns-clause-beta c = refl

pub returns-clause-tc : goal.returns-clause-tc
unfolding mean_qp edge_qp tc step_place
returns-clause-tc c = refl

pub returns-clause-line : goal.returns-clause-line
unfolding mean_qp edge_qp beta tc d_sam luma_filter edge_filter held strong filtered filtered_line step_place
    step_sample smoothed
returns-clause-line c = refl
