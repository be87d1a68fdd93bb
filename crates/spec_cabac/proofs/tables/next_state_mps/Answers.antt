use Rattle.std.proofs.Common.{◌≡◌}
use Rattle.spec_cabac.specs.Contexts.{state_after_mps}
use Rattle.spec_cabac.proofs.TableRules.{state_after_mps_bound}
use Rattle.spec_cabac.proofs.tables.next_state_mps.Goals as goal

pub returns-clause-small : goal.returns-clause-small
unfolding state_after_mps
returns-clause-small c =
    let is : c.from.result ≡ state_after_mps c.args.state = c.from.ensures in
    rw is (state_after_mps_bound c.args.state c.requires)
