use Rattle.std.proofs.Common.{◌≡◌}
use Rattle.spec_cabac.specs.Contexts.{lps_range_of}
use Rattle.spec_cabac.proofs.TableRules.{lps_range_bounds}
use Rattle.spec_cabac.proofs.tables.lps_range.Goals as goal

pub returns-clause-least : goal.returns-clause-least
unfolding lps_range_of
returns-clause-least c =
    let is : c.from.result ≡ lps_range_of c.args.state c.args.range = c.from.ensures in
    rw is (lps_range_bounds c.args.state c.args.range c.requires.state).least

pub returns-clause-greatest : goal.returns-clause-greatest
unfolding lps_range_of
returns-clause-greatest c =
    let is : c.from.result ≡ lps_range_of c.args.state c.args.range = c.from.ensures in
    rw is (lps_range_bounds c.args.state c.args.range c.requires.state).greatest
