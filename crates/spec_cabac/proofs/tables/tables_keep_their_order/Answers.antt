use Rattle.spec_cabac.proofs.TableRules.{range_falls, range_grows, lps_lowers, mps_raises}
use Rattle.spec_cabac.proofs.tables.tables_keep_their_order.Goals as goal

pub returns : goal.returns
returns c = record { falls = range_falls; grows = range_grows; lps = lps_lowers; mps = mps_raises }
