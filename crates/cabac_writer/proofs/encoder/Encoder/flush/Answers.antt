use Rattle.std.proofs.Common.{refl, rules}
use Rattle.cabac_writer.proofs.Held.{tail_fits}
use Rattle.cabac_writer.proofs.Flushed.{flushed_whole, all_bins, open_bins}
use Rattle.cabac_writer.proofs.Substreams.{substreams_law}
use Rattle.cabac_writer.proofs.encoder.Encoder.flush.Goals as goal

pub overflow_cast-tail : goal.overflow_cast-tail
overflow_cast-tail c =
    tail_fits c.args.self.low c.args.self.count c.args.self.held.small c.args.self.held.few c.args.self.held.many

pub returns-in_err-push-clause-substreams_read_back : goal.returns-in_err-push-clause-substreams_read_back
returns-in_err-push-clause-substreams_read_back c = substreams_law

pub returns-in_err-push-2-clause-substreams_read_back : goal.returns-in_err-push-2-clause-substreams_read_back
returns-in_err-push-2-clause-substreams_read_back c = substreams_law

pub returns-clause-value : goal.returns-clause-value
returns-clause-value c =
    flushed_whole c.args.self.bytes.items c.push-2.new.self.items c.args.self.range c.args.self.low c.args.self.count _
    c.args.self.held refl
    (search rules)

pub returns-clause-bins_read_back : goal.returns-clause-bins_read_back
returns-clause-bins_read_back c = all_bins _ _ (returns-clause-value c)

pub returns-clause-open_bins_read_back : goal.returns-clause-open_bins_read_back
returns-clause-open_bins_read_back c = open_bins _ _ (returns-clause-value c)

pub returns-clause-substreams_read_back : goal.returns-clause-substreams_read_back
returns-clause-substreams_read_back c = substreams_law
