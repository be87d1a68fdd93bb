use Rattle.built_rows.proofs.Going.{goes_on}
use Rattle.built_rows.proofs.row.prepare_unit.Goals as goal

pub derive_next-requires-clause-own : goal.derive_next-requires-clause-own
derive_next-requires-clause-own g c = c.read_next.ensures.kept.own

pub reach_next-requires-clause-own : goal.reach_next-requires-clause-own
reach_next-requires-clause-own g c = c.derive_next.ensures.kept.own

pub returns-in-Ready-derive_next-clause-kept : goal.returns-in-Ready-derive_next-clause-kept
returns-in-Ready-derive_next-clause-kept g c =
    goes_on c.args.board.now c.args.picture.now c.args.pass.now c.derive_next.new.pass c.reach_next.new.pass
    c.derive_next.new.builder c.reach_next.new.builder
    (goes_on c.args.board.now c.args.picture.now c.args.pass.now c.read_next.new.pass c.derive_next.new.pass
    c.read_next.new.builder c.derive_next.new.builder c.read_next.ensures.kept c.derive_next.ensures.kept)
    c.reach_next.ensures.kept

pub returns-in-Stopped-derive_next-clause-kept : goal.returns-in-Stopped-derive_next-clause-kept
returns-in-Stopped-derive_next-clause-kept g c =
    goes_on c.args.board.now c.args.picture.now c.args.pass.now c.read_next.new.pass c.derive_next.new.pass
    c.read_next.new.builder c.derive_next.new.builder c.read_next.ensures.kept c.derive_next.ensures.kept
