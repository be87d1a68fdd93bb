use Rattle.made_rows.specs.Small.{before_words}
use Rattle.made_rows.proofs.Parts.{left_all, left_step, left_none}
use Rattle.made_rows.proofs.pcm_rows.append_from.Goals as goal

pub loop-k-init : goal.loop-k-init
loop-k-init c = (
  left_all c.args.units.now c.args.first c.args.n (before_words c.args.follows) c.args.row.now.items c.args.contexts,
  c.requires.contexts,
)

pub loop-k-preserved : goal.loop-k-preserved
loop-k-preserved c = (
  left_step c.args.units.now c.args.first c.loop-k.k c.args.n (before_words c.loop-k.after) c.loop-k.row.items
      c.loop-k.behind c.append_unit.new.row.items _ _ _ c.loop-k-test.true c.requires.inside
      c.in_ok-behind.ensures.bytes
      c.in_ok-behind.ensures.behind c.loop-k.invariant.0,
  c.in_ok-behind.ensures.small,
)

pub returns-clause-bytes : goal.returns-clause-bytes
returns-clause-bytes c =
    (left_none c.args.units.now c.args.first c.loop-k.k c.args.n (before_words c.loop-k.after) c.loop-k.row.items
    c.loop-k.behind _ _ c.loop-k-test.false c.loop-k.invariant.0).0

pub returns-clause-behind : goal.returns-clause-behind
returns-clause-behind c =
    (left_none c.args.units.now c.args.first c.loop-k.k c.args.n (before_words c.loop-k.after) c.loop-k.row.items
    c.loop-k.behind _ _ c.loop-k-test.false c.loop-k.invariant.0).1
