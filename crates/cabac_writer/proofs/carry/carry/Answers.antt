use Rattle.std.proofs.Common.{arith, ◌-◌, ◌∙◌, length-set, rules}
use Rattle.cabac_writer.proofs.Bytes.{carried_on, raised_there}
use Rattle.cabac_writer.proofs.carry.carry.Goals as goal

pub returns-then-byte-lt255-clause-number : goal.returns-then-byte-lt255-clause-number
returns-then-byte-lt255-clause-number c =
    raised_there c.loop-at.bytes.items c.loop-at.at _ _ c.index-byte.result.now c.loop-at.invariant.1
    c.loop-at-test.true c.loop-at.invariant.0 c.index-byte.ensures c.if-byte-lt255.true c.loop-at.invariant.2

pub loop-at-preserved : goal.loop-at-preserved
loop-at-preserved c = (
  omega (arith, length-set c.loop-at.bytes.items (c.loop-at.at - 1) 0, c.loop-at.invariant.0),
  length-set c.loop-at.bytes.items (c.loop-at.at - 1) 0 ∙ c.loop-at.invariant.1,
  carried_on c.loop-at.bytes.items c.loop-at.at _ _ c.index-byte.result.now c.loop-at.invariant.1
      c.loop-at-test.true c.loop-at.invariant.0 c.index-byte.ensures (omega (arith, c.if-byte-lt255.false)) (search
      rules)
      c.loop-at.invariant.2,
  search rules,
  search rules,
)
