use Rattle.std.proofs.Common.{rules}
use Rattle.spec_made.specs.Draws.{pcm_unit_of}
use Rattle.made_pictures.proofs.Drawing.{left_step, left_none}
use Rattle.made_pictures.proofs.draws.pcm_units.Goals as goal

pub loop-i-preserved : goal.loop-i-preserved
loop-i-preserved c =
    left_step pcm_unit_of 48 c.loop-i.i c.args.generator.now c.loop-i.generator c.pcm_unit.new.generator
    c.loop-i.units.items c.push.new.self.items c.pcm_unit.result c.loop-i-test.true c.pcm_unit.ensures.value
    c.pcm_unit.ensures.behind (search rules) c.loop-i.invariant

pub returns-clause-value : goal.returns-clause-value
returns-clause-value c =
    (left_none pcm_unit_of 48 c.loop-i.i c.args.generator.now c.loop-i.generator c.loop-i.units.items
    c.loop-i-test.false c.loop-i.invariant).0

pub returns-clause-behind : goal.returns-clause-behind
returns-clause-behind c =
    (left_none pcm_unit_of 48 c.loop-i.i c.args.generator.now c.loop-i.generator c.loop-i.units.items
    c.loop-i-test.false c.loop-i.invariant).1
