use Rattle.std.proofs.Common.{◌%◌, refl, rules, arith}
use Rattle.made_pictures.proofs.Drawing.{sampled_step, sampled_none}
use Rattle.made_pictures.proofs.draws.samples.Goals as goal

pub loop-i-preserved : goal.loop-i-preserved
loop-i-preserved c =
    sampled_step c.loop-i.i _ c.loop-i.generator c.next_word.new.self c.loop-i.samples (c.next_word.result % 256)
    c.next_word.result c.loop-i-test.true (search rules) (search rules) refl (search rules) c.loop-i.invariant

pub returns-clause-value : goal.returns-clause-value
returns-clause-value c =
    (sampled_none c.loop-i.i c.args.generator.now c.loop-i.generator c.loop-i.samples
    (omega (arith, c.loop-i-test.false, c.loop-i.auto.i-end)) c.loop-i.invariant).0

pub returns-clause-behind : goal.returns-clause-behind
returns-clause-behind c =
    (sampled_none c.loop-i.i c.args.generator.now c.loop-i.generator c.loop-i.samples
    (omega (arith, c.loop-i-test.false, c.loop-i.auto.i-end)) c.loop-i.invariant).1
