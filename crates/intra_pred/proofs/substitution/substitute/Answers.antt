use Rattle.std.proofs.Common.{◌≡◌, ◌<◌, length, arith}
use Rattle.intra_pred.proofs.Substituting.{following_more, following_over}
use Rattle.intra_pred.proofs.substitution.substitute.Goals as goal

pub loop-k-preserved : goal.loop-k-preserved
loop-k-preserved c =
    let room : c.loop-k.k < length c.loop-k.samples =
    omega (arith, c.loop-k-test.true, c.loop-k.auto.samples, c.requires.room) in
    following_more c.loop-k.former c.loop-k.k _ c.loop-k.samples _ c.args.neighbours.now _ c.loop-k-test.true room
    c.sample_or-former.ensures c.loop-k.invariant

pub returns : goal.returns
returns c =
    let all : c.loop-k.k ≡ length c.args.neighbours.now = omega (arith, c.loop-k-test.false, c.loop-k.auto.k-end) in
    rw all at
    (following_over c.loop-k.former c.loop-k.k c.loop-k.samples _ c.args.neighbours.now
    c.loop-k-test.false c.loop-k.invariant)
