use Rattle.std.proofs.Common.{sym, ◌∙◌}
use Rattle.intra_pred.proofs.Substituting.{first_here, first_later, first_over}
use Rattle.intra_pred.proofs.substitution.first_available.Goals as goal

pub returns-in-Some : goal.returns-in-Some
returns-in-Some c =
    sym (first_here c.args.otherwise c.loop-k.k c.in-Some.value c.args.neighbours.now _ c.loop-k-test.true c.in-Some.is)
    ∙ c.loop-k.invariant

pub loop-k-preserved : goal.loop-k-preserved
loop-k-preserved c =
    sym (first_later c.args.otherwise c.loop-k.k c.args.neighbours.now _ c.loop-k-test.true c.in-None.is)
    ∙ c.loop-k.invariant

pub returns : goal.returns
returns c = sym (first_over c.args.otherwise c.loop-k.k c.args.neighbours.now c.loop-k-test.false) ∙ c.loop-k.invariant
