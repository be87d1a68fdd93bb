use Rattle.std.proofs.Common.{sym, ◌∙◌}
use Rattle.motion_candidates.specs.Predictors.{sought}
use Rattle.motion_candidates.proofs.First.{first_here, first_later, first_over}
use Rattle.motion_candidates.proofs.predictors.first_sought.Goals as goal

pub returns-in-Some : goal.returns-in-Some
returns-in-Some c =
    sym (first_here (sought c.args.search c.args.slice.now c.args.list c.args.target) c.loop-k.k c.in-Some.mv
    c.args.places.now _ c.loop-k-test.true (sym c.sought.ensures ∙ c.in-Some.is))
    ∙ c.loop-k.invariant

pub loop-k-preserved : goal.loop-k-preserved
loop-k-preserved c =
    first_later (sought c.args.search c.args.slice.now c.args.list c.args.target) c.loop-k.k c.args.places.now _
    c.loop-k-test.true (sym c.sought.ensures ∙ c.in-None.is)
    ∙ c.loop-k.invariant

pub returns : goal.returns
returns c =
    sym (first_over (sought c.args.search c.args.slice.now c.args.list c.args.target) c.loop-k.k c.args.places.now
    c.loop-k-test.false)
    ∙ c.loop-k.invariant
